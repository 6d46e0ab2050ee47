-- The days between which a Price holds, by its PriceDates.
use Prim.Native.String.{String}
use Rattle.std.specs.Prelude.{ℕ, ℤ, Bool, true, ◌==◌, ◌&&◌, ◌||◌, not, List, [], ◌∷◌, ◌++◌, length, if◌then◌else◌}
use Rattle.std.specs.Prelude.{map, fold, int_lt, take, drop, find, Option, Some, None, Result, Ok}
use Rattle.std.specs.Prelude.{Err, codes, option_map, option_and_then, unwrap_or}
use Rattle.std.specs.List.{list_any}
use Rattle.std.specs.Option.{option_map_or, option_or, ok_or}
use Rattle.std.specs.Result.{result_map_both}
use Rattle.std.specs.Str.{bytes_eq}
use Rattle.feed_xml.specs.Grammar.{is_filled}
use Rattle.feed_outline.specs.Nodes.{Nodes}
use Rattle.onix_terms.specs.Day.{day_of}
use Rattle.onix_terms.specs.Options.{◌>>=◌}
use Rattle.feed_mapping.specs.Again.{again_in}
use Rattle.feed_mapping.specs.Elements.{Composite, Element, each_at, some_at, text_at}
use Rattle.feed_mapping.specs.Notes.{Reason, foreign, is_wrong, wrong}
use Rattle.feed_mapping.specs.Records.{first_some, parsed_term}
use Rattle.feed_mapping.specs.declared.dates.Days.{Days}
use Rattle.feed_mapping.specs.declared.notes.Foreign.TheVariants.{DateFormat}
use Rattle.feed_mapping.specs.declared.notes.Wrong.TheVariants.{ComesAgain, DateRole, Day, Month}
use Rattle.feed_mapping.specs.declared.notes.Wrong.TheVariants.{NoDate, NotTwoDays, OtherDay, Year}

-- the first and the last day, each where there is one
abbrev pub days : Option ℤ → Option ℤ → Days
days first last = record { first = first; last = last }

-- these days, or why they are none
abbrev pub Dated : Type 0
Dated = Result Days Reason

-- ---- what a Date says

-- the day of eight digits
abbrev pub parsed_day : List ℕ → Option ℤ
parsed_day text = parsed_term day_of text

-- what may stand behind a day: nothing, or a T and the time
abbrev pub is_time : List ℕ → Bool
is_time [] = true
is_time (b ∷ more) = b == 84

-- The bytes of a text at the letters of a form, as YYYY-MM-DD, whose hyphens it has too, where what
-- is behind them passes
abbrev pub digits_by : (List ℕ → Bool) → List ℕ → List ℕ → Option (List ℕ)
digits_by ends [] text = if ends text then Some [] else None
digits_by ends (f ∷ form) [] = None
digits_by ends (f ∷ form) (b ∷ text) =
    if f == 45 then (if b == 45 then digits_by ends form text else None)
    else option_map (λ digits. b ∷ digits) (digits_by ends form text)

-- those of the first of these forms that it has
abbrev pub digits_in : (List ℕ → Bool) → List String → List ℕ → Option (List ℕ)
digits_in ends forms text = first_some (map (λ form. digits_by ends (codes form) text) forms)

-- The first and the last day of digits: with these behind them, and with the first of those that
-- make a day
abbrev pub span : String → List String → List ℕ → Option Days
span first lasts digits = do
  a ← parsed_day (digits ++ codes first)
  b ← first_some (map (λ last. parsed_day (digits ++ codes last)) lasts)
  Some (days (Some a) (Some b))

-- the formats of a day (00, and with a time 13 and 14), of a month and of a year
abbrev pub formats : List (List ℕ)
formats = codes "00" ∷ codes "13" ∷ codes "14" ∷ codes "01" ∷ codes "05" ∷ []

-- The first and the last day of a text of one of these formats: of a month, of a year, or of a day,
-- behind which nothing stands or a time
abbrev pub parsed_days : List ℕ → List ℕ → Dated
parsed_days format text =
    if bytes_eq format (codes "01")
    then ok_or (option_and_then (span "01" ("31" ∷ "30" ∷ "29" ∷ "28" ∷ []))
    (digits_in (bytes_eq []) ("YYYYMM" ∷ "YYYY-MM" ∷ []) text)) (wrong Month text)
    else if bytes_eq format (codes "05")
    then ok_or (option_and_then (span "0101" ("1231" ∷ []))
    (digits_in (bytes_eq []) ("YYYY" ∷ []) text)) (wrong Year text)
    else ok_or (option_and_then (span "" ("" ∷ []))
    (digits_in is_time ("YYYYMMDD" ∷ "YYYY-MM-DD" ∷ []) text)) (wrong Day text)

-- the two days of a date of 16 bytes
unfoldable pub two_days : List ℕ → Dated
two_days text =
    if length text == 16
    then ok_or (do
      first ← parsed_day (take 8 text)
      last ← parsed_day (drop 8 text)
      Some (days (Some first) (Some last))) (wrong Day text)
    else Err (wrong NotTwoDays text)

-- ---- a PriceDate

-- what a PriceDate says, unless this element comes again in it
abbrev pub unless_again : Option (List ℕ) → Dated → Dated
unless_again (Some name) (Ok d) = Err (wrong ComesAgain name)
unless_again other dated = dated

module _ (nodes : Nodes) where
  -- the Date of a PriceDate: of several the first one that has a text
  abbrev pub date_in : Option Element
  date_in = find (λ e. is_filled e.text) (map (λ c. c.element) (each_at "Date" nodes))

  -- the format of a PriceDate: the attribute of its Date, else its DateFormat, else 00
  abbrev pub format_in : List ℕ
  format_in =
      unwrap_or (option_or (option_and_then (λ d. d.tag.format) date_in)
      (some_at "DateFormat" nodes)) (codes "00")

  -- the days of the Date of a role, where its format is one of these
  abbrev pub role_days : List (List ℕ) → (List ℕ → Dated) → List ℕ → Dated
  role_days allowed read role =
      if list_any (bytes_eq format_in) allowed
      then option_map_or (λ date. read date.text) date_in (Err (wrong NoDate role))
      else Err (foreign DateFormat format_in)

  -- what a PriceDate says by its role: the first day, the last day or both
  abbrev pub days_by_role : Dated
  days_by_role =
      let role = text_at "PriceDateRole" nodes in
      let one = role_days formats (parsed_days format_in) role in
      if bytes_eq role (codes "14") then result_map_both (λ d. days d.first None) (λ e. e) one
      else if bytes_eq role (codes "15") then result_map_both (λ d. days None d.last) (λ e. e) one
      else if bytes_eq role (codes "24") then role_days (codes "06" ∷ []) two_days role
      else Err (wrong DateRole role)

  -- the same, unless an element in it comes again
  abbrev pub days_of : Dated
  days_of = unless_again (again_in nodes) days_by_role

-- ---- several PriceDates

-- two days are one, where both are there
abbrev pub are_one : Option ℤ → Option ℤ → Bool
are_one (Some a) (Some b) = not (int_lt a b || int_lt b a)
are_one a b = true

-- the days of both, which give no first and no last day that is another
abbrev pub or_days : Days → Days → Dated
or_days a b =
    if are_one a.first b.first && are_one a.last b.last
    then Ok (days (option_or a.first b.first) (option_or a.last b.last))
    else Err (wrong OtherDay [])

-- one more behind what others say: of two reasons the first that is foreign, else the first
abbrev pub and_days : Dated → Dated → Dated
and_days (Ok a) (Ok b) = or_days a b
and_days (Ok a) (Err e) = Err e
and_days (Err e) (Ok b) = Err e
and_days (Err e) (Err f) = Err (if is_wrong e.kind && not (is_wrong f.kind) then f else e)

-- the days of PriceDates behind others that say this
abbrev pub days_behind : Dated → List Composite → Dated
days_behind before dates = fold (λ held c. and_days held (days_of c.below)) before dates

-- the days of a Price, or why its PriceDates leave it out
abbrev pub days_in : Nodes → Dated
days_in nodes = days_behind (Ok (days None None)) (each_at "PriceDate" nodes)
