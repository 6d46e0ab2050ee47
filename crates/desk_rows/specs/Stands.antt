-- The tables against what stands at the numbers of each series after a list of requests.
use Rattle.std.specs.Prelude.{◌≡◌, ◌<◌, ◌≤◌, ◌+◌, ℕ, List, [], ◌∷◌, Option, Some, None, codes, length, option_map, slice_get}
use Rattle.std.specs.Option.{option_or}
use Rattle.std.specs.FinMap as fin
use Rattle.catalogue_rules.specs.Records.{ByReference}
use Rattle.desk_catalogue.specs.Holding.{HoldsCatalogue, other_catalogues}
use Rattle.desk_tables.specs.Rows.{DeskRows, applied_at, held_at, series_at, series_between}
use Rattle.onix_records.specs.declared.effects.Effect.{Effect}
use Rattle.desk_tables.specs.declared.series.SeriesRow.{SeriesRow}
use Rattle.onix_records.specs.declared.agreements.Agreement.{Agreement}
use Rattle.onix_terms.specs.declared.party.Party.{Party}
use Rattle.series_rules.specs.Agreements.{agreements_of, between, named}
use Rattle.series_rules.specs.Firsts.{admitted, first_at}
use Rattle.series_rules.specs.Series.{BeginsWith, after_all, after_standing, effect_of_standing, kept_of}
use Rattle.series_rules.specs.declared.requests.Request.{Request}
use Rattle.series_rules.specs.declared.requests.Standing.{Standing}
use Rattle.desk_rows.specs.Texts.{CanBeKept, IsReadable, standing_text}

-- ---- one series

-- what the row of the j-th of them keeps, where hs are applied
abbrev pub applied_of : List Standing → ℕ → Option (List ℕ × Effect)
applied_of hs j =
    option_map {U = List ℕ × Effect} (λ h. (standing_text h, kept_of hs j)) (slice_get hs j)

-- f is what stands at each number of the agreement's series. Its first numbers, which are hs, are
-- applied, and all others are held
pub record SeriesStands (f : ℕ → Option Standing) (a : Agreement) (hs : List Standing)
    (rows : DeskRows) : Type 0 where
  pub can_be_kept : CanBeKept f
  pub begins : BeginsWith f a.first hs
  pub row : series_at a.name rows ≡ Some (record { agreement = a; next = a.first + length hs })
  pub applied : (j : ℕ) → applied_at a.name (a.first + j) rows ≡ applied_of hs j
  pub none_applied : (n : ℕ) → n < a.first → applied_at a.name n rows ≡ None
  pub held : (n : ℕ) → a.first + length hs ≤ n
      → held_at a.name n rows ≡ option_map standing_text (f n)
  pub none_held : (n : ℕ) → n < a.first + length hs → held_at a.name n rows ≡ None
  pub catalogue : HoldsCatalogue a.name (after_all fin.empty hs) rows

-- all that stands up to the first gap is applied
abbrev pub IsAppliedToGap : (ℕ → Option Standing) → Agreement → DeskRows → Type 0
IsAppliedToGap f a rows =
    (hs : List Standing) × (f (a.first + length hs) ≡ None) × SeriesStands f a hs rows

-- nothing is kept under that name but perhaps a series
pub record HasNothing (name : List ℕ) (rows : DeskRows) : Type 0 where
  pub held : (n : ℕ) → held_at name n rows ≡ None
  pub applied : (n : ℕ) → applied_at name n rows ≡ None
  pub catalogue : HoldsCatalogue name fin.empty rows

-- ---- all tables

-- the agreement in the row of that name
abbrev pub agreement_at : List ℕ → DeskRows → Option Agreement
agreement_at name rows = option_map (λ (r : SeriesRow). r.agreement) (series_at name rows)

-- the row of an agreement, if there is one
abbrev pub series_of : Option Agreement → DeskRows → Option SeriesRow
series_of None rows = None
series_of (Some a) rows = series_at a.name rows

-- the tables are what those requests come to, in that version: the agreements, and of each series
-- what stands up to its first gap applied, with texts and counts, all else held, and the catalogue
-- of what is applied. With the keys of the tables this says which rows there are, whatever their
-- order
pub record StandsForIn (number : ℕ) (rows : DeskRows) (L : List Request) : Type 0 where
  pub version : rows.meta ≡ record { item = codes "version"; amount = number } ∷ []
  pub by_name : (name : List ℕ) → agreement_at name rows ≡ named (agreements_of L) name
  pub by_parties : (sender : Party) (addressee : Option Party)
      → series_between sender addressee rows ≡ series_of
      (between (agreements_of L) sender addressee) rows
  pub series : (a : Agreement) → named (agreements_of L) a.name ≡ Some a
      → IsAppliedToGap (first_at L a.name) a rows
  pub others : (name : List ℕ) → named (agreements_of L) name ≡ None → HasNothing name rows

-- so they are in the version that the desk works with
abbrev pub StandsFor : DeskRows → List Request → Type 0
StandsFor = StandsForIn 2

-- ---- the tables between two statements

-- all is the same but what that series has; nothing is said of its rows
pub record SameElsewhere (name : List ℕ) (rows now : DeskRows) : Type 0 where
  pub meta : now.meta ≡ rows.meta
  pub parties : (sender : Party) (addressee : Option Party) (o : Option Agreement)
      → series_between sender addressee rows ≡ series_of o rows
      → series_between sender addressee now ≡ series_of o now
  pub series : (other : List ℕ) → ¬ (other ≡ name) → series_at other now ≡ series_at other rows
  pub held : (other : List ℕ) (n : ℕ) → ¬ (other ≡ name)
      → held_at other n now ≡ held_at other n rows
  pub applied : (other : List ℕ) (n : ℕ) → ¬ (other ≡ name)
      → applied_at other n now ≡ applied_at other n rows
  pub catalogues : (other : List ℕ) (m : ByReference) → ¬ (other ≡ name)
      → HoldsCatalogue other m rows → HoldsCatalogue other m now

-- the tables are those rows, but that the series of the agreement stands for f and is applied just
-- up to the number k
pub record CutAt (f : ℕ → Option Standing) (a : Agreement) (rows : DeskRows) (k : ℕ)
    (now : DeskRows) : Type 0 where
  pub hs : List Standing
  pub ends : k ≡ a.first + length hs
  pub stands : SeriesStands f a hs now
  pub elsewhere : SameElsewhere a.name rows now

-- the rows of the catalogue of the series became those after h, with that effect, and all others
-- stayed
pub record IsAppliedAt (name : List ℕ) (m : ByReference) (h : Standing) (rows : DeskRows)
    (effect : Effect) (now : DeskRows) : Type 0 where
  pub catalogue : HoldsCatalogue name (after_standing m h) now
  pub counts : effect ≡ effect_of_standing m h
  pub others : other_catalogues name now ≡ other_catalogues name rows

-- ---- one request

-- the request may put h at the number n of the series of the agreement, which stands
pub record IsFor (L : List Request) (r : Request) (a : Agreement) (n : ℕ) (h : Standing)
    : Type 0 where
  pub agreed : named (agreements_of L) a.name ≡ Some a
  pub left : agreements_of (r ∷ L) ≡ agreements_of L
  pub admits : admitted (agreements_of L) r
      ≡ Some (record { series = a.name; number = n; standing = h })
  pub above : a.first ≤ n
  pub below : n < 1000000000
  pub readable : IsReadable h

-- and nothing stands there
abbrev pub IsNew : List Request → Request → Agreement → ℕ → Standing → Type 0
IsNew L r a n h = IsFor L r a n h × (first_at L a.name n ≡ None)

-- the text of what the tables have at a number
abbrev pub stored_text : List ℕ → ℕ → DeskRows → Option (List ℕ)
stored_text name n rows =
    option_or (option_map (λ (p : List ℕ × Effect). p.0) (applied_at name n rows))
    (held_at name n rows)
