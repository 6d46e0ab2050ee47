-- The request that a piece of a batch is.
use Prim.Native.String.{String}
use Rattle.std.specs.Prelude.{ℕ, List, [], ◌∷◌, Option, Some, None, if◌then◌else◌, option_map, codes}
use Rattle.std.specs.List.{list_all}
use Rattle.std.specs.Str.{bytes_eq}
use Rattle.onix_terms.specs.Code.{isbn13_of}
use Rattle.onix_terms.specs.Day.{day_of}
use Rattle.onix_terms.specs.Number.{number_of}
use Rattle.onix_terms.specs.SeriesName.{series_name_of}
use Rattle.onix_terms.specs.Options.{◌>>=◌}
use Rattle.onix_records.specs.Fields.{is_clean, optional_party, party_of}
use Rattle.onix_records.specs.declared.agreements.Agreement.{Agreement}
use Rattle.price_rules.specs.Queries.{price_query, until}
use Rattle.price_rules.specs.declared.offer.PriceQuery.{PriceQuery}
use Rattle.price_rules.specs.declared.offer.CalendarQuery.{CalendarQuery}
use Rattle.series_rules.specs.declared.requests.Request.{Request}
use Rattle.series_rules.specs.declared.requests.Request.TheVariants.{Agree, AskCalendar, AskCatalogue, AskChoice, AskGaps, AskPrice, Deliver, Malformed, Waive}
use Rattle.desk_texts.specs.Records.{Fields, Records, begins_with}

-- the agreement that the fields after `Agree` make: a name, a sender, perhaps an addressee, and a
-- first number
unfoldable pub agreement_of : Fields → Option Agreement
agreement_of (name ∷ sender_type ∷ sender_value ∷ to_type ∷ to_value ∷ first ∷ []) = do
  n ← series_name_of name
  f ← number_of first
  sender ← party_of sender_type sender_value
  addressee ← optional_party to_type to_value
  Some (record { name = n; sender = sender; addressee = addressee; first = f })
agreement_of _ = None

-- the waiver that the fields after `Waive` make
abbrev pub waiver_of : Fields → Option Request
waiver_of (series ∷ number ∷ []) = do
  s ← series_name_of series
  n ← number_of number
  Some (Waive s n)
waiver_of _ = None

-- the series that the one field after a name of a question names
abbrev pub series_of : Fields → Option (List ℕ)
series_of (series ∷ []) = series_name_of series
series_of _ = None

-- the prices on a day that these fields ask for: a country, a currency and a type, and perhaps a
-- quantity
unfoldable pub prices_on : List ℕ → Fields → Option PriceQuery
prices_on day (country ∷ currency ∷ price_type ∷ []) =
    price_query day country currency price_type None
prices_on day (country ∷ currency ∷ price_type ∷ quantity ∷ []) =
    price_query day country currency price_type (Some quantity)
prices_on day _ = None

-- the article and the prices that the fields after `AskPrice` or `AskChoice` ask for
unfoldable pub prices_asked : Fields → Option (List ℕ × PriceQuery)
prices_asked (isbn ∷ day ∷ fields) = do
  i ← isbn13_of isbn
  q ← prices_on day fields
  Some (i, q)
prices_asked _ = None

-- the article and the calendar that the fields after `AskCalendar` ask for
unfoldable pub calendar_asked : Fields → Option (List ℕ × CalendarQuery)
calendar_asked (isbn ∷ from ∷ to ∷ fields) = do
  i ← isbn13_of isbn
  first ← prices_on from fields
  last ← day_of to
  Some (i, until first last)
calendar_asked _ = None

-- the questions, each by its name, with what the fields after it make
abbrev pub question_forms : List (String × (Fields → Option Request))
question_forms =
    ("AskPrice", λ fields. option_map (λ (i, q). AskPrice i q) (prices_asked fields))
    ∷ ("AskChoice", λ fields. option_map (λ (i, q). AskChoice i q) (prices_asked fields))
    ∷ ("AskCalendar", λ fields. option_map (λ (i, q). AskCalendar i q) (calendar_asked fields))
    ∷ ("AskGaps", λ fields. option_map AskGaps (series_of fields))
    ∷ ("AskCatalogue", λ fields. option_map AskCatalogue (series_of fields)) ∷ []

-- all requests of one record
abbrev pub request_forms : List (String × (Fields → Option Request))
request_forms =
    ("Agree", λ fields. option_map Agree (agreement_of fields)) ∷ ("Waive", waiver_of)
    ∷ question_forms

-- the request that the fields after a name make, by the one of these that has the name
abbrev pub request_by : List (String × (Fields → Option Request)) → List ℕ → Fields
    → Option Request
request_by [] name fields = None
request_by (form ∷ forms) name fields =
    if bytes_eq name (codes form.0) then form.1 fields else request_by forms name fields

-- the request that a record is, unless one of its fields is wrong
abbrev pub row_request : Fields → Option Request
row_request [] = None
row_request (name ∷ fields) =
    if list_all is_clean (name ∷ fields) then request_by request_forms name fields else None

-- a request of one record, with no more records behind it
abbrev pub alone : Option Request → Records → Request
alone None more = Malformed 1
alone (Some r) [] = r
alone (Some r) (next ∷ more) = Malformed 2

-- the request that a piece is: a delivery, or one record; else malformed at row 1, or at row 2
-- where another record follows. A question about prices is for one copy where it names no quantity
abbrev pub request_of : Records → Request
request_of [] = Malformed 1
request_of (row ∷ more) =
    if begins_with ("Message" ∷ []) row then Deliver (row ∷ more)
    else alone (row_request row) more
