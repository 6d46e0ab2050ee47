-- How much of an input is wanted at most.
use Rattle.std.proofs.Common.{◌≡◌, ◌≤◌, ℕ, Bool, true, false, List, Option, Some, None, Result, Ok, Err, refl, ap, arith, length, length-append, inl, inr}
use Rattle.std.specs.Prelude.{codes, nat_lt}
use Rattle.std.specs.Str.Parse.{digits_value}
use Rattle.std.proofs.lemmas.Bool.{ltb-false}
use Rattle.httparse.specs.Grammar.{RequestHead, print_request}
use Rattle.csv_records.specs.RecordTexts.{limit}
use Rattle.http_requests.specs.Fields.{at_most_one, field_values, is_numeral, size_by, size_written}
use Rattle.http_requests.specs.Posted.{most_posted, size_asked, size_or_none}
use Rattle.http_requests.specs.Steps.{◌>>=◌}
use Rattle.http_requests.specs.declared.refusal.Refusal.{Refusal}
use Rattle.http_requests.specs.declared.refusal.Refusal.TheVariants as refusal
use Rattle.desk_http.specs.Asks.{most_at, most_behind, most_by}
use Rattle.desk_http.specs.Laws.{WantedIsBounded}
use Rattle.desk_http.specs.Routing.{route_asked}
use Rattle.desk_http.specs.declared.routes.Route.{Route}
use Rattle.desk_http.specs.declared.routes.Route.TheVariants as route

written_fits : (text : List ℕ) → size_or_none (size_written text) ≤ limit
written_fits text = by_numeral (is_numeral text) refl
  where
    by_value : (t : Bool) → nat_lt limit (digits_value 10 text) ≡ t → is_numeral text ≡ true → size_or_none (size_written text) ≤ limit
    by_value true above numeral = rw (numeral, above) (omega arith)
    by_value false within numeral = rw (numeral, within) (ltb-false limit (digits_value 10 text) within)

    by_numeral : (t : Bool) → is_numeral text ≡ t → size_or_none (size_written text) ≤ limit
    by_numeral true numeral = by_value (nat_lt limit (digits_value 10 text)) refl numeral
    by_numeral false other = rw other (omega arith)

size_fits : (only : Result (Option (List ℕ)) Refusal) → size_or_none (only >>= size_by) ≤ limit
size_fits (Ok None) = omega arith
size_fits (Ok (Some value)) = written_fits value
size_fits (Err more) = omega arith

posted_fits : (h : RequestHead) → most_posted h ≤ limit
unfolding most_posted size_asked
posted_fits h = size_fits (at_most_one refusal.BadLength (field_values (codes "content-length") h))

at_fits : (h : RequestHead) (r : Route) → most_at h r ≤ limit
at_fits h route.Messages = posted_fits h
at_fits h route.Price = omega arith
at_fits h route.Choice = omega arith
at_fits h route.Calendar = omega arith
at_fits h route.Gaps = omega arith
at_fits h route.Catalogue = omega arith

by_fits : (h : RequestHead) (r : Result Route Refusal) → most_by h r ≤ limit
by_fits h (Ok r) = at_fits h r
by_fits h (Err why) = omega arith

behind_fits : (h : RequestHead) → most_behind h ≤ limit
unfolding most_behind
behind_fits h = by_fits h (route_asked h)

pub wanted_is_bounded : WantedIsBounded
wanted_is_bounded taken (inl few) = omega (arith, few)
wanted_is_bounded taken (inr (h, rest, has, few)) =
    omega (arith, few, has.fits, behind_fits h, ap length has.reads.1, length-append (print_request h) rest)
