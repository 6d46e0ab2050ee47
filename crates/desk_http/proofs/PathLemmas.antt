-- A path leads where the router takes it.
use Rattle.std.proofs.Common.{◌≡◌, ◌∙◌, ℕ, List, [], Option, Some, None, Result, Ok, Err, Bool, true, false, refl, sym, ap, subst}
use Rattle.std.specs.Prelude.{bytes_eq, codes, if◌then◌else◌, length, nat_lt}
use Rattle.httparse.specs.Grammar.{RequestHead}
use Rattle.series_rules.specs.declared.requests.Request.{Request}
use Rattle.http_requests.specs.Fields.{field_values}
use Rattle.http_requests.specs.Head.{HasHead}
use Rattle.http_requests.specs.Steps.{◌>>=◌, or_refuse}
use Rattle.http_requests.specs.declared.refusal.Refusal.{Refusal}
use Rattle.http_requests.specs.declared.refusal.Refusal.TheVariants as refusal
use Rattle.desk_http.specs.Asks.{AsksFor, asked_at, asks_of, request_at, request_by, wanted_by, with_head}
use Rattle.desk_http.specs.Keys.{part_at, route_at}
use Rattle.desk_http.specs.Paths.{IsPathOf, LeadsTo}
use Rattle.desk_http.specs.Routing.{method_name, method_of, path_of, route_asked, route_by, route_taken}
use Rattle.desk_http.specs.declared.routes.Route.{Route}
use Rattle.desk_http.specs.declared.routes.Route.TheVariants as r
use Rattle.desk_http.proofs.PlaceLemmas.{part_of_path, place_of_route, route_of_path}
use Rattle.desk_http.proofs.Places.{HasSegment, Place, messages, price, choice, calendar, gaps, catalogue, path_text, part_of, route_of}
use Rattle.desk_http.proofs.Places.{IsPathOf as IsAt}

-- the router takes the path of a place to its route and its variable part
at_place : (path : List ℕ) (place : Place) → path ≡ path_text place → HasSegment place
    → (route_at path ≡ Some (route_of place)) × (part_at (route_of place) path ≡ part_of place)
at_place path place is h =
    subst (λ p. (route_at p ≡ Some (route_of place)) × (part_at (route_of place) p ≡ part_of place)) (sym is)
    (route_of_path place h, part_of_path place h)

pub takes : (path : List ℕ) (route : Route) (part : List ℕ) → IsPathOf path route part → (route_at path ≡ Some route) × (part_at route path ≡ part)
takes path r.Messages part is = ((at_place path messages is.0 tt).0, sym is.1)
takes path r.Price part is = at_place path (price part) is.0 is.1
takes path r.Choice part is = at_place path (choice part) is.0 is.1
takes path r.Calendar part is = at_place path (calendar part) is.0 is.1
takes path r.Gaps part is = at_place path (gaps part) is.0 is.1
takes path r.Catalogue part is = at_place path (catalogue part) is.0 is.1

abbrev HasPath : List ℕ → Route → Type 0
HasPath path route = (part : List ℕ) × IsPathOf path route part

pub only : (path : List ℕ) (route : Route) → route_at path ≡ Some route → HasPath path route
only path route e =
    let at = place_of_route path route e in
    subst (HasPath path) at.2 (by at.0 at.1)
  where
    by : (place : Place) → IsAt path place → HasPath path (route_of place)
    by messages is = ([], (is.text, refl))
    by (price isbn) is = (isbn, (is.text, is.segment))
    by (choice isbn) is = (isbn, (is.text, is.segment))
    by (calendar isbn) is = (isbn, (is.text, is.segment))
    by (gaps name) is = (name, (is.text, is.segment))
    by (catalogue name) is = (name, (is.text, is.segment))

-- each path leads to a route or to none
leads : (path : List ℕ) → (found : Option Route) × (part : List ℕ) × LeadsTo path found part
leads path = by (route_at path) refl
  where
    by : (o : Option Route) → route_at path ≡ o → (found : Option Route) × (part : List ℕ) × LeadsTo path found part
    by None e = (None, [], λ route part is. cc (e, (takes path route part is).0))
    by (Some route) e = (let at = only path route e in (Some route, at.0, at.1))

found_is : (path : List ℕ) (found : Option Route) (part : List ℕ) → LeadsTo path found part → route_at path ≡ found
found_is path (Some route) part is = (takes path route part is).0
found_is path None part none = by (route_at path) refl
  where
    by : (o : Option Route) → route_at path ≡ o → route_at path ≡ None
    by None e = e
    by (Some route) e = (let at = only path route e in absurd (none route at.0 at.1))

-- a route that is asked is the one of the path
is_found : (found : Option Route) (h : RequestHead) (route : Route) → route_taken found h ≡ Ok route → found ≡ Some route
is_found found h route e = by (nat_lt 0 (length (field_values (codes "transfer-encoding") h))) found e
  where
    by_method : (r : Route) (v : Bool) → (if v then Ok r else Err (refusal.MethodNotAllowed (method_of r))) ≡ Ok route → Some r ≡ Some route
    by_method r true e = cc e
    by_method r false e = cc e

    by : (t : Bool) (found : Option Route) → (if t then Err refusal.TransferEncoding else or_refuse refusal.NotFound found >>= route_by h.method) ≡ Ok route → found ≡ Some route
    by true found e = cc e
    by false None e = cc e
    by false (Some r) e = by_method r (bytes_eq h.method (method_name (method_of r))) e

same_then : (taken : Result Route Refusal) (f g : Route → Result Request Refusal) → ((route : Route) → taken ≡ Ok route → f route ≡ g route) → (taken >>= f) ≡ (taken >>= g)
same_then (Err why) f g same = refl
same_then (Ok route) f g same = same route refl

part_is : (path : List ℕ) (found : Option Route) (part : List ℕ) → LeadsTo path found part → (route : Route) → found ≡ Some route → part_at route path ≡ part
part_is path None part none route e = cc e
part_is path (Some r) part is route e = subst (λ x. part_at x path ≡ part) (let same : r ≡ route = cc e in same) (takes path r part is).1

at_part : (h : RequestHead) (rest : List ℕ) (route : Route) → request_by h rest (part_at route (path_of h.target)) route ≡ request_at h rest route
at_part h rest r.Messages = refl
at_part h rest r.Price = refl
at_part h rest r.Choice = refl
at_part h rest r.Calendar = refl
at_part h rest r.Gaps = refl
at_part h rest r.Catalogue = refl

-- what is asked for by where the path leads is what the router makes of it
pub asked_same : (h : RequestHead) (rest : List ℕ) (found : Option Route) (part : List ℕ) → LeadsTo (path_of h.target) found part
    → asked_at h rest part found ≡ asks_of h rest
unfolding asks_of route_asked
asked_same h rest found part is =
    same_then (route_taken found h) (request_by h rest part) (request_at h rest)
    (λ route taken. ap (λ x. request_by h rest x route) (sym (part_is (path_of h.target) found part is route (is_found found h route taken))) ∙ at_part h rest route)
    ∙ ap (λ o. route_taken o h >>= request_at h rest) (sym (found_is (path_of h.target) found part is))

pub asks_by : (input rest : List ℕ) (h : RequestHead) → HasHead input h rest → AsksFor input (wanted_by (asks_of h rest))
asks_by input rest h has =
    let to = leads (path_of h.target) in
    subst (λ a. AsksFor input (wanted_by a)) (asked_same h rest to.0 to.1 to.2) (with_head to.1 to.0 has to.2)
