-- Which of the desk's routes a path takes: a literal part, one segment, a literal part.
use Rattle.std.specs.Prelude.{ℕ, zero, suc, List, [], ◌∷◌, length, drop, Option, Some, None, cond, nat_eq, if◌then◌else◌, option_map, ltb, ◌==◌, ◌&&◌, codes}
use Rattle.std.specs.List.{starts_with}
use Rattle.matchit.specs.Rows.{Rows, prepend}
use Rattle.matchit.specs.Seek.{slash, same_text, or_else}
use Rattle.desk_http.specs.declared.routes.Route.{Route}
use Rattle.desk_http.specs.declared.routes.Route.TheVariants as r

-- the key of the first row that is the path
abbrev pub key_of : List ℕ → Rows → Option ℕ
key_of path [] = None
key_of path ((t, key) ∷ r) = cond (same_text t path) (Some key) (key_of path r)

-- the bytes before the first slash, and those from it on
abbrev pub before_slash : List ℕ → List ℕ
before_slash [] = []
before_slash (b ∷ p) = cond (b == slash) [] (b ∷ before_slash p)

abbrev pub from_slash : List ℕ → List ℕ
from_slash [] = []
from_slash (b ∷ p) = cond (b == slash) (b ∷ p) (from_slash p)

-- after a parameter of one segment the walk goes on at the first slash
abbrev pub behind_part : Rows → List ℕ → Option ℕ
behind_part tails p =
    cond (ltb 0 (length (before_slash p))
    && ltb 0 (length (from_slash p))) (key_of (from_slash p) (prepend (slash ∷ []) tails)) None

-- the tails behind the part, in the order of the rows
abbrev pub article_tails : Rows
article_tails = (codes "calendar", 0) ∷ (codes "choice", 1) ∷ (codes "price", 2) ∷ []

abbrev pub series_tails : Rows
series_tails = (codes "catalogue", 4) ∷ (codes "gaps", 5) ∷ []

abbrev pub message_rows : Rows
message_rows = (codes "/messages", 3) ∷ []

-- the key of the row that takes the path
abbrev pub key_at : List ℕ → Option ℕ
key_at path =
    or_else
    (cond (starts_with nat_eq path (codes "/articles/"))
    (behind_part article_tails (drop 10 path)) None)
    (or_else (key_of path message_rows)
    (cond (starts_with nat_eq path (codes "/series/"))
    (behind_part series_tails (drop 8 path)) None))

-- the route under a key
abbrev pub route_of_key : ℕ → Route
route_of_key zero = r.Calendar
route_of_key (suc zero) = r.Choice
route_of_key (suc (suc zero)) = r.Price
route_of_key (suc (suc (suc zero))) = r.Messages
route_of_key (suc (suc (suc (suc zero)))) = r.Catalogue
route_of_key _ = r.Gaps

-- the route of a path
abbrev pub route_at : List ℕ → Option Route
route_at path = option_map route_of_key (key_at path)

-- the segment of a path that follows these bytes
abbrev pub segment_behind : List ℕ → List ℕ → List ℕ
segment_behind front path =
    if starts_with nat_eq path front then before_slash (drop (length front) path) else []

-- the variable segment of a path
abbrev pub part_at : Route → List ℕ → List ℕ
part_at r.Messages path = []
part_at r.Gaps path = segment_behind (codes "/series/") path
part_at r.Catalogue path = segment_behind (codes "/series/") path
part_at _ path = segment_behind (codes "/articles/") path
