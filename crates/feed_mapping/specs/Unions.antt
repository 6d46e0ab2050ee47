-- Several territories as one.
use Rattle.std.specs.Prelude.{ℕ, Bool, true, false, ◌&&◌, ◌||◌, ◌==◌, not, List, [], ◌∷◌, Option}
use Rattle.std.specs.Prelude.{Some, None, filter, if◌then◌else◌, codes}
use Rattle.std.specs.List.{filter_map, flat_map, list_any}
use Rattle.std.specs.Str.{bytes_eq}
use Rattle.onix_terms.specs.Code.{country_of}
use Rattle.onix_terms.specs.declared.territory.Territory.{Territory}

-- whether a country lies in a territory: it is not excluded, and the territory is the world or
-- includes it
abbrev pub lies_in : List ℕ → Territory → Bool
lies_in country t =
    not (list_any (bytes_eq country) t.excluded)
    && (t.world || list_any (bytes_eq country) t.included)

unfoldable pub letters : List ℕ
letters = codes "ABCDEFGHIJKLMNOPQRSTUVWXYZ"

-- the countries whose code begins with the one letter, and goes on with one of the others
abbrev pub countries_from : List ℕ → ℕ → List (List ℕ)
countries_from seconds first = filter_map (λ second. country_of (first ∷ second ∷ [])) seconds

-- all countries in order, from AA to ZZ
unfoldable pub countries : List (List ℕ)
countries = flat_map (countries_from letters) letters

-- whether the code of a country begins with this letter
abbrev pub begins : ℕ → List ℕ → Bool
begins first [] = false
begins first (b ∷ code) = first == b

-- whether a territory names a country with this first letter
abbrev pub names : ℕ → Territory → Bool
names first t = list_any (begins first) t.included || list_any (begins first) t.excluded

module _ (territories : List Territory) where
  -- whether a country lies in one of them
  abbrev pub lies_in_one : List ℕ → Bool
  lies_in_one country = list_any (lies_in country) territories

  -- the countries that lie in one of the territories, or those that lie in none
  abbrev pub is_wanted : Bool → List ℕ → Bool
  is_wanted true country = lies_in_one country
  is_wanted false country = not (lies_in_one country)

  abbrev pub wanted : Bool → List (List ℕ)
  wanted inside = filter (is_wanted inside) countries

  -- whether one of them is the world, or the world without some countries
  abbrev pub has_world : Bool
  has_world = list_any (λ t. t.world) territories

  -- whether a country is wanted that no territory names
  abbrev pub wants_unnamed : Bool → Bool
  wants_unnamed true = has_world
  wants_unnamed false = not has_world

  -- whether a country with this first letter may be wanted
  abbrev pub may_be_wanted : Bool → ℕ → Bool
  may_be_wanted inside first = wants_unnamed inside || list_any (names first) territories

abbrev pub world_without : List (List ℕ) → Territory
world_without outside = record { included = []; world = true; excluded = outside }

-- the territory of these countries; nothing, where there is none, since a territory that includes
-- nothing is the world
abbrev pub of_countries : List (List ℕ) → Option Territory
of_countries [] = None
of_countries (country ∷ inside) =
    Some (record { included = country ∷ inside; world = false; excluded = [] })

-- The union of territories: the countries that lie in one of them and nothing else, or, where the
-- world is one of them, the world without the countries that lie in none. Nothing, where no country
-- lies in them.
abbrev pub union : List Territory → Option Territory
union territories =
    if has_world territories then Some (world_without (wanted territories false))
    else of_countries (wanted territories true)
