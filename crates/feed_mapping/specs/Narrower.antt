-- The narrower territory before the world: a Price for countries goes before the Prices beside it
-- that are alike in all else, and hold in the world.
use Rattle.std.specs.Prelude.{ℕ, Bool, not, ◌&&◌, ◌||◌, ◌==◌, is_none, List, [], ◌∷◌, ◌++◌, if◌then◌else◌}
use Rattle.std.specs.Prelude.{Option, Some, None, filter, fold, length, nat_lt}
use Rattle.std.specs.List.{filter_map, flat_map, list_any}
use Rattle.std.specs.Option.{option_eq}
use Rattle.std.specs.Ordering.{int_eq}
use Rattle.std.specs.Str.{bytes_eq}
use Rattle.onix_terms.specs.Code.{country_of}
use Rattle.onix_terms.specs.Territory.{countries_text, words_of}
use Rattle.feed_mapping.specs.Records.{parsed_term}
use Rattle.feed_mapping.specs.declared.narrower.Alike.{Alike}
use Rattle.feed_mapping.specs.declared.narrower.First.{First}

-- whether a Price that goes before others is alike one of them: in type and currency, in the number
-- of copies, and in the first and the last day; one that says no type or currency is alike in any
abbrev pub is_alike : Alike → Alike → Bool
is_alike first other =
    ((is_none first.kind.price_type
    || option_eq bytes_eq first.kind.price_type other.kind.price_type)
    && (is_none first.kind.currency
    || option_eq bytes_eq first.kind.currency other.kind.currency))
    && ((first.copies == other.copies)
    && (option_eq int_eq first.days.first other.days.first
    && option_eq int_eq first.days.last other.days.last))

-- the countries that a text names, in order
abbrev pub countries_in : List ℕ → List (List ℕ)
countries_in text = filter_map (parsed_term country_of) (words_of text)

-- the countries that a text names, less these
abbrev pub countries_without : List (List ℕ) → List ℕ → List (List ℕ)
countries_without gone text = filter (λ c. not (list_any (bytes_eq c) gone)) (countries_in text)

-- one country more, unless it is there
abbrev pub with_country : List (List ℕ) → List ℕ → List (List ℕ)
with_country found country =
    if list_any (bytes_eq country) found then found else found ++ country ∷ []

-- countries behind others, each once
abbrev pub each_once : List (List ℕ) → List (List ℕ) → List (List ℕ)
each_once found countries = fold with_country found countries

-- the countries of the Prices that go before one that is alike in this
abbrev pub countries_before : List First → Alike → List (List ℕ)
countries_before firsts alike =
    flat_map (λ f. if is_alike f.alike alike then f.countries else []) firsts

-- these countries, which a Price excludes, and those of the Prices that go before it, each once
abbrev pub all_excluded : List First → Alike → List ℕ → List (List ℕ)
all_excluded firsts alike own =
    each_once (each_once [] (countries_in own)) (countries_before firsts alike)

-- CountriesExcluded of a Price of the world with these of its own, as a union is written: all of
-- them. None, where no Price that goes before it comes to its own.
abbrev pub excluded_then : List First → Alike → List ℕ → Option (List ℕ)
excluded_then firsts alike own =
    if nat_lt (length (each_once [] (countries_in own))) (length (all_excluded firsts alike own))
    then Some (countries_text (all_excluded firsts alike own)) else None
