-- Which terms an earlier one always precedes.
use Rattle.std.specs.Prelude.{ℕ, List, Bool, true, false, ◌&&◌, Option, Some, None}
use Rattle.std.specs.List.{list_all}
use Rattle.feed_terms.specs.Fits.{is_among, is_asked}
use Rattle.feed_terms.specs.declared.term.Rate.{Rate}
use Rattle.feed_terms.specs.declared.term.Rate.TheVariants.{Feed, Fixed}
use Rattle.feed_terms.specs.declared.term.Term.{Term}

-- whether each of some texts is among others
abbrev pub are_among : List (List ℕ) → List (List ℕ) → Bool
are_among others texts = list_all (is_among others) texts

-- whether codes that a term asks for are among those of another, if that asks for one
abbrev pub takes_codes : Option (List (List ℕ)) → Option (List (List ℕ)) → Bool
takes_codes None codes = true
takes_codes (Some asked) None = false
takes_codes (Some asked) (Some codes) = are_among asked codes

-- whether a term goes by a Discount only where another does
abbrev pub takes_discount : Rate → Rate → Bool
takes_discount Feed (Fixed percent) = false
takes_discount _ _ = true

-- whether a term goes by a Tax only where another does
abbrev pub takes_tax : Option Rate → Option Rate → Bool
takes_tax (Some Feed) None = false
takes_tax (Some Feed) (Some (Fixed percent)) = false
takes_tax _ _ = true

-- whether a term fits each price that another fits
abbrev pub takes_all : Term → Term → Bool
takes_all first later =
    are_among first.types later.types && takes_codes first.codes later.codes
    && is_asked first.scheme later.scheme && is_asked first.supplier later.supplier
    && is_asked first.currency later.currency
    && takes_discount first.percent later.percent && takes_tax first.tax later.tax
