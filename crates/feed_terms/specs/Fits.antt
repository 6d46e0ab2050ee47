-- Which term fits a price.
use Rattle.std.specs.Prelude.{ℕ, List, [], ◌∷◌, ◌++◌, Bool, true, false, ◌&&◌, Option, Some, None, not}
use Rattle.std.specs.Prelude.{find, is_some}
use Rattle.std.specs.Option.{option_map_or}
use Rattle.std.specs.List.{list_any}
use Rattle.std.specs.Str.{bytes_eq}
use Rattle.onix_terms.specs.declared.party.Party.{Party}
use Rattle.feed_terms.specs.declared.price.Discount.{Discount}
use Rattle.feed_terms.specs.declared.price.GivenPrice.{GivenPrice}
use Rattle.feed_terms.specs.declared.price.SaidCode.{SaidCode}
use Rattle.feed_terms.specs.declared.term.Rate.{Rate}
use Rattle.feed_terms.specs.declared.term.Rate.TheVariants.{Feed, Fixed}
use Rattle.feed_terms.specs.declared.term.Term.{Term}

-- the identifier of a supplier, as a term has it
abbrev pub supplier_text : Party → List ℕ
supplier_text party = party.id_type ++ 44 ∷ party.id_value

-- whether a text is among these
abbrev pub is_among : List (List ℕ) → List ℕ → Bool
is_among texts text = list_any (bytes_eq text) texts

-- whether a text is the one that a term asks for, if it does
abbrev pub is_asked : Option (List ℕ) → Option (List ℕ) → Bool
is_asked None there = true
is_asked (Some asked) None = false
is_asked (Some asked) (Some text) = bytes_eq asked text

-- whether a term takes what a DiscountCoded says: its code is one of these, and of the scheme that
-- it asks for, if it does
abbrev pub takes_code : List (List ℕ) → Option (List ℕ) → SaidCode → Bool
takes_code asked scheme said = is_among asked said.code && is_asked scheme (Some said.scheme)

-- whether it takes what one and the same DiscountCoded of a price says, if it asks for codes
abbrev pub has_code : Term → List SaidCode → Bool
has_code term said =
    option_map_or (λ asked. list_any (takes_code asked term.scheme) said) term.codes true

-- whether a Discount says a percent, where a term goes by it
abbrev pub has_discount : Rate → List Discount → Bool
has_discount (Fixed percent) discounts = true
has_discount Feed [] = false
has_discount Feed (d ∷ more) = true

-- whether the Tax says a percent, where a term goes by it
abbrev pub has_tax : Option Rate → Option ℕ → Bool
has_tax (Some Feed) said = is_some said
has_tax _ said = true

module _ (supplier : Option (List ℕ)) (given : GivenPrice) where
  -- whether a term fits a price of that supplier but for its codes
  abbrev pub fits_besides : Term → Bool
  fits_besides term =
      is_among term.types given.price.price_type && is_asked term.supplier supplier
      && is_asked term.currency (Some given.price.currency)
      && has_discount term.percent given.discounts && has_tax term.tax given.tax

  -- whether a term fits a price of that supplier: none fits one that is garbled
  abbrev pub fits : Term → Bool
  fits term = not given.garbled && has_code term given.codes && fits_besides term

  -- the first term that fits
  abbrev pub fitting : List Term → Option Term
  fitting terms = find fits terms
