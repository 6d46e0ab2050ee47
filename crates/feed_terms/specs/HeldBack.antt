-- Which computed prices are held back by what the feed gives.
use Rattle.std.specs.Prelude.{ℕ, ℤ, List, Bool, true, not, ◌&&◌, ◌||◌, ◌==◌, ◌++◌, Option, nat_lt, filter, is_none}
use Rattle.std.specs.List.{list_any}
use Rattle.std.specs.Option.{option_map_or}
use Rattle.std.specs.Str.{bytes_eq}
use Rattle.onix_records.specs.declared.parts.Price.{Price}
use Rattle.price_rules.specs.Current.{is_later}
use Rattle.feed_terms.specs.Fits.{fitting}
use Rattle.feed_terms.specs.declared.computed.ComputedPrice.{ComputedPrice}
use Rattle.feed_terms.specs.declared.price.GivenPrice.{GivenPrice}
use Rattle.feed_terms.specs.declared.price.Kind.{Kind}
use Rattle.feed_terms.specs.declared.term.Term.{Term}

-- whether a price from so many copies and from that day on does not outrank another: its number of
-- copies is less, or the same, and its day is not later
abbrev pub is_no_higher : ℕ → Option ℤ → ℕ → Option ℤ → Bool
is_no_higher minimum from other_minimum other_from =
    nat_lt minimum other_minimum
    || ((minimum == other_minimum) && not (is_later from other_from))

module _ (price_type currency : List ℕ) where
  -- whether a price of the feed has this type and currency
  abbrev pub is_of_kind : Price → Bool
  is_of_kind price = bytes_eq price_type price.price_type && bytes_eq currency price.currency

  -- whether this type and currency are closed: a Price gives no record that has them, or says none
  abbrev pub is_closed : List Kind → Bool
  is_closed closed = list_any (λ k.
      option_map_or (bytes_eq price_type) k.price_type true
      && option_map_or (bytes_eq currency) k.currency true) closed

-- whether a computed price is held back: its type and the currency are closed, or a price of the
-- feed has them and does not outrank it
module _ (closed : List Kind) (given : List GivenPrice) where
  abbrev pub is_held : List ℕ → List ℕ → ℕ → Option ℤ → Bool
  is_held price_type currency minimum from =
      is_closed price_type currency closed
      || list_any (λ g. is_of_kind price_type currency g.price
      && is_no_higher g.price.minimum g.price.from minimum from) given

-- the type, the currency and the territory of a price, one behind the other: a type has two digits,
-- and a currency three letters
abbrev pub place_text : GivenPrice → List ℕ
place_text g = (g.price.price_type ++ g.price.currency) ++ g.area

-- whether a price has the type, the currency and the territory of another
abbrev pub is_beside : GivenPrice → GivenPrice → Bool
is_beside g other = bytes_eq (place_text g) (place_text other)

module _ (terms : List Term) (supplier : Option (List ℕ)) (given : List GivenPrice) where
  -- the prices of the feed that no term fits
  abbrev pub unfitted : List GivenPrice
  unfitted = filter (λ g. is_none (fitting supplier g terms)) given

  -- whether one of them stands beside a price: the shop does not know what that one costs
  abbrev pub is_barred : GivenPrice → Bool
  is_barred g = list_any (is_beside g) unfitted

  -- whether a price that is computed of another is held back
  abbrev pub is_held_back : List Kind → GivenPrice → ComputedPrice → Bool
  is_held_back closed g c =
      is_barred g || is_held closed given c.price_type g.price.currency c.minimum g.price.from
