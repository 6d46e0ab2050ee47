-- A price: the row Price, as it is read and as it is written.
use Rattle.std.specs.Prelude.{ℕ, List, [], ◌∷◌, Option, Some, None, ℤ, ◌++◌, if◌then◌else◌, decimal}
use Rattle.std.specs.Prelude.{nat_lt, codes}
use Rattle.std.specs.Option.{option_map_or}
use Rattle.onix_terms.specs.Amount.{amount_of, amount_text}
use Rattle.onix_terms.specs.Code.{code2_of, currency_of}
use Rattle.onix_terms.specs.Options.{◌>>=◌}
use Rattle.onix_terms.specs.Quantity.{quantity_of}
use Rattle.onix_terms.specs.Territory.{territory_of}
use Rattle.onix_terms.specs.Day.{day_of, day_text}
use Rattle.onix_records.specs.Fields.{optional, or_default, territory_fields}
use Rattle.onix_records.specs.declared.parts.Header.{Header}
use Rattle.onix_records.specs.declared.parts.Price.{Price}
use Rattle.onix_records.specs.declared.row.Form.{Form}
use Rattle.onix_records.specs.declared.row.Form.TheVariants as form
use Rattle.onix_records.specs.declared.row.Opening.{Opening}

-- a quantity; the empty text is 1
abbrev pub quantity_or_one : List ℕ → Option ℕ
quantity_or_one [] = Some 1
quantity_or_one (b ∷ bs) = quantity_of (b ∷ bs)

-- the minimum order quantity that the fields after the until date write: in form 2 there may be one
abbrev pub minimum_of : Form → List (List ℕ) → Option ℕ
minimum_of form [] = Some 1
minimum_of form.Two (minimum ∷ []) = quantity_or_one minimum
minimum_of _ _ = None

-- what the eight fields that each price has say, under a header with its defaults
unfoldable pub price_from : Header → ℕ → List ℕ → List ℕ → List ℕ → List ℕ → List ℕ → List ℕ
    → List ℕ → List ℕ → Option Price
price_from h minimum price_type amount currency included regions excluded from until = do
  t ← or_default code2_of h.default_type price_type
  a ← amount_of amount
  c ← or_default currency_of h.default_currency currency
  z ← territory_of included regions excluded
  f ← optional day_of from
  u ← optional day_of until
  Some (record {
    price_type = t;
    amount = a;
    currency = c;
    territory = z;
    minimum = minimum;
    from = f;
    until = u;
  })

-- what the fields of a Price record say, with the defaults of the header that the message begins
-- with
unfoldable pub price_of : Opening → List (List ℕ) → Option Price
price_of o (price_type ∷ amount ∷ currency ∷ included ∷ regions ∷ excluded ∷ from ∷ until ∷ more) =
    do
      m ← minimum_of o.form more
      price_from o.header m price_type amount currency included regions excluded from until
price_of o _ = None

-- a day, or the empty text
abbrev pub day_field : Option ℤ → List ℕ
day_field day = option_map_or day_text day []

-- the minimum order quantity, where it is above 1
abbrev pub minimum_fields : ℕ → List (List ℕ)
minimum_fields m = if nat_lt 1 m then decimal m ∷ [] else []

-- a price's row, with all defaults filled in
abbrev pub price_record : Price → List (List ℕ)
price_record p =
    codes "Price" ∷ p.price_type ∷ amount_text p.amount ∷ p.currency
    ∷ (territory_fields p.territory
    ++ (day_field p.from ∷ day_field p.until ∷ minimum_fields p.minimum))
