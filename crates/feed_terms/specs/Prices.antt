-- What the elements of a Price say to a term.
use Rattle.std.specs.Prelude.{ℕ, List, [], ◌∷◌, ◌++◌, Bool, ◌==◌, ◌||◌, Option, Some, None}
use Rattle.std.specs.Prelude.{codes, if◌then◌else◌}
use Rattle.std.specs.List.{list_all}
use Rattle.std.specs.Str.{bytes_eq}
use Rattle.onix_terms.specs.Code.{code2_of}
use Rattle.onix_terms.specs.Options.{◌>>=◌}
use Rattle.onix_terms.specs.Quantity.{quantity_of}
use Rattle.feed_terms.specs.Percents.{feed_percent_of}
use Rattle.feed_terms.specs.TermsFile.{is_discount}
use Rattle.feed_terms.specs.declared.price.Discount.{Discount}
use Rattle.feed_terms.specs.declared.price.SaidCode.{SaidCode}

-- what a DiscountCoded says, by its type, the name of that and its code, where the type is two
-- digits
abbrev pub code_said : List ℕ → List ℕ → List ℕ → Option SaidCode
code_said code_type scheme code = do
  digits ← code2_of code_type
  Some (record { code = digits ++ 44 ∷ code; scheme = scheme })

-- a DiscountType that is that of a percent of the price: none, or 01
abbrev pub is_of_price : List ℕ → Bool
is_of_price discount_type = bytes_eq discount_type [] || bytes_eq discount_type (codes "01")

-- from how many copies on a Discount holds: from one on without a Quantity, or with only zeros
abbrev pub copies_of : List ℕ → Option ℕ
copies_of quantity =
    if list_all (λ b. b == 48) quantity then Some 1 else quantity_of quantity

-- the percent of a DiscountPercent, which is 100 at most
abbrev pub percent_said : List ℕ → Option ℕ
percent_said text = do
  said ← feed_percent_of text
  if is_discount said then Some said else None

-- the discount that a Discount says, by its DiscountType, Quantity and DiscountPercent, each empty
-- where it is absent
abbrev pub discount_of : List ℕ → List ℕ → List ℕ → Option Discount
discount_of discount_type quantity percent =
    if is_of_price discount_type then (do
      copies ← copies_of quantity
      said ← percent_said percent
      Some (record { percent = said; quantity = copies }))
    else None
