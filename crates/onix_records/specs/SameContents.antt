-- Contents that are equal in all parts, as a test. The tests of products and parties are those of
-- `==`, and the laws of plain data say that just equal values pass them.
use Rattle.std.specs.Prelude.{◌≡◌, List, Bool}
use Rattle.std.specs.Bool.{Decides}
use Rattle.std.specs.Cmp.Lexicographic.{pointwise}
use Rattle.onix_terms.specs.contracts.party.PartyPartialEq.TheImpl as parties
use Rattle.onix_terms.specs.contracts.plain.PartyPlain.TheImpl.Laws as party_laws
use Rattle.onix_terms.specs.declared.party.Party.{Party}
use Rattle.onix_records.specs.contracts.parts.ProductPartialEq.TheImpl as products
use Rattle.onix_records.specs.contracts.plain.ProductPlain.TheImpl.Laws as product_laws
use Rattle.onix_records.specs.declared.parts.Product.{Product}

-- the same type and value
abbrev pub same_party : Party → Party → Bool
same_party a b = parties.eq-value.it a b

-- the same product in all parts
abbrev pub same_product : Product → Product → Bool
same_product a b = products.eq-value.it a b

-- two contents are equal in all parts
unfoldable pub same_contents : List Product → List Product → Bool
same_contents c d = pointwise same_product c d

-- Both tests are passed exactly by equal values.

pub same_party-Decides : (x y : Party) → Decides (same_party x y) (x ≡ y)
same_party-Decides = party_laws.eq_decides-law

pub same_product-Decides : (x y : Product) → Decides (same_product x y) (x ≡ y)
same_product-Decides = product_laws.eq_decides-law
