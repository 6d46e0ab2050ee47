-- Which countries lie in a territory, as a fact and as a test of it.
use Rattle.std.proofs.Common.{◌≡◌, ℕ, Bool, true, false, List, refl, sym, inl, inr}
use Rattle.std.specs.Prelude.{◌||◌, ◌⊎◌, not, Contains}
use Rattle.std.specs.List.{list_any}
use Rattle.std.specs.Str.{bytes_eq}
use Rattle.std.specs.Cmp.Lexicographic.{nat_list_eq_equiv, same_text}
use Rattle.std.proofs.lemmas.Bool.{and_from, and_parts, or_left, or_right}
use Rattle.std.proofs.lemmas.Map.Views.{Contains-from_any, list_any-from_Contains}
use Rattle.onix_terms.specs.Territory.{IsIn}
use Rattle.onix_terms.specs.declared.territory.Territory.{Territory}
use Rattle.feed_mapping.specs.Unions.{lies_in}

pub found-there : (country : List ℕ) (codes : List (List ℕ)) → list_any (bytes_eq country) codes ≡ true → Contains codes country
found-there country codes is = Contains-from_any (λ x y e. same_text x y (sym e)) country codes is

pub there-found : (country : List ℕ) (codes : List (List ℕ)) → Contains codes country → list_any (bytes_eq country) codes ≡ true
there-found country codes there = list_any-from_Contains nat_list_eq_equiv country codes there

not-found : (t : Bool) → (t ≡ true → ⊥) → not t ≡ true
not-found true never = absurd (never refl)
not-found false never = refl

never-found : (t : Bool) → not t ≡ true → t ≡ true → ⊥
never-found true none is = cc
never-found false none is = cc

one-of : (a b : Bool) → (a || b) ≡ true → (a ≡ true) ⊎ (b ≡ true)
one-of true b is = inl refl
one-of false b is = inr is

-- the test is true where the country lies in the territory, and nowhere else
pub lies-from : (country : List ℕ) (t : Territory) → IsIn country t → lies_in country t ≡ true
lies-from country t is =
    and_from _ _ (not-found (list_any (bytes_eq country) t.excluded) (λ out. is.0 (found-there country t.excluded out)))
    (elim is.1 [ inl world ↦ or_left _ _ world | inr there ↦ or_right _ _ (there-found country t.included there) ])

pub lies-to : (country : List ℕ) (t : Territory) → lies_in country t ≡ true → IsIn country t
lies-to country t is =
    let parts = and_parts (not (list_any (bytes_eq country) t.excluded)) (t.world || list_any (bytes_eq country) t.included) is in (
      λ out. never-found _ parts.0 (there-found country t.excluded out),
      elim (one-of t.world (list_any (bytes_eq country) t.included) parts.1) [ inl world ↦ inl world | inr there ↦ inr (found-there country t.included there) ],
    )

-- two tests of one fact are the same
pub same-test : {P : Type 0} (a b : Bool) → (a ≡ true → P) → (P → a ≡ true) → (b ≡ true → P) → (P → b ≡ true) → a ≡ b
same-test true b a-to a-from b-to b-from = sym (b-from (a-to refl))
same-test false true a-to a-from b-to b-from = a-from (b-to refl)
same-test false false a-to a-from b-to b-from = refl
