-- What is made of one element more.
use Rattle.std.proofs.Common.{◌≡◌, ◌+◌, ℕ, zero, suc, List, [], ◌∷◌, ◌++◌, Bool, true, false, Option, Some, None, drop, map, slice_get, refl, sym, ap, ◌∙◌, append_assoc, arith}
use Rattle.std.specs.Prelude.{◌||◌}
use Rattle.std.specs.List.{flat_map}
use Rattle.std.specs.Borrow.{Bor}
use Rattle.std.specs.Option.{option_or, unwrap_or}
use Rattle.std.proofs.lemmas.Option.{same_Some}
use Rattle.feed_mapping.specs.PriceViews.{text_view}
use Rattle.feed_mapping.specs.Records.{first_some}
use Rattle.feed_mapping.specs.Elements.{Composite}

-- what is made of one more of these elements was added
pub one-more : {T : Type 0} (made : Composite → List T) (old new all : List T) (c : Composite) (whole others : List Composite) → whole ≡ c ∷ others → new ≡ old ++ made c
    → old ++ flat_map made whole ≡ all → new ++ flat_map made others ≡ all
one-more made old new all c whole others parts added before =
    ap (λ k. k ++ flat_map made others) added ∙ append_assoc old (made c) (flat_map made others) ∙ ap (λ k. old ++ flat_map made k) (sym parts) ∙ before

or_or : {A : Type 0} (a b c : Option A) → option_or (option_or a b) c ≡ option_or a (option_or b c)
or_or None b c = refl
or_or (Some a) b c = refl

-- one more of these elements was asked, of which the first counts that gives something
pub first-more : {A : Type 0} (gives : Composite → Option A) (old new all : Option A) (c : Composite) (whole others : List Composite) → whole ≡ c ∷ others → new ≡ option_or old (gives c)
    → option_or old (first_some (map gives whole)) ≡ all → option_or new (first_some (map gives others)) ≡ all
first-more gives old new all c whole others parts made before =
    ap (λ k. option_or k (first_some (map gives others))) made ∙ or_or old (gives c) (first_some (map gives others))
    ∙ ap (λ k. option_or old (first_some (map gives k))) (sym parts) ∙ before

pub or-none : {A : Type 0} (x : Option A) → option_or x None ≡ x
or-none None = refl
or-none (Some a) = refl

pub or-false : (x : Bool) → (x || false) ≡ x
or-false true = refl
or-false false = refl

-- a text, else the empty one
pub text-or-none : (text : Option (Bor (List ℕ))) (none own : Bor (List ℕ)) → none.now ≡ [] → own ≡ unwrap_or text none → own.now ≡ unwrap_or (text_view text) []
text-or-none None none own empty is = cc
text-or-none (Some text) none own empty is = cc

-- what is left of a list from an item on
pub from-item : {A : Type 0} (xs : List A) (k : ℕ) (x : A) → slice_get xs k ≡ Some x → drop k xs ≡ x ∷ drop (k + 1) xs
from-item [] k x e = cc
from-item {A} (y ∷ xs) zero x e = ap (λ (z : A). z ∷ xs) (same_Some y x e)
from-item (y ∷ xs) (suc k) x e = let next : suc k + 1 ≡ suc (k + 1) = omega arith in rw next (from-item xs k x e)
