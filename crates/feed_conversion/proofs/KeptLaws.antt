-- A form of a product that was kept, or one of the others.
use Rattle.std.proofs.Common.{◌≡◌, ℕ, Bool, true, false, List, ◌∷◌, sym, ap, ◌∙◌}
use Rattle.std.specs.Prelude.{Option, Result, Ok, Err, OnOk}
use Rattle.std.specs.Option.{unwrap_or}
use Rattle.feed_mapping.specs.Elements.{Composite}
use Rattle.feed_mapping.specs.Notes.{Reason}
use Rattle.feed_mapping.specs.ProductRecords.{Variant, variant}
use Rattle.feed_conversion.specs.private.Stages.{Stored, IsKept, with_variant, with_variants}

pub kept-no : {P : Type 0} (is : Bool) (old new : Stored P) (told : Option (Stored P)) (rest : Stored P) → is ≡ false → IsKept is old new told → unwrap_or told rest ≡ rest
kept-no true old new told rest e f = cc e
kept-no false old new told rest e f = ap (λ x. unwrap_or x rest) f.0

pub kept-same : {P : Type 0} (is : Bool) (old new : Stored P) (told : Option (Stored P)) → is ≡ false → IsKept is old new told → new ≡ old
kept-same true old new told e f = cc e
kept-same false old new told e f = f.1

-- it was not, and then the others were tried
pub others-tried : {P : Type 0} (k : P → List ℕ → P) (most : ℕ) (is : Bool) (old mid new : Stored P) (c : Composite) (records : List (List (List ℕ))) (notes : List Reason) (fs : List Variant)
    → is ≡ false → IsKept is old mid (with_variant k most old c records notes) → new ≡ with_variants k most mid c fs → new ≡ with_variants k most old c (variant records notes ∷ fs)
others-tried k most is old mid new c records notes fs e f others =
    others ∙ ap (λ h. with_variants k most h c fs) (kept-same is old mid _ e f) ∙ sym (kept-no is old mid (with_variant k most old c records notes) (with_variants k most old c fs) e f)

-- what follows from what a call gave
pub on-ok : {A E P Q : Type 0} (r : Result A E) → (P → Q) → OnOk r P → OnOk r Q
on-ok (Ok x) f p = f p
on-ok (Err e) f p = tt

-- the first of the forms was kept
pub first-kept : {P : Type 0} (k : P → List ℕ → P) (most : ℕ) (is : Bool) (old new : Stored P) (c : Composite) (records : List (List (List ℕ))) (notes : List Reason) (fs : List Variant)
    → is ≡ true → IsKept is old new (with_variant k most old c records notes) → new ≡ with_variants k most old c (variant records notes ∷ fs)
first-kept k most true old new c records notes fs e f = sym (ap (λ x. unwrap_or x (with_variants k most old c fs)) f)
first-kept k most false old new c records notes fs e f = cc e
