use Rattle.std.proofs.Common.{◌≡◌, ◌-◌, ◌∙◌, ℕ, List, Option, Some, None, length, refl, sym}
use Rattle.std.specs.Borrow.{Bor}
use Rattle.std.specs.Prelude.{option_copied, slice_get}
use Rattle.std.specs.Slice.{IsItemAt}
use Rattle.std.proofs.lemmas.Option.{slice_get_past, slice_get_read}
use Rattle.onix_records.specs.declared.effects.Effect.{Effect}
use Rattle.desk_memory.proofs.fold.Fold.effect_of.Goals as goal

got_at : (effects : List Effect) (i : ℕ) (got : Option (Bor Effect)) → IsItemAt effects i got → option_copied got ≡ slice_get effects i
got_at effects i None is = sym (slice_get_past effects i is.3)
got_at effects i (Some e) is = sym (slice_get_read effects (length effects) i e.now refl is.3.0 is.1)

pub returns : goal.returns
returns c =
    let there : option_copied c.get.result ≡ slice_get c.deref.result.now (c.value.result - c.value-2.result) = got_at _ _ _ c.get.ensures.lookup in
    there ∙ rw (c.deref.ensures.value, c.value.ensures.value, c.value-2.ensures.value) refl
