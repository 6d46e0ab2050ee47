use Rattle.std.proofs.Common.{ℕ, ◌≡◌, false, refl}
use Rattle.onix_records.specs.Draft.{has_ended}
use Rattle.onix_records.specs.declared.draft.Part.{Part}
use Rattle.onix_records.specs.declared.draft.Part.TheVariants as part
use Rattle.onix_message.proofs.message.has_ended.Goals as goal

not-ended : (p : Part) → ((n : ℕ) → p ≡ part.Ended n → ⊥) → false ≡ has_ended p
not-ended part.Nothing never = refl
not-ended (part.InProduct p) never = refl
not-ended (part.InSupply p s o) never = refl
not-ended (part.Ended n) never = absurd (never n refl)

pub returns-in-Ended : goal.returns-in-Ended
returns-in-Ended c = rw c.in-Ended.is refl

pub returns-in_default : goal.returns-in_default
returns-in_default c = not-ended c.args.part.now c.in_default.not-Ended
