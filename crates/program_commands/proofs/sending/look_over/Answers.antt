use Rattle.std.proofs.Common.{◌≡◌, ◌||◌, ◌∙◌, Bool, true, false, refl}
use Rattle.program_commands.proofs.sending.look_over.Goals as goal

or-assoc : (a b c : Bool) → ((a || b) || c) ≡ (a || (b || c))
or-assoc true b c = refl
or-assoc false b c = refl

or-none : (a : Bool) → a ≡ (a || false)
or-none true = refl
or-none false = refl

pub reading-preserved : goal.reading-preserved
reading-preserved c =
    let inv = c.reading.invariant in
    let found = c.in_ok-read.ensures.found c.if-branch.true in
    record {
      counted = rw c.still_missing-missing.ensures (rw found at inv.counted);
      refused_is = rw c.still_refused-refused.ensures (or-assoc c.reading.refused _ _ ∙ (rw found at inv.refused_is));
    }

pub returns : goal.returns
returns c =
    let inv = c.reading.invariant in
    let none = c.in_ok-read.ensures.ended c.if-branch.false in
    (rw none.0 at inv.counted, or-none c.reading.refused ∙ (rw none.0 at inv.refused_is))
