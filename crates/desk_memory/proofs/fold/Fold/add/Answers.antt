use Rattle.std.proofs.Common.{◌++◌, ◌∷◌, [], ap, ◌∙◌, arith, refl}
use Rattle.desk_memory.proofs.Folding.{fold_more}
use Rattle.desk_memory.proofs.fold.Fold.add.Goals as goal

pub returns-clause-ok : goal.returns-clause-ok
returns-clause-ok c = λ from hs is.
    fold_more from hs c.args.standing.now c.args.self.now _ is (omega arith) c.in_ok-effect.ensures.ok refl
    (c.push_reserved.ensures.items ∙ ap (λ es. es ++ c.in_ok-effect.effect ∷ []) c.reserve.ensures.items ∙ ap (λ e. c.args.self.now.effects.items ++ e ∷ []) c.in_ok-effect.ensures.effect)
