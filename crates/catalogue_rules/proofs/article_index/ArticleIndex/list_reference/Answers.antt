use Rattle.std.proofs.Common.{◌≡◌, Bool, true, false, cond, refl, ◌∙◌}
use Rattle.catalogue_rules.proofs.article_index.ArticleIndex.list_reference.Goals as goal

still_true : (b c : Bool) → c ≡ true → cond b true c ≡ true
still_true true c h = refl
still_true false c h = h

pub returns-clause-kept : goal.returns-clause-kept
returns-clause-kept c = λ isbn q h. c.in_ok-insert.ensures.updates.0 (record { isbn = isbn; reference = q }) ∙ still_true _ _ h
