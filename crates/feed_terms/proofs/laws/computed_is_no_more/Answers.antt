use Rattle.std.proofs.Common.{not, ◌≤◌}
use Rattle.std.specs.Prelude.{◌==◌}
use Rattle.std.proofs.lemmas.List.Elements.{All-filter}
use Rattle.feed_terms.specs.Fits.{fitting}
use Rattle.feed_terms.specs.WithTerms.{computed_of, left_of}
use Rattle.feed_terms.proofs.ComputedAmounts.{computed-within}
use Rattle.feed_terms.proofs.laws.computed_is_no_more.Goals as goal

pub returns : goal.returns
returns c = λ terms supplier held g.
    All-filter (λ c. not (c.amount == 0)) (λ c. c.amount ≤ g.price.amount) (left_of terms supplier held g)
    (All-filter (λ c. not (held g c)) (λ c. c.amount ≤ g.price.amount) (computed_of terms supplier held g)
    (computed-within (fitting supplier g terms) g))
