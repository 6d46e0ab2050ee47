use Rattle.std.proofs.Common.{◌≡◌, sym, ◌∙◌}
use Rattle.onix_terms.specs.Territory.{words_of}
use Rattle.feed_mapping.proofs.WordLaws.{words-cut, word-first, with_word}
use Rattle.feed_mapping.proofs.regions.next_word.Goals as goal

pub returns-then-not-is_empty-clause-next : goal.returns-then-not-is_empty-clause-next
returns-then-not-is_empty-clause-next c =
    let cut : words_of c.loop-rest.rest.now ≡ with_word c.cut_at_space.result.0.now (words_of c.cut_at_space.result.1.now) =
    rw (c.cut_at_space.ensures.front, c.cut_at_space.ensures.rest) (words-cut c.loop-rest.rest.now) in
    sym c.loop-rest.invariant.words ∙ cut ∙ word-first c.cut_at_space.result.0.now (words_of c.cut_at_space.result.1.now)
    (sym c.is_empty-in-loop-rest.ensures ∙ c.if-not-is_empty.true)
