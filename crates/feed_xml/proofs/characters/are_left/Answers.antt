use Rattle.std.proofs.Common.{◌∙◌, ap, arith}
use Rattle.feed_xml.specs.private.NameCharacters.{are_left}
use Rattle.feed_xml.proofs.CharacterLaws.{one_more}
use Rattle.feed_xml.proofs.characters.are_left.Goals as goal

pub loop-rest-preserved : goal.loop-rest-preserved
loop-rest-preserved c = record {
  so_far =
      ap (are_left c.loop-rest.first) (one_more c.loop-rest.left c.loop-rest.value c.from.result c.loop-rest.rest.now (omega (arith, c.if-left-eq0.false)) c.in-len1-up.len_at_least (c.from.ensures ∙ c.saturating_sub.ensures))
      ∙ c.loop-rest.invariant.so_far;
  most = omega arith;
  three = λ e. absurd (omega arith);
  two = omega arith;
  one = omega arith;
}
