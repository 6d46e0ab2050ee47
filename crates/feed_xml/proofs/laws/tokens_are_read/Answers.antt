use Rattle.std.proofs.Common.{◌++◌}
use Rattle.feed_xml.specs.Reading.{token_at}
use Rattle.feed_xml.proofs.StepLaws.{never_stays}
use Rattle.feed_xml.proofs.TokenLaws.{token_takes, token_again, token_stays}
use Rattle.feed_xml.proofs.laws.tokens_are_read.Goals as goal

pub returns : goal.returns
returns c = record {
  takes = λ section bytes rest token e. token_takes section bytes (token, rest) e;
  again = token_again;
  never = λ section bytes more e. never_stays more (token_at section bytes) (token_at section (bytes ++ more)) (token_stays section bytes more) e;
}
