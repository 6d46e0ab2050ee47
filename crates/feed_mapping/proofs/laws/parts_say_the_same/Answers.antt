use Rattle.feed_mapping.proofs.OpeningLaws.{row-same}
use Rattle.feed_mapping.proofs.PartLaws.{heading-form, part-says}
use Rattle.feed_mapping.proofs.laws.parts_say_the_same.Goals as goal

pub returns-clause-opening : goal.returns-clause-opening
returns-clause-opening c = part-says c.number_reads_back.ensures.digits c.number_reads_back.ensures.number

pub returns-clause-form : goal.returns-clause-form
returns-clause-form c = heading-form

pub returns-clause-rows : goal.returns-clause-rows
returns-clause-rows c = row-same
