use Rattle.feed_xml.specs.Grammar.{is_name_byte}
use Rattle.feed_xml.proofs.PartLaws.{run_takes}
use Rattle.feed_xml.proofs.scan.name.Goals as goal

pub are_name-requires : goal.are_name-requires
are_name-requires c = (run_takes is_name_byte c.args.bytes.now _ c.in_ok-name.ensures).1
