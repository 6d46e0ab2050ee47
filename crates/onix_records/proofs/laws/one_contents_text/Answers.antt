use Rattle.onix_records.proofs.OneText.{one-contents}
use Rattle.onix_records.proofs.laws.one_contents_text.Goals as goal

pub returns : goal.returns
returns c = one-contents (record { read = c.one_text.ensures.read; only = c.one_text.ensures.only })
