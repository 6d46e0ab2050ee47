use Rattle.std.proofs.Common.{refl}
use Rattle.onix_records.specs.ContentsText.{framed}
use Rattle.onix_message.proofs.contents.frame.Goals as goal

pub returns : goal.returns
unfolding framed
returns c = λ empty. rw (c.in_ok-push_fields-2.ensures.ok, c.format.ensures.text, c.len-count.ensures, c.in_ok-append_text.ensures.ok, c.in_ok-push_fields.ensures.ok, empty) refl
