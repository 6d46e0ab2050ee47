use Rattle.std.proofs.Common.{◌∙◌, sym, refl}
use Rattle.onix_records.proofs.OneText.{read-none, read-other, read-same}
use Rattle.onix_message.proofs.contents.read_contents.Goals as goal

pub returns-in-Err-NotContents-clause-none : goal.returns-in-Err-NotContents-clause-none
returns-in-Err-NotContents-clause-none c = λ _. read-none (record { read = c.one_text.ensures.read; only = c.one_text.ensures.only }) c.args.text.now ((rw c.in-Err-NotContents.field-0-is at c.in-Err-NotContents.ensures.none) refl)

pub returns-else-same-clause-none : goal.returns-else-same-clause-none
returns-else-same-clause-none c = λ _.
    let found = c.in-Ok.ensures.found in
    read-other (record { read = c.one_text.ensures.read; only = c.one_text.ensures.only }) c.args.text.now found.0 c.in-Ok.contents found.1 (sym c.in_ok-same.ensures ∙ c.if-same.false)

pub returns-then-same-clause-contents : goal.returns-then-same-clause-contents
returns-then-same-clause-contents c = read-same c.args.text.now c.in-Ok.contents c.can_be_read_back.ensures (sym c.in_ok-same.ensures ∙ c.if-same.true)
