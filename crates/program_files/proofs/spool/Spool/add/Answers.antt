use Rattle.std.proofs.Common.{◌≡◌, ap, subst, sym}
use Rattle.std.specs.Prelude.{OnOk}
use Rattle.program_files.specs.Texts.{told_texts, with_text}
use Rattle.program_files.proofs.TextLemmas.{kept_in_file, kept_in_memory, on_ok}
use Rattle.program_files.proofs.spool.Spool.add.Goals as goal

pub returns-then-has_room : goal.returns-then-has_room
returns-then-has_room g c = kept_in_memory c.args.self.now.first.items c.extend_from_slice.new.self.items c.args.self.now.rest c.args.text.now
    c.has_room.result c.has_room.ensures c.if-has_room.true c.in_ok-extend_from_slice.ensures.items

pub returns : goal.returns
returns g c =
    let first = c.args.self.now.first.items in
    let rest = c.args.self.now.rest in
    let left = c.write_rest.new.self.rest in
    let more = c.args.text.now in
    let same : c.write_rest.new.self.first.items ≡ first = ap (λ v. v.items) c.write_rest.ensures.first in
    subst (λ front. OnOk c.write_rest.result (told_texts front left ≡ with_text (told_texts first rest) more)) (sym same)
    (on_ok c.write_rest.result (kept_in_file first rest left more c.has_room.result c.has_room.ensures c.if-has_room.false) c.write_rest.ensures.some)
