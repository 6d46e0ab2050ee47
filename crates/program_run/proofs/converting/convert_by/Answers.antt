use Rattle.std.proofs.Common.{List, map, subst, ℕ}
use Rattle.std.specs.Borrow.{Bor}
use Rattle.std.specs.Prelude.{option_map}
use Rattle.std.specs.Io.KnownBytes.{Appends}
use Rattle.feed_conversion.specs.Views.{options_view}
use Rattle.feed_files.specs.Ends.{asking}
use Rattle.feed_files.specs.Runs.{FilesEnd, outputs}
use Rattle.program_run.proofs.converting.convert_by.Goals as goal

pub returns-clause-end : goal.returns-clause-end
returns-clause-end g c =
    let conversion = c.args.conversion.now in
    let input = g.R.Read.remaining c.args.streams.now.input in
    let before = g.F.NamedFiles.holds c.args.files.now in
    let after = g.F.NamedFiles.holds c.convert_files.new.files in
    let lacks = g.F.NamedFiles.lacks_folder c.args.files.now in
    let written = Appends (g.W.Write.contents c.args.streams.now.output) (g.W.Write.contents c.convert_files.new.output) in
    let status = c.convert_files.result in
    let folder = option_map (λ (name : Bor (List ℕ)). name.now) conversion.folder in
    subst (λ choices. FilesEnd (asking (options_view (record { choices = choices; wrong = conversion.options.wrong; terms = c.args.terms })) folder)
    input before after lacks (map (λ (name : Bor (List ℕ)). name.now) conversion.files.items) (λ ends. written (outputs ends)) status)
    c.copied.ensures
    (subst (λ names. FilesEnd (asking (options_view (record { choices = c.copied.result; wrong = conversion.options.wrong; terms = c.args.terms })) folder)
    input before after lacks (map (λ (name : Bor (List ℕ)). name.now) names) (λ ends. written (outputs ends)) status)
    c.as_slice-names.ensures.value c.convert_files.ensures.end)
