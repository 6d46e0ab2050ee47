use Rattle.std.proofs.Common.{◌∙◌, ◌-◌, ap, drop, length, map}
use Rattle.std.specs.Str.{bytes_eq}
use Rattle.std.specs.Char.{to_ascii_lowercase}
use Rattle.program_files.proofs.NameLemmas.{found_equal, rest_from}
use Rattle.program_files.proofs.names.ends_so.Goals as goal

pub returns : goal.returns
returns c =
    let path = c.args.path.now in
    let ending = c.args.ending.now in
    let start = c.saturating_sub-start.result in
    found_equal c.eq_ignore_ascii_case.result _ _ c.eq_ignore_ascii_case.ensures.test
    ∙ ap (λ last. bytes_eq (map to_ascii_lowercase last) (map to_ascii_lowercase ending)) (rest_from start path)
    ∙ ap (λ n. bytes_eq (map to_ascii_lowercase (drop n path)) (map to_ascii_lowercase ending)) c.saturating_sub-start.ensures
    ∙ ap (bytes_eq (map to_ascii_lowercase (drop (length path - length ending) path))) c.requires
