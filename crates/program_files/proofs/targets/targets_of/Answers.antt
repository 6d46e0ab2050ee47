use Rattle.std.proofs.Common.{◌≡◌, ◌+◌, ◌++◌, ◌∷◌, ◌∙◌, [], ap, arith, length, map, refl, sym}
use Rattle.std.specs.Prelude.{string_bytes}
use Rattle.std.proofs.Math.Numerals.{add-one}
use Rattle.std.proofs.lemmas.List.{map-append}
use Rattle.program_files.specs.Names.{part_name, part_paths, path_in}
use Rattle.program_files.specs.declared.targets.Target.{Target}
use Rattle.program_files.proofs.targets.targets_of.Goals as goal

pub loop-file-init : goal.loop-file-init
loop-file-init g c = record { named = ap (map (λ (t : Target g.row.M.Denot). string_bytes t.name)) c.new-targets.ensures.items; counted = refl }

pub loop-file-preserved : goal.loop-file-preserved
loop-file-preserved g c =
    let folder = c.args.folder.now in
    let name = c.args.name.now in
    let parts = c.args.parts in
    let i = c.loop-file.file-index in
    let name_of = λ (t : Target g.row.M.Denot). string_bytes t.name in
    let next : c.in-Some.next ≡ i + 1 = c.in-Some.ensures.1 ∙ ap (λ n. n + 1) c.loop-file.invariant.counted in
    let path = c.in_ok-path.ensures ∙ ap (λ n. path_in folder (part_name name n parts)) (next ∙ add-one i) in
    record {
      named = ap (map name_of) c.in_ok-push.ensures.items ∙ map-append name_of c.loop-file.targets.items (_ ∷ [])
          ∙ ap (λ front. front ++ string_bytes c.in_ok-path.path ∷ []) c.loop-file.invariant.named ∙ ap (λ p. part_paths folder name parts i ++ p ∷ []) path
          ∙ ap (part_paths folder name parts) (sym (add-one i));
      counted = next;
    }

pub returns : goal.returns
returns g c =
    let end : c.loop-file.file-index ≡ length c.args.made.now = omega arith in
    c.loop-file.invariant.named ∙ ap (part_paths c.args.folder.now c.args.name.now c.args.parts) end
