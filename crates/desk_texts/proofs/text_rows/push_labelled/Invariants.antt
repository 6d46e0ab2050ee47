use Rattle.std.proofs.Common.{◌≡◌, ◌++◌, map, take}
use Rattle.std.specs.Fmt.{decimal}
use Rattle.desk_texts.proofs.text_rows.push_labelled.Given as goal

abbrev pub invariant-loop-item : goal.invariant-loop-item
invariant-loop-item l = l.out ≡ l.fn.out ++ map (λ f. f.0.now ++ decimal f.1) (take l.item-index l.fields)
