use Rattle.std.proofs.Common.{◌≡◌, ◌++◌, All, take}
use Rattle.std.specs.String.{string_bytes}
use Rattle.desk_http.specs.private.Sound.{IsSound, later_texts}
use Rattle.desk_http.proofs.texts.push_items.Given as goal

abbrev pub invariant-loop-item : goal.invariant-loop-item
invariant-loop-item g l =
    (string_bytes l.text ≡ string_bytes l.initial.text ++ later_texts g.T.ToJson.json_of (take l.item-index l.rest))
    × All (λ x. IsSound (g.T.ToJson.json_of x)) (take l.item-index l.rest)
