use Rattle.std.proofs.Common.{◌≡◌, ◌∙◌, ◌&&◌, ◌||◌, ◌==◌, Bool, refl, ap, length}
use Rattle.onix_terms.proofs.territory.Territory.read.Goals as goal
use Rattle.onix_terms.proofs.territory.Territory.read.Goals.{then-is_empty, else-is_empty, then-world, else-world}

pub returns : goal.returns
returns c =
    let included = c.args.included.now in
    let regions = c.args.regions.now in
    let none : c.if-is_empty.includes_none ≡ ((length included == 0) && (length regions == 0)) = elim c.if-is_empty.branch [
      | then-is_empty w ↦ w.includes_none-is ∙ w.is_empty-includes_none.ensures ∙ ap (λ (b : Bool). b && (length regions == 0)) w.if-is_empty.ensures
      | else-is_empty w ↦ w.includes_none-is ∙ w.if-is_empty.false ∙ ap (λ (b : Bool). b && (length regions == 0)) w.if-is_empty.ensures
    ] in
    let world : c.if-world.result ≡ (c.in_ok-world.world || ((length included == 0) && (length regions == 0))) = elim c.if-world.branch [
      | then-world w ↦ rw w.if-world.true (w.result-is ∙ w.if-world.true)
      | else-world w ↦ rw w.if-world.false (w.result-is ∙ none)
    ] in
    rw (c.in_ok-included.ensures, c.in_ok-world.ensures, c.in_ok-excluded.ensures, world) refl
