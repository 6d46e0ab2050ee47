use Rattle.std.proofs.Common.{◌≡◌, ℕ, List, [], ◌∷◌, ◌++◌, ◌∙◌, ap}
use Rattle.feed_mapping.specs.Notes.{note_views}
use Rattle.feed_mapping.specs.Products.{bare_record}
use Rattle.feed_conversion.proofs.KeptLaws.{on-ok, others-tried}
use Rattle.feed_conversion.proofs.converter.add_smallest.Goals as goal

pub returns : goal.returns
returns g c =
    let product = c.args.product.now in
    let same : c.add_bare.new.records ≡ bare_record product.below ∷ [] =
    c.in_ok-add_bare.ensures ∙ ap (λ (rs : List (List (List ℕ))). rs ++ bare_record product.below ∷ []) c.new-records.ensures in
    let kept = rw same at c.in_ok-is_kept.ensures in
    on-ok c.leave_out.result
    (others-tried g.T.Target.with_part c.args.most c.in_ok-is_kept.is_kept _ _ _ product (bare_record product.below ∷ []) (note_views c.args.notes.now) [] c.if-is_kept.false kept)
    (c.leave_out.ensures c.args.most)
