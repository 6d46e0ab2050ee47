use Rattle.std.proofs.Common.{◌≡◌, ◌++◌, ◌∷◌, ◌∙◌, List, ap, subst}
use Rattle.feed_mapping.specs.Notes.{Reason, note_views}
use Rattle.feed_mapping.specs.ProductRecords.{fate_of, product_notes, product_records, smaller_variants, variant}
use Rattle.feed_mapping.specs.Records.{Records}
use Rattle.feed_mapping.specs.SupplyChoices.{SupplyChoices, supply_choices_view}
use Rattle.feed_mapping.specs.declared.notes.Note.{Note as Lent}
use Rattle.feed_mapping.specs.declared.product_records.Fate.{Fate}
use Rattle.feed_conversion.specs.Conversion.{supply_choices}
use Rattle.feed_conversion.specs.Views.{options_view}
use Rattle.feed_conversion.specs.private.Stages.{IsKept, OpenParts, after_product, stored, with_variant, with_variants}
use Rattle.feed_conversion.specs.private.StageViews.{begun_view}
use Rattle.feed_conversion.proofs.KeptLaws.{first-kept, on-ok, others-tried}
use Rattle.feed_conversion.proofs.converter.add.Goals as goal

pub returns-then-is_kept : goal.returns-then-is_kept
unfolding after_product
returns-then-is_kept g c =
    let product = c.args.product.now in
    let opening = c.args.begun.now.opening in
    let most = c.args.options.now.choices.parts in
    let chosen = supply_choices (options_view c.args.options.now) in
    let old = stored (begun_view c.see_suppliers.new.begun) (g.T.Target.parts c.args.target.now) in
    let new = stored (begun_view c.keep_variant.new.begun) (g.T.Target.parts c.keep_variant.new.target) in
    let records : c.add_product.new.records ≡ product_records opening chosen product.below =
    c.in_ok-fate.ensures.records ∙ ap (λ (rs : Records). rs ++ product_records opening (supply_choices_view c.supply_choices.result) product.below) c.new-records.ensures
    ∙ ap (λ (s : SupplyChoices). product_records opening s product.below) c.supply_choices.ensures in
    let notes : note_views c.deref.result.now ≡ product_notes opening chosen product.below =
    ap note_views c.deref.ensures.value ∙ c.in_ok-fate.ensures.notes ∙ ap (λ (ns : List Lent). note_views ns ++ product_notes opening (supply_choices_view c.supply_choices.result) product.below) c.new-notes.ensures.items
    ∙ ap (λ (s : SupplyChoices). product_notes opening s product.below) c.supply_choices.ensures in
    let by_records = subst (λ (rs : Records). IsKept c.in_ok-is_kept.is_kept old new (with_variant g.T.Target.with_part most old product rs (note_views c.deref.result.now))) records c.in_ok-is_kept.ensures in
    let kept = subst (λ (ns : List Reason). IsKept c.in_ok-is_kept.is_kept old new (with_variant g.T.Target.with_part most old product (product_records opening chosen product.below) ns)) notes by_records in
    let smaller = smaller_variants (fate_of opening chosen product.below) (product_notes opening chosen product.below) product.below in
    let all = variant (product_records opening chosen product.below) (product_notes opening chosen product.below) ∷ smaller in
    first-kept g.T.Target.with_part most c.in_ok-is_kept.is_kept old new product (product_records opening chosen product.below) (product_notes opening chosen product.below) smaller c.if-is_kept.true kept
    ∙ ap (λ (b : OpenParts). with_variants g.T.Target.with_part most (stored b (g.T.Target.parts c.args.target.now)) product all) c.see_suppliers.ensures

pub returns : goal.returns
unfolding after_product
returns g c =
    let product = c.args.product.now in
    let opening = c.args.begun.now.opening in
    let most = c.args.options.now.choices.parts in
    let chosen = supply_choices (options_view c.args.options.now) in
    let old = stored (begun_view c.see_suppliers.new.begun) (g.T.Target.parts c.args.target.now) in
    let mid = stored (begun_view c.keep_variant.new.begun) (g.T.Target.parts c.keep_variant.new.target) in
    let new = stored (begun_view c.add_smaller.new.begun) (g.T.Target.parts c.add_smaller.new.target) in
    let records : c.add_product.new.records ≡ product_records opening chosen product.below =
    c.in_ok-fate.ensures.records ∙ ap (λ (rs : Records). rs ++ product_records opening (supply_choices_view c.supply_choices.result) product.below) c.new-records.ensures
    ∙ ap (λ (s : SupplyChoices). product_records opening s product.below) c.supply_choices.ensures in
    let views : note_views c.add_product.new.notes.items ≡ product_notes opening chosen product.below =
    c.in_ok-fate.ensures.notes ∙ ap (λ (ns : List Lent). note_views ns ++ product_notes opening (supply_choices_view c.supply_choices.result) product.below) c.new-notes.ensures.items
    ∙ ap (λ (s : SupplyChoices). product_notes opening s product.below) c.supply_choices.ensures in
    let notes : note_views c.deref.result.now ≡ product_notes opening chosen product.below = ap note_views c.deref.ensures.value ∙ views in
    let fate : c.in_ok-fate.fate ≡ fate_of opening chosen product.below = c.in_ok-fate.ensures.fate ∙ ap (λ (s : SupplyChoices). fate_of opening s product.below) c.supply_choices.ensures in
    let by_records = subst (λ (rs : Records). IsKept c.in_ok-is_kept.is_kept old mid (with_variant g.T.Target.with_part most old product rs (note_views c.deref.result.now))) records c.in_ok-is_kept.ensures in
    let kept = subst (λ (ns : List Reason). IsKept c.in_ok-is_kept.is_kept old mid (with_variant g.T.Target.with_part most old product (product_records opening chosen product.below) ns)) notes by_records in
    let smaller = smaller_variants (fate_of opening chosen product.below) (product_notes opening chosen product.below) product.below in
    let all = variant (product_records opening chosen product.below) (product_notes opening chosen product.below) ∷ smaller in
    let forms = ap (λ (f : Fate). smaller_variants f (note_views c.deref-2.result.now) product.below) fate
    ∙ ap (λ (ns : List Reason). smaller_variants (fate_of opening chosen product.below) ns product.below) (ap note_views c.deref-2.ensures.value ∙ views) in
    on-ok c.add_smaller.result
    (λ (others : new ≡ with_variants g.T.Target.with_part most mid product (smaller_variants c.in_ok-fate.fate (note_views c.deref-2.result.now) product.below)).
    others-tried g.T.Target.with_part most c.in_ok-is_kept.is_kept old mid new product (product_records opening chosen product.below) (product_notes opening chosen product.below)
    smaller c.if-is_kept.false kept
    (others ∙ ap (with_variants g.T.Target.with_part most mid product) forms)
    ∙ ap (λ (b : OpenParts). with_variants g.T.Target.with_part most (stored b (g.T.Target.parts c.args.target.now)) product all) c.see_suppliers.ensures)
    c.add_smaller.ensures
