use Rattle.std.proofs.Common.{◌++◌, ◌∷◌, [], ap, ◌∙◌}
use Rattle.std.specs.FinMap as map
use Rattle.std.proofs.lemmas.List.{map-append}
use Rattle.catalogue_rules.specs.Effects.{with_entry}
use Rattle.catalogue_rules.specs.Plans.{all_bytes, str_bytes}
use Rattle.catalogue_rules.specs.declared.plan.Plan.{Plan}
use Rattle.catalogue_rules.proofs.Plans.{put_new, put_known, same_plan}
use Rattle.catalogue_rules.proofs.plan.Plan.put.Goals as goal
use Rattle.catalogue_rules.proofs.plan.Plan.put.Goals.{then-is_new+in_ok-push, else-is_new}

pub returns-clause-plan : goal.returns-clause-plan
returns-clause-plan c = λ m plan.
    let base = c.args.catalogue.now in
    let old = c.args.self.now in
    let new_references = all_bytes old.new_references.items in
    let key = c.args.reference.now in
    let now = c.args.change in
    elim c.if-is_new.branch [
      | then-is_new+in_ok-push w ↦
          same_plan base (with_entry m key now) (map.insert old.draft key now) c.set.new.self (new_references ++ key ∷ []) (all_bytes c.if-is_new.self.new_references.items)
          (c.in_ok-set.ensures ∙ ap (λ (p : Plan). map.insert p.draft key now) w.self-is)
          (ap (λ (p : Plan). all_bytes p.new_references.items) w.self-is ∙ ap all_bytes w.in_ok-push.ensures.items ∙ map-append str_bytes old.new_references.items (c.args.reference ∷ []))
          (put_new base m old.draft new_references plan key now (c.is_new.ensures.0 w.if-is_new.true).0)
      | else-is_new w ↦
          same_plan base (with_entry m key now) (map.insert old.draft key now) c.set.new.self new_references (all_bytes c.if-is_new.self.new_references.items)
          (c.in_ok-set.ensures ∙ ap (λ (p : Plan). map.insert p.draft key now) w.self-is)
          (ap (λ (p : Plan). all_bytes p.new_references.items) w.self-is)
          (put_known base m old.draft new_references plan key now (λ h. let new = c.is_new.ensures.1 h in cc))
    ]
