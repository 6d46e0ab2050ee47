use Rattle.std.proofs.Common.{◌≡◌, ℕ, List, ap, subst, sym, ◌∙◌}
use Rattle.std.specs.FinMap as map
use Rattle.std.specs.String.{string_bytes}
use Rattle.catalogue_rules.specs.Records.{EachHas, HasFewDetails, map_of}
use Rattle.catalogue_rules.proofs.Bounds.{each-inserted}
use Rattle.catalogue_rules.proofs.Lookups.{insert-map_by}
use Rattle.catalogue_rules.proofs.catalogue.Catalogue.put.Goals as goal

pub returns-clause-ok : goal.returns-clause-ok
returns-clause-ok c =
    let key = string_bytes c.in_ok-key.key in
    let same : key ≡ c.args.reference.now = c.in_ok-key.ensures.ok in
    insert-map_by string_bytes key c.self.inside.records c.insert.new.self c.args.entry c.in_ok-insert.ensures.updates
    ∙ ap (λ (k : List ℕ). map.insert (map_of c.self.inside.records.entries) k c.args.entry) same
    ∙ ap (λ m. map.insert m c.args.reference.now c.args.entry) c.self.view_is

pub invariant_of-self-2 : goal.invariant_of-self-2
invariant_of-self-2 c =
    let key = string_bytes c.in_ok-key.key in
    subst (EachHas HasFewDetails) (sym (insert-map_by string_bytes key c.self.inside.records c.insert.new.self c.args.entry c.in_ok-insert.ensures.updates))
    (each-inserted HasFewDetails (map_of c.self.inside.records.entries) key c.args.entry c.requires c.self.invariant)
