use Rattle.std.proofs.Common.{◌≡◌, ℕ, List, IsSome, MutBor, Option, Some, None, refl, sym, ap, subst, ◌∙◌}
use Rattle.std.specs.FinMap as map
use Rattle.std.specs.Option.{option_copied_mut}
use Rattle.std.specs.String.{string_bytes}
use Rattle.catalogue_rules.specs.Records.{ByReference, EachHas, HasFewDetails, map_of}
use Rattle.catalogue_rules.proofs.Bounds.{each-inserted}
use Rattle.catalogue_rules.proofs.Lookups.{get-map_by, write-map_by}
use Rattle.catalogue_rules.proofs.catalogue.Catalogue.replace.Goals as goal

is_lent : {X : Type 0} (o : Option (MutBor X)) → IsSome (option_copied_mut o) → IsSome o
is_lent None h = h
is_lent (Some place) h = refl

there_inside : (inside now : ByReference) (key : List ℕ) → inside ≡ now → IsSome (map.get now key) → IsSome (map.get inside key)
there_inside inside now key same there = subst (λ m. IsSome (map.get m key)) (sym same) there

pub unwrap-requires : goal.unwrap-requires
unwrap-requires c =
    let key = c.args.reference.now in
    let there = there_inside _ c.args.self.now key c.self.view_is c.requires.there in
    is_lent c.get_mut.result (subst IsSome (get-map_by string_bytes c.self.inside.records.entries key ∙ sym c.get_mut.ensures.value) there)

pub invariant_of-self : goal.invariant_of-self
invariant_of-self c =
    let key = c.args.reference.now in
    let there = there_inside _ c.args.self.now key c.self.view_is c.requires.there in
    subst (EachHas HasFewDetails) (sym (write-map_by string_bytes key c.self.inside.records (c.get_mut.follows.lender c.args.entry) c.args.entry (c.get_mut.follows.holds c.args.entry) there))
    (each-inserted HasFewDetails (map_of c.self.inside.records.entries) key c.args.entry c.requires.few c.self.invariant)

pub returns : goal.returns
returns c =
    let key = c.args.reference.now in
    let there = there_inside _ c.args.self.now key c.self.view_is c.requires.there in
    write-map_by string_bytes key c.self.inside.records (c.get_mut.follows.lender c.args.entry) c.args.entry (c.get_mut.follows.holds c.args.entry) there
    ∙ ap (λ m. map.insert m key c.args.entry) c.self.view_is
