use Rattle.std.proofs.Common.{false, List, ap, subst, ◌∙◌, rules}
use Rattle.std.specs.Option.{is_some}
use Rattle.onix_records.specs.declared.parts.ProductIdentifier.{ProductIdentifier}
use Rattle.onix_records.specs.declared.parts.ProductSupply.{ProductSupply}
use Rattle.desk_catalogue.proofs.DoesLemmas.{both_told, did_as, did_fail}
use Rattle.desk_catalogue.proofs.ReadLemmas.{record_found}
use Rattle.desk_catalogue.specs.Calls.{HoldsSuppliesAs}
use Rattle.desk_catalogue.specs.EntryRows.{supplies_of}
use Rattle.desk_catalogue.specs.ReadRows.{HasSupplyRows, TellsIdentifiers}
use Rattle.desk_catalogue.proofs.record_rows.find_record.Goals as goal

pub returns-in_default : goal.returns-in_default
returns-in_default g c =
    did_as c.in_ok-told.ensures
    (λ rows after one. (one.0, λ reads. λ o held. record { there = (one.1 o held).0 ∙ ap is_some c.in_default.is; same_identifiers = λ e. absurd cc; same_supplies = λ e. absurd cc }))

pub returns-then-not-asks : goal.returns-then-not-asks
returns-then-not-asks g c =
    let row = c.args.row.now in
    let told = c.in_ok-told.told in
    did_as c.in_ok-told.ensures
    (λ rows after one. (
      one.0,
      λ reads. record_found row c.args.product.now rows told c.in-Some.same_identifiers false (subst (λ (i : List ProductIdentifier). TellsIdentifiers row i rows told) c.as_slice.ensures one.1) c.in-Some.is (λ e. absurd cc),
    ))

pub returns : goal.returns
returns g c =
    let row = c.args.row.now in
    let p = c.args.product.now in
    let told = c.in_ok-told.told in
    let supplies = c.as_slice-2.result.now in
    did_as (both_told (TellsIdentifiers row c.as_slice.result.now) (HoldsSuppliesAs c.args.with_minimums row supplies) c.in_ok-told.ensures c.in_ok-same_supplies.ensures)
    (λ rows after one. (
      one.0,
      λ reads. record_found row p rows told c.in-Some.same_identifiers c.in_ok-same_supplies.same_supplies (subst (λ (i : List ProductIdentifier). TellsIdentifiers row i rows told) c.as_slice.ensures one.1.0) c.in-Some.is
          (λ yes o held. subst (λ (l : List ProductSupply). HasSupplyRows row l (supplies_of o)) c.as_slice-2.ensures (one.1.1 reads o held yes)),
    ))

pub returns-in_err-same_supplies : goal.returns-in_err-same_supplies
returns-in_err-same_supplies g c = did_fail (search rules) c.in_ok-told.ensures c.in_err-same_supplies.ensures
