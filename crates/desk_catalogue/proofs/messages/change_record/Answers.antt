use Rattle.std.proofs.Common.{subst, sym}
use Rattle.catalogue_rules.specs.declared.change.Change.{Change}
use Rattle.desk_catalogue.proofs.DoesLemmas.{did_also, did_nothing}
use Rattle.desk_catalogue.specs.AppliedProducts.{IsChanged}
use Rattle.desk_catalogue.proofs.HoldingLemmas.{became_itself}
use Rattle.desk_catalogue.proofs.messages.change_record.Goals as goal

pub returns-in-Replace : goal.returns-in-Replace
returns-in-Replace g c = did_also c.replace.ensures (λ rows after a. subst (λ (x : Change). IsChanged x c.args.row.now c.args.product.now c.args.found rows after) (sym c.in-Replace.is))

pub returns-in-Update : goal.returns-in-Update
returns-in-Update g c = did_also c.update.ensures (λ rows after a. subst (λ (x : Change). IsChanged x c.args.row.now c.args.product.now c.args.found rows after) (sym c.in-Update.is))

pub returns-in-Delete : goal.returns-in-Delete
returns-in-Delete g c = did_also c.delete.ensures (λ rows after a. subst (λ (x : Change). IsChanged x c.args.row.now c.args.product.now c.args.found rows after) (sym c.in-Delete.is))

pub returns-in-Ignore : goal.returns-in-Ignore
returns-in-Ignore g c =
    let row = c.args.row.now in
    did_nothing (λ rows. subst (λ (x : Change). IsChanged x row c.args.product.now c.args.found rows rows) (sym c.in-Ignore.is) (λ o held finds storable. became_itself row.series row.reference o rows held))
