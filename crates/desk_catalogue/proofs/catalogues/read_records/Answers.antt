use Rattle.std.proofs.Common.{◌≡◌, ◌+◌, take, refl, rules, subst, sym, ◌∙◌}
use Rattle.std.specs.FinMap as fin
use Rattle.std.proofs.lemmas.List.{take_all}
use Rattle.catalogue_rules.specs.Records.{ByReference}
use Rattle.catalogue_rules.specs.declared.entry.Entry.{Entry}
use Rattle.desk_tables.specs.Rows.{DeskRows}
use Rattle.desk_catalogue.proofs.DoesLemmas.{did_as, did_both, did_fail, did_nothing, did_stop, did_then}
use Rattle.desk_catalogue.specs.ReadRecords.{AreReadOf}
use Rattle.desk_catalogue.proofs.Additions.{take_push}
use Rattle.desk_catalogue.proofs.CatalogueLemmas.{none_read, one_more_read}
use Rattle.desk_catalogue.proofs.catalogues.read_records.Goals as goal

pub loop-record-init : goal.loop-record-init
loop-record-init g c = did_nothing (λ rows. (refl, none_read rows c.new-catalogue.result c.new-catalogue.ensures))

pub loop-record-preserved : goal.loop-record-preserved
loop-record-preserved g c =
    let records = c.args.records.now in
    let i = c.loop-record.record-index in
    let row = c.record-item.result in
    let part = c.loop-record.catalogue in
    let put : c.put.new.self ≡ fin.insert part row.reference c.in_ok-entry.entry = search rules in
    let Both : DeskRows → Entry → DeskRows → Type 0 = λ rows x after. (after ≡ rows) × AreReadOf (take (i + 1) records) rows (fin.insert part row.reference x) in
    did_as {First = Both}
    (did_then c.loop-record.invariant c.in_ok-entry.ensures.does
    (λ rows between after x one two. (
      two.0 ∙ one.0,
      subst (λ l. AreReadOf l rows (fin.insert part row.reference x)) (sym (take_push records i row c.loop-record-test.true c.record-item.is))
          (one_more_read (take i records) row rows between part (fin.insert part row.reference x) x one.0 one.1 two.1 refl),
    )))
    (λ rows after one. (one.0, subst (λ (p : ByReference). AreReadOf (take (i + 1) records) rows p) (sym put) one.1))

pub returns-in_err-entry : goal.returns-in_err-entry
returns-in_err-entry g c = did_fail (search rules) c.loop-record.invariant c.in_err-entry.ensures.does

pub returns-then-is_err : goal.returns-then-is_err
returns-then-is_err g c = did_stop refl (did_both c.loop-record.invariant c.in_ok-entry.ensures.does)

pub returns : goal.returns
returns g c =
    let records = c.args.records.now in
    let part = c.loop-record.catalogue in
    let all = take_all c.loop-record.record-index records c.loop-record-test.false in
    did_as c.loop-record.invariant (λ rows after one. (one.0, subst (λ l. AreReadOf l rows part) all one.1))
