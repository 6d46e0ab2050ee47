use Rattle.std.proofs.Common.{◌≡◌, ◌+◌, List, Ok, fold, rules}
use Rattle.sqlite.specs.Held.{state}
use Rattle.price_rules.specs.declared.offer.Offer.{Offer}
use Rattle.desk_tables.specs.ArticleAnswers.{AreOffersOf}
use Rattle.desk_tables.specs.declared.records.RecordRow.{RecordRow}
use Rattle.desk_tables.specs.Rows.{DeskRows}
use Rattle.desk_tables.proofs.ArticleLoops.{RecordsSoFar, records_more}
use Rattle.desk_tables.proofs.RecordCalls.{reads_failed, reads_then}
use Rattle.desk_tables.proofs.work.Work.collect_offers.Goals as goal

pub returns-in_err-collect_record : goal.returns-in_err-collect_record
returns-in_err-collect_record g c =
    record {
      same_reference = search rules;
      untouched = search rules;
      works =
          let records : List RecordRow = c.as_slice-row-items.result.now in
          reads_failed (λ (rows : DeskRows) (_ : Unit {0}). RecordsSoFar g.C.OfferCollector.collected c.args.isbn.now records c.loop-row.row-index c.args.collector c.loop-row.collector rows)
          (λ (rows : DeskRows) (_ : Unit {0}). (here : List Offer) × AreOffersOf rows c.row-item.result here × (c.collect_record.new.collector ≡ fold g.C.OfferCollector.collected c.loop-row.collector here)) _
          (state g.S.Store c.args.self.now.tables.now.connection) (state g.S.Store c.loop-row.self.tables.now.connection) (state g.S.Store c.collect_record.new.self.tables.now.connection)
          c.args.self.now.spent c.loop-row.self.spent c.collect_record.new.self.spent tt c.in_err-collect_record.field-0.0 (search rules) c.loop-row.invariant.so_far c.in_err-collect_record.ensures.works;
    }

pub loop-row-preserved : goal.loop-row-preserved
loop-row-preserved g c = record {
  same_reference = search rules;
  so_far =
      let records : List RecordRow = c.as_slice-row-items.result.now in
      reads_then (λ (rows : DeskRows) (_ : Unit {0}). RecordsSoFar g.C.OfferCollector.collected c.args.isbn.now records c.loop-row.row-index c.args.collector c.loop-row.collector rows)
      (λ (rows : DeskRows) (_ : Unit {0}). (here : List Offer) × AreOffersOf rows c.row-item.result here × (c.collect_record.new.collector ≡ fold g.C.OfferCollector.collected c.loop-row.collector here))
      (λ (rows : DeskRows) (_ : Unit {0}). RecordsSoFar g.C.OfferCollector.collected c.args.isbn.now records (c.loop-row.row-index + 1) c.args.collector c.collect_record.new.collector rows)
      (state g.S.Store c.args.self.now.tables.now.connection) (state g.S.Store c.loop-row.self.tables.now.connection) (state g.S.Store c.collect_record.new.self.tables.now.connection)
      c.args.self.now.spent c.loop-row.self.spent c.collect_record.new.self.spent tt (Ok c.in_ok-collect_record.field-0) c.loop-row.invariant.so_far c.in_ok-collect_record.ensures.works
      (λ rows done h one two. records_more g.C.OfferCollector.collected c.args.isbn.now records c.loop-row.row-index c.row-item.result c.args.collector c.loop-row.collector c.collect_record.new.collector rows c.loop-row-test.true c.row-item.is one two);
}
