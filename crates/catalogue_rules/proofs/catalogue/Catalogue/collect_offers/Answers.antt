use Rattle.std.proofs.Common.{◌≡◌, ◌∷◌, ℕ, List, ap, fold, sym, ◌∙◌}
use Rattle.std.specs.List.{All, flat_map}
use Rattle.std.specs.String.{string_bytes}
use Rattle.std.proofs.lemmas.List.Elements.{All-head, All-rest, All-same}
use Rattle.catalogue_rules.specs.Records.{HasFewDetails, by_bytes}
use Rattle.catalogue_rules.specs.Offers.{offers_in, record_offers}
use Rattle.catalogue_rules.specs.declared.entry.Entry.{Entry}
use Rattle.catalogue_rules.proofs.Places.{walk-more}
use Rattle.catalogue_rules.proofs.catalogue.Catalogue.collect_offers.Goals as goal

pub collect_record-requires : goal.collect_record-requires
collect_record-requires g c =
    let record_here : List ℕ × Entry = (string_bytes c.in-Some.reference.now, c.in-Some.entry.now) in
    let rest = by_bytes c.next.new.self in
    let left : by_bytes c.loop-reference.reference-iterator ≡ record_here ∷ rest = ap by_bytes c.in-Some.ensures.steps in
    let few : All (λ (r : List ℕ × Entry). HasFewDetails r.1) (by_bytes c.loop-reference.reference-iterator) = c.loop-reference.invariant.few in
    All-head (λ (r : List ℕ × Entry). HasFewDetails r.1) record_here rest
    (All-same (λ (r : List ℕ × Entry). HasFewDetails r.1) (record_here ∷ rest) (by_bytes c.loop-reference.reference-iterator) (sym left) few)

pub loop-reference-preserved : goal.loop-reference-preserved
loop-reference-preserved g c =
    let collected = g.C.OfferCollector.collected in
    let f = record_offers c.args.series.now c.args.isbn.now in
    let record_here : List ℕ × Entry = (string_bytes c.in-Some.reference.now, c.in-Some.entry.now) in
    let rest = by_bytes c.next.new.self in
    let left : by_bytes c.loop-reference.reference-iterator ≡ record_here ∷ rest = ap by_bytes c.in-Some.ensures.steps in
    record {
      offers = ap (λ o. fold collected o (flat_map f rest))
          (c.in_ok-collect_record.ensures ∙ ap (λ (k : List ℕ). fold collected c.loop-reference.collector (f (k, c.in-Some.entry.now))) c.as_str.ensures.value)
          ∙ walk-more collected f c.loop-reference.collector (fold collected c.args.collector.now (offers_in c.args.series.now c.args.self.now c.args.isbn.now)) (by_bytes c.loop-reference.reference-iterator) rest record_here left c.loop-reference.invariant.offers;
      few = All-rest (λ (r : List ℕ × Entry). HasFewDetails r.1) record_here rest (by_bytes c.loop-reference.reference-iterator) left c.loop-reference.invariant.few;
    }
