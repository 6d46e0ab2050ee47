use Rattle.std.proofs.Common.{◌≡◌, ◌+◌, ◌++◌, ◌∷◌, [], List, ap, fold, sym, take, ◌∙◌}
use Rattle.std.specs.List.{flat_map}
use Rattle.std.proofs.lemmas.List.{take_all, take_more}
use Rattle.std.proofs.lemmas.List.Sums.{fold-append}
use Rattle.series_rules.specs.Offers.{series_offers, with_names}
use Rattle.desk_memory.specs.Stands.{kept_agreements}
use Rattle.series_rules.specs.Series.{front_of}
use Rattle.desk_memory.specs.declared.series.Series.{Series}
use Rattle.desk_memory.proofs.InOrder.{entries_in_order, first_in_order, offers_more}
use Rattle.desk_memory.proofs.AfterRequests.{kept_front_is}
use Rattle.desk_memory.proofs.desk.collect_offers.Goals as goal

pub loop-series-preserved : goal.loop-series-preserved
loop-series-preserved g c = λ L stands.
    let kept = c.args.kept.now in
    let i = c.loop-series.series-index in
    let s = c.series-item.result in
    let old = c.args.collector.now in
    let collected = g.C.OfferCollector.collected in
    let f = series_offers L c.args.isbn.now in
    let place = first_in_order kept stands.in_order i s c.loop-series-test.true c.series-item.is in
    let more : take (i + 1) kept ≡ take i kept ++ s ∷ [] = take_more kept i s c.loop-series-test.true ∙ ap (λ x. take i kept ++ x ∷ []) (sym c.series-item.is) in
    c.in_ok-collect_offers.ensures (front_of L s.agreement) (kept_front_is kept L i s stands place)
    ∙ ap (λ was. fold collected was (f (s.agreement.name, s.agreement))) (c.loop-series.invariant L stands)
    ∙ sym (fold-append collected old (flat_map f (with_names (kept_agreements (take i kept)))) (f (s.agreement.name, s.agreement)))
    ∙ ap (fold collected old) (sym (offers_more f (take i kept) s))
    ∙ ap (λ (xs : List Series). fold collected old (flat_map f (with_names (kept_agreements xs)))) (sym more)

pub returns : goal.returns
returns g c = λ L stands.
    let f = series_offers L c.args.isbn.now in
    let old = c.args.collector.now in
    let collected = g.C.OfferCollector.collected in
    c.loop-series.invariant L stands
    ∙ ap (λ (xs : List Series). fold collected old (flat_map f (with_names (kept_agreements xs)))) (take_all c.loop-series.series-index c.args.kept.now c.loop-series-test.false)
    ∙ ap (λ named. fold collected old (flat_map f named)) (sym (entries_in_order c.args.kept.now L stands))
