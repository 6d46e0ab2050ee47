use Rattle.std.proofs.Common.{◌≡◌, ◌≤◌, ◌++◌, ◌∷◌, ◌∙◌, [], List, Some, length, ap, sym, subst, arith}
use Rattle.std.specs.Prelude.{codes, if◌then◌else◌, nat_lt}
use Rattle.std.proofs.lemmas.Bool.Decides.{nat_tests}
use Rattle.std.proofs.lemmas.List.{append-nil}
use Rattle.onix_records.specs.declared.parts.Price.{Price}
use Rattle.feed_terms.specs.declared.price.GivenPrice.{GivenPrice}
use Rattle.feed_mapping.specs.PriceTexts.{price_view}
use Rattle.feed_mapping.specs.Prices.{context_view, written_fields}
use Rattle.feed_mapping.specs.PriceTerms.{given_in, given_of, kinds_closed}
use Rattle.feed_mapping.specs.Records.{Fields}
use Rattle.feed_mapping.proofs.ComputedRows.{long-written}
use Rattle.feed_mapping.proofs.SeenPrices.{IsNew, new-price, unseen}
use Rattle.feed_mapping.proofs.price_terms.add_written.Goals as goal

nothing-seen : (c : goal.In_ok-push_closed) → given_in (context_view c.args.context.now) (price_view c.args.price.now) ≡ []
nothing-seen c =
    let same : length c.add_price.new.records ≡ length c.args.written.now.records = grind (arith, nat_tests) in
    unseen (context_view c.args.context.now) (price_view c.args.price.now) c.args.written.now.records c.add_price.new.records c.in_ok-add_price.ensures.records same

pub returns-then-len-count-clause-given : goal.returns-then-len-count-clause-given
returns-then-len-count-clause-given c =
    sym (ap (λ (g : List GivenPrice). c.args.written.now.given.items ++ g) (nothing-seen c) ∙ append-nil c.args.written.now.given.items)

pub returns-then-len-count-clause-closed : goal.returns-then-len-count-clause-closed
returns-then-len-count-clause-closed c =
    let opening = (context_view c.args.context.now).opening in
    let closed = kinds_closed opening (price_view c.args.price.now) in
    c.in_ok-push_closed.ensures
    ∙ ap (λ (g : List GivenPrice). c.args.written.now.closed.items ++ (if nat_lt 0 (length g) then [] else closed)) (sym (nothing-seen c))

pub given_of-requires : goal.given_of-requires
given_of-requires c =
    let n = new-price (context_view c.args.context.now) (price_view c.args.price.now) c.args.written.now.records c.add_price.new.records c.in_ok-add_price.ensures.records (λ same. grind (arith, nat_tests)) in
    let written : c.record-2.result ≡ codes "Price" ∷ written_fields (context_view c.args.context.now) (price_view c.args.price.now) = let holds = n.holds in cc in
    subst (λ (f : Fields). 9 ≤ length f) (sym written) (long-written (context_view c.args.context.now) (price_view c.args.price.now))

one-seen : (c : goal.In_ok-push-2) → IsNew (context_view c.args.context.now) (price_view c.args.price.now) c.args.written.now.records c.add_price.new.records
one-seen c =
    new-price (context_view c.args.context.now) (price_view c.args.price.now) c.args.written.now.records c.add_price.new.records c.in_ok-add_price.ensures.records
    (λ same. grind (arith, nat_tests))

said-is : (c : goal.In_ok-push-2) → Some c.in-Some.said ≡ Some ((one-seen c).price)
said-is c =
    let n = one-seen c in
    let own : c.record.result ≡ codes "Price" ∷ written_fields (context_view c.args.context.now) (price_view c.args.price.now) =
    let holds = n.holds in cc in
    let read = c.in_ok-said.ensures (written_fields (context_view c.args.context.now) (price_view c.args.price.now)) own n.utf8 in
    let is = n.read in cc

given-is : (c : goal.In_ok-push-2) → given_in (context_view c.args.context.now) (price_view c.args.price.now) ≡ c.in_ok-given.given ∷ []
given-is c =
    let n = one-seen c in
    let fields = codes "Price" ∷ written_fields (context_view c.args.context.now) (price_view c.args.price.now) in
    let written : c.record-2.result ≡ fields = let holds = n.holds in cc in
    let same : c.in-Some.said ≡ n.price = let said = said-is c in cc in
    let own : c.in_ok-given.given ≡ given_of c.in-Some.said fields c.args.price.now.below =
    c.in_ok-given.ensures ∙ ap (λ (f : Fields). given_of c.in-Some.said f c.args.price.now.below) written in
    n.given ∙ ap (λ (p : Price). given_of p fields c.args.price.now.below ∷ []) (sym same) ∙ ap (λ (g : GivenPrice). g ∷ []) (sym own)

pub returns-clause-given : goal.returns-clause-given
returns-clause-given c =
    c.in_ok-push.ensures.items ∙ ap (λ (g : List GivenPrice). c.args.written.now.given.items ++ g) (sym (given-is c))

pub returns-clause-closed : goal.returns-clause-closed
returns-clause-closed c =
    let closed = kinds_closed (context_view c.args.context.now).opening (price_view c.args.price.now) in
    sym (ap (λ (g : List GivenPrice). c.args.written.now.closed.items ++ (if nat_lt 0 (length g) then [] else closed)) (given-is c) ∙ append-nil c.args.written.now.closed.items)
