use Rattle.std.proofs.Common.{◌≡◌, ◌<◌, ◌≤◌, ◌||◌, ◌++◌, ℕ, List, [], ◌∷◌, Option, length, map, refl, ap, arith, ◌∙◌}
use Rattle.std.proofs.Math.Path.{fun_ext}
use Rattle.std.specs.List.{list_any}
use Rattle.std.specs.Option.{option_copied}
use Rattle.std.specs.Str.{bytes_eq}
use Rattle.feed_terms.specs.Fits.{is_among}
use Rattle.feed_terms.specs.HeldBack.{is_held_back, place_text, unfitted}
use Rattle.feed_terms.specs.WithTerms.{held_by, is_held_beside, with_all}
use Rattle.feed_terms.specs.declared.price.GivenPrice.{GivenPrice}
use Rattle.feed_terms.specs.declared.term.Term.{Term}
use Rattle.feed_terms.specs.declared.with_terms.Beside.{Beside}
use Rattle.feed_terms.proofs.WithRecords.{with_past, with_step}
use Rattle.feed_terms.proofs.with_terms.add_with_terms.Goals as goal

pub loop-place-preserved : goal.loop-place-preserved
loop-place-preserved c =
    let terms = c.args.terms.now in
    let supplier = option_copied c.args.supplier in
    let held = is_held_beside (record { closed = c.args.closed; given = c.args.given; barred = c.as_slice.result }) in
    let given = c.args.given.now in
    let i = c.loop-place.place in
    let in_records : i < length c.args.records.now = omega (arith, c.requires.count) in
    with_step terms supplier held c.loop-place.output c.add_with_computed.new.output c.args.records.now given i c.record.result c.index-given-place.result
    in_records c.loop-place-test.true c.record.ensures c.index-given-place.is c.in_ok-remark.ensures ∙ c.loop-place.invariant

-- any of the places of some prices is any of those prices in that place
any_place : (text : List ℕ) (given : List GivenPrice) → is_among (map place_text given) text ≡ list_any (λ g. bytes_eq text (place_text g)) given
any_place text [] = refl
any_place text (g ∷ given) = ap (λ b. bytes_eq text (place_text g) || b) (any_place text given)

-- what holds back is what the SupplyDetail gives
same_held : (terms : List Term) (supplier : Option (List ℕ)) (beside : Beside) → beside.barred.now ≡ map place_text (unfitted terms supplier beside.given.now)
    → is_held_beside beside ≡ is_held_back terms supplier beside.given.now beside.closed.now
same_held terms supplier beside are =
    fun_ext (λ g. fun_ext (λ x. ap (λ b. b || held_by beside g.price x) (ap (λ k. is_among k (place_text g)) are ∙ any_place (place_text g) (unfitted terms supplier beside.given.now))))

pub returns : goal.returns
returns c =
    let terms = c.args.terms.now in
    let supplier = option_copied c.args.supplier in
    let given = c.args.given.now in
    let records = c.args.records.now in
    let beside : Beside = record { closed = c.args.closed; given = c.args.given; barred = c.as_slice.result } in
    let past : length records ≤ c.loop-place.place = omega (arith, c.requires.count, c.loop-place-test.false) in
    with_past terms supplier (is_held_beside beside) c.loop-place.output _ records given c.loop-place.place past c.loop-place.invariant
    ∙ ap (λ h. c.args.output.now ++ with_all terms supplier h records given) (same_held terms supplier beside (c.as_slice.ensures ∙ c.in_ok-barred.ensures))
