use Rattle.std.proofs.Common.{◌≡◌, ◌<◌, None, true, false, length, take, arith, ap, subst, sym, ◌∙◌, refl, rules}
use Rattle.std.proofs.lemmas.List.{get_or_default}
use Rattle.std.specs.List.{list_any}
use Rattle.std.specs.Str.{bytes_eq}
use Rattle.onix_records.specs.declared.parts.Product.{Product}
use Rattle.catalogue_rules.specs.Effects.{after as after_all}
use Rattle.desk_catalogue.specs.Calls.{FindsAs}
use Rattle.desk_catalogue.specs.Runs.{brings_new, AreNew, BeginsWith, IsFoundOf}
use Rattle.desk_catalogue.proofs.Additions.{take_push}
use Rattle.desk_catalogue.proofs.DoesLemmas.{both_told, did_as, did_fail, did_nothing}
use Rattle.desk_catalogue.proofs.RunLemmas.{found_behind, found_new, new_behind}
use Rattle.desk_catalogue.proofs.runs.find_run.Goals as goal

pub loop-i-init : goal.loop-i-init
loop-i-init g c = did_nothing (λ rows. (refl, λ m held reads. record { new = tt; next = λ p found is one. absurd cc }))

pub loop-i-preserved : goal.loop-i-preserved
loop-i-preserved g c =
    let s = c.args.series.now in
    let ps = c.args.products.now in
    let w = c.args.with_minimums in
    let i = c.loop-i.i in
    let p = c.index-products-i.result in
    let row = c.in_ok-row.row in
    let found = c.in_ok-found.found in
    let low : i < length ps = omega arith in
    let others : list_any (λ (q : Product). bytes_eq q.reference p.reference) (take i ps) ≡ false = sym c.has_reference.ensures ∙ c.if-has_reference.false in
    did_as (both_told (λ rows (_ : Unit {0}). BeginsWith w s ps rows (record { count = i; found = None })) (FindsAs w row p) c.loop-i.invariant c.in_ok-found.ensures)
    (λ rows after one. (
      one.0,
      λ m held reads.
          let of = found_behind w s m (take i ps) p row found rows c.in_ok-row.ensures one.1.1 held reads others in
          let is_new : c.brings_new-is_new.result ≡ true = search rules in
          let new : brings_new p c.is_there.result ≡ true = sym c.brings_new-is_new.ensures ∙ is_new in
          record {
            new = subst (AreNew m) (sym (take_push ps i p low c.index-products-i.is)) (new_behind m (take i ps) p (one.1.0 m held reads).new (found_new s (after_all m (take i ps)) p found of (ap (brings_new p) (sym c.is_there.ensures) ∙ new)));
            next = λ q f at is. absurd cc;
          },
    ))

pub returns-then-has_reference-clause-does : goal.returns-then-has_reference-clause-does
returns-then-has_reference-clause-does g c = did_as c.loop-i.invariant (λ rows after one. one)

pub returns-then-not-is_new-clause-does : goal.returns-then-not-is_new-clause-does
returns-then-not-is_new-clause-does g c =
    let s = c.args.series.now in
    let ps = c.args.products.now in
    let w = c.args.with_minimums in
    let i = c.loop-i.i in
    let p = c.index-products-i.result in
    let row = c.in_ok-row.row in
    let found = c.in_ok-found.found in
    let low : i < length ps = omega arith in
    let others : list_any (λ (q : Product). bytes_eq q.reference p.reference) (take i ps) ≡ false = sym c.has_reference.ensures ∙ c.if-has_reference.false in
    did_as (both_told (λ rows (_ : Unit {0}). BeginsWith w s ps rows (record { count = i; found = None })) (FindsAs w row p) c.loop-i.invariant c.in_ok-found.ensures)
    (λ rows after one. (
      one.0,
      λ m held reads.
          let of = found_behind w s m (take i ps) p row found rows c.in_ok-row.ensures one.1.1 held reads others in
          record {
            new = (one.1.0 m held reads).new;
            next = λ q f at is.
                let own : p ≡ q = c.index-products-i.is ∙ get_or_default ps i p q low ∙ sym at in
                let same : found ≡ f = cc in
                subst (IsFoundOf s (after_all m (take i ps)) q) same (subst (λ (x : Product). IsFoundOf s (after_all m (take i ps)) x found) own of);
          },
    ))

pub returns-clause-does : goal.returns-clause-does
returns-clause-does g c =
    let all : c.loop-i.i ≡ c.min-most.result = let last = c.loop-i.auto.i-end in omega (arith, last, c.loop-i-test.false) in
    did_as c.loop-i.invariant (λ rows after one. (one.0, subst (λ k. BeginsWith c.args.with_minimums c.args.series.now c.args.products.now rows (record { count = k; found = None })) all one.1))

pub returns-in_err-found-clause-does : goal.returns-in_err-found-clause-does
returns-in_err-found-clause-does g c = did_fail (search rules) c.loop-i.invariant c.in_err-found.ensures
