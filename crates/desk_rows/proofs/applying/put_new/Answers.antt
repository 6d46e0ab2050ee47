use Rattle.std.proofs.Common.{◌≡◌, sym, ◌∙◌, rules}
use Rattle.desk_catalogue.proofs.DoesLemmas.{did_as, did_fail, did_then, put}
use Rattle.desk_tables.specs.Rows.{DeskRows}
use Rattle.desk_rows.specs.Changes.{PutsNew}
use Rattle.desk_rows.proofs.Applied.{put_above, put_next_at}
use Rattle.desk_rows.proofs.applying.put_new.Goals as goal

pub returns-then-value-next : goal.returns-then-value-next
returns-then-value-next g c =
    let other : ¬ (c.args.number ≡ c.args.next) = λ e. c.if-value-next.true (c.value.ensures.value ∙ e) in
    did_as (put c.in_ok-put_held.ensures)
    (λ rows now one. put_above c.args.series.now c.args.next c.args.number c.args.standing.now c.args.text.now rows now c.applied_or_held.result other c.applied_or_held.ensures one)

pub returns : goal.returns
returns g c =
    let s = c.args.series.now in
    let n = c.args.number in
    let h = c.args.standing.now in
    let t = c.args.text.now in
    let answer = c.applied_or_held-2.result in
    let Done : DeskRows → Unit {0} → DeskRows → Type 0 = λ rows _ now. PutsNew s c.args.next n h t rows answer now in
    let is_next : c.value.result ≡ c.args.next = search rules in
    did_as {First = Done}
    (did_then c.in_ok-effect.ensures c.in_ok-drain.ensures
    (λ rows between now x one two. put_next_at s n c.args.next c.value-2.result h t c.in_ok-effect.effect rows between now answer (sym c.value.ensures.value ∙ is_next) c.value-2.ensures.value c.applied_or_held-2.ensures one two))
    (λ rows now one. one)

pub returns-in_err-drain : goal.returns-in_err-drain
returns-in_err-drain g c = did_fail (search rules) c.in_ok-effect.ensures c.in_err-drain.ensures
