use Rattle.std.proofs.Common.{sym, ◌∙◌, arith}
use Rattle.std.specs.BTreeMap.{get}
use Rattle.std.specs.Ordering.{nat_cmp}
use Rattle.desk_memory.proofs.Folding.{number_is}
use Rattle.desk_memory.proofs.Listing.{next_of_them}
use Rattle.desk_memory.proofs.articles.Articles.go_on.Goals as goal

pub list-requires : goal.list-requires
list-requires c = number_is c.in-Some.number c.loop-next.next c.in-Some.ensures ∙ sym c.loop-next.invariant.next

pub loop-next-preserved : goal.loop-next-preserved
loop-next-preserved c =
    let number = c.in-Some.number in
    let same = number_is number c.loop-next.next c.in-Some.ensures in
    let next = c.in-Ok.ensures.next in
    record {
      next = omega arith;
      listed = λ from hs begins end is.
          let was = c.loop-next.invariant.listed from hs begins end is in
          c.list.ensures.listed from hs was
          (next_of_them (get nat_cmp c.args.numbers.now) from number c.args.until hs c.in-Some-get.standing.now c.loop-next.self begins end was (same ∙ sym c.loop-next.invariant.next) (omega arith) (sym c.in-Some-get.ensures.value));
    }

pub returns-in_default-list : goal.returns-in_default-list
returns-in_default-list c = λ from hs begins end is.
    let number = c.in-Some.number in
    let same = number_is number c.loop-next.next c.in-Some.ensures in
    let was = c.loop-next.invariant.listed from hs begins end is in
    c.list.ensures.listed from hs was
    (next_of_them (get nat_cmp c.args.numbers.now) from number c.args.until hs c.in-Some-get.standing.now c.loop-next.self begins end was (same ∙ sym c.loop-next.invariant.next) (omega arith) (sym c.in-Some-get.ensures.value))
