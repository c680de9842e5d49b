use Rattle.std.proofs.Common.{None, ◌<◌, length, arith}
use Rattle.packager.proofs.Marks.{Goes, behind_all, before_mark, at_mark}
use Rattle.packager.proofs.marking.place_at.Goals as goal
use Rattle.packager.proofs.marking.place_at.Goals.{then-place-places-via-then-place-places, then-place-places-via-else-place-places+then-marked-i}

unmarked : (c : goal.Joined-then-place-places) → Goes c.args.title.now.design.marked c.args.i c.args.next.now None
unmarked c =
    let rising = c.places.ensures.valid.design.ascending in
    elim c.then-place-places.branch [
      | then-place-places-via-then-place-places w ↦ behind_all c.args.title.now.design.marked c.args.i c.args.next.now rising c.requires (omega (arith, w.if-place-places.true, c.places.ensures.number))
      | then-place-places-via-else-place-places+then-marked-i w ↦ before_mark c.args.title.now.design.marked c.args.i c.args.next.now w.marked.result rising c.requires w.marked.ensures w.if-marked-i.true
    ]

pub returns-then-place-places-clause-place : goal.returns-then-place-places-clause-place
returns-then-place-places-clause-place c = (unmarked c).place

pub returns-then-place-places-clause-next : goal.returns-then-place-places-clause-next
returns-then-place-places-clause-next c = (unmarked c).next

pub returns-clause-place : goal.returns-clause-place
returns-clause-place c =
    let inside : c.args.next.now < length c.args.title.now.design.marked = omega (arith, c.if-place-places.false, c.places.ensures.number) in
    (at_mark c.args.title.now.design.marked c.args.i c.args.next.now c.marked.result c.places.ensures.valid.design.ascending c.requires inside c.marked.ensures c.if-marked-i.false).place

pub returns-clause-next : goal.returns-clause-next
returns-clause-next c =
    let inside : c.args.next.now < length c.args.title.now.design.marked = omega (arith, c.if-place-places.false, c.places.ensures.number) in
    (at_mark c.args.title.now.design.marked c.args.i c.args.next.now c.marked.result c.places.ensures.valid.design.ascending c.requires inside c.marked.ensures c.if-marked-i.false).next
