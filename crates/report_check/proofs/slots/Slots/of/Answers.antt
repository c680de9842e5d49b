use Rattle.std.proofs.Common.{◌+◌, ◌≤◌, length, set, subst, true, arith, sym, ◌∙◌}
use Rattle.report_check.proofs.RowSteps.{SlotsBelow, no_slots, slot_more, slot_none, slots_end}
use Rattle.report_check.proofs.slots.Slots.of.Goals as goal
use Rattle.report_check.proofs.slots.Slots.of.Goals.{in-Some, in_default}

pub loop-place-init : goal.loop-place-init
loop-place-init c = no_slots c.args.word.now

pub loop-place-preserved : goal.loop-place-preserved
loop-place-preserved c =
    let word = c.args.word.now in
    let symbols = c.loop-place.symbols in
    let known = c.loop-place.known in
    let place = c.loop-place.place in
    elim c.match-get.branch [
      | in-Some w ↦
          let more : SlotsBelow word (set symbols place w.in-Some.symbol) (set known place true) (place + 1) =
          slot_more word symbols known place w.in-Some.symbol (omega (arith, c.loop-place-test.true, c.len-places.ensures.short))
          (sym c.get.ensures ∙ w.in-Some.is) c.loop-place.invariant in
          subst (λ s. SlotsBelow word s c.match-get.known (place + 1)) (sym w.symbols-is) (subst (λ b. SlotsBelow word (set symbols place w.in-Some.symbol) b (place + 1)) (sym w.known-is) more)
      | in_default w ↦
          let same : SlotsBelow word symbols known (place + 1) = slot_none word symbols known place (sym c.get.ensures ∙ w.in_default.is) c.loop-place.invariant in
          subst (λ s. SlotsBelow word s c.match-get.known (place + 1)) (sym w.symbols-is) (subst (λ b. SlotsBelow word symbols b (place + 1)) (sym w.known-is) same)
    ]

pub returns : goal.returns
returns c =
    let over : length c.args.word.now ≤ c.loop-place.place = omega (arith, c.loop-place-test.false, c.len-places.ensures.places) in
    record {
      whole = c.len-places.ensures.places;
      count = c.readable.ensures;
      each = slots_end c.args.word.now c.loop-place.symbols c.loop-place.known c.loop-place.place over c.loop-place.invariant;
    }
