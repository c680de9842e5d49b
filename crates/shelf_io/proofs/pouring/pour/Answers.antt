use Rattle.std.proofs.Common.{◌≡◌, ◌∙◌, refl, rules, ◌++◌, Vec, Global, ℕ, length-append, sym, ap, vec_len, ◌<◌, ◌≤◌, ◌+◌, length, arith}
use Rattle.std.proofs.lemmas.Bool.{eqb-true, eqb-false}
use Rattle.shelf_terms.proofs.CausesLemmas.{reads_then}
use Rattle.shelf_io.proofs.Prefixes.{front_passes}
use Rattle.shelf_io.proofs.Poured.{nothing_poured, part_poured, whole_poured, front_poured}
use Rattle.shelf_io.proofs.Coming.{longer_came, missing_came, fault_came, memory_came, dropped_came}
use Rattle.shelf_io.proofs.pouring.pour.Goals as goal

pub returns-then-is_empty-clause-bytes : goal.returns-then-is_empty-clause-bytes
returns-then-is_empty-clause-bytes g c =
    let shelf = g.S.Shelf in
    let taker = g.T.Taker in
    let none : vec_len c.in-Ok.part ≡ 0 = eqb-true (vec_len c.in-Ok.part) 0 (sym c.is_empty.ensures ∙ c.if-is_empty.true) in
    let empty : length c.in-Ok.part.items ≡ 0 = omega arith in
    whole_poured (taker.stands c.args.taker.now) (taker.stands c.parts.taker) (shelf.store c.args.shelf.now) (shelf.store c.parts.shelf) (shelf.store c.part.new.self) c.args.name.now c.in-Ok.part.items
    c.parts.from c.args.limit c.parts.invariant.same c.parts.invariant.short c.parts.invariant.pouring c.in-Ok.ensures.bytes empty c.in-Ok.ensures.events

pub returns-then-next-limit-clause-bytes : goal.returns-then-next-limit-clause-bytes
returns-then-next-limit-clause-bytes g c =
    let shelf = g.S.Shelf in
    let taker = g.T.Taker in
    let pouring = c.parts.invariant.pouring in
    let not_none : vec_len c.in-Ok.part ≡ 0 → ⊥ = eqb-false (vec_len c.in-Ok.part) 0 (sym c.is_empty.ensures ∙ c.if-is_empty.false) in
    let some : 0 < length c.in-Ok.part.items = omega arith in
    let here : c.parts.from ≡ length pouring.prefix = sym pouring.long in
    let past : c.args.limit < length pouring.prefix + length c.in-Ok.part.items = omega arith in (
      front_passes (shelf.store c.args.shelf.now).told (shelf.store c.parts.shelf).told c.args.name.now pouring.prefix c.in-Ok.part.items c.parts.from 65536 c.args.limit c.parts.invariant.same here c.in-Ok.ensures.bytes some past,
      front_poured (taker.stands c.args.taker.now) (taker.stands c.parts.taker) (shelf.store c.args.shelf.now) (shelf.store c.parts.shelf) c.args.name.now c.parts.from pouring,
    )

pub parts-preserved : goal.parts-preserved
parts-preserved g c =
    let not_none : vec_len c.in-Ok.part ≡ 0 → ⊥ = eqb-false (vec_len c.in-Ok.part) 0 (sym c.is_empty.ensures ∙ c.if-is_empty.false) in
    let some : 1 ≤ length c.in-Ok.part.items = omega arith in
    let shelf = g.S.Shelf in
    let taker = g.T.Taker in
    let long : c.len.result ≡ length c.in-Ok.part.items = omega arith in
    record {
      short = omega (arith, c.if-next-limit.false);
      same = c.part.ensures.same ∙ c.parts.invariant.same;
      pouring = part_poured (taker.stands c.args.taker.now) (taker.stands c.parts.taker) (taker.stands c.take.new.self) (shelf.store c.args.shelf.now) (shelf.store c.parts.shelf) (shelf.store c.part.new.self) c.args.name.now
          c.in-Ok.part.items c.as_slice.result.now c.parts.from (c.parts.from + c.len.result) c.parts.invariant.same c.parts.invariant.pouring c.in-Ok.ensures.bytes c.as_slice.ensures.value c.in-Ok-take.ensures.stands
          (ap (λ n. c.parts.from + n) long) some c.in-Ok.ensures.events;
      taken = omega (arith, c.in-Ok-take.ensures.taken, c.parts.invariant.taken, long, ap length c.as_slice.ensures.value);
      spent = λ is. absurd (cc (is, c.in-Ok-take.ensures.fresh));
      causes = reads_then c.parts.invariant.causes c.in-Ok.ensures.causes;
    }

pub returns-in-Err-Missing-clause-refused : goal.returns-in-Err-Missing-clause-refused
returns-in-Err-Missing-clause-refused g c =
    missing_came c.args.name.now c.parts.invariant.pouring.prefix _ _ _ (λ (part : Vec ℕ Global). part.items) c.parts.from 65536
    c.in-Err-Missing.field-0 c.parts.invariant.pouring.came c.in-Err-Missing.ensures.events c.in-Err-Missing.field-0-is

pub returns-in-Err-Fault-clause-refused : goal.returns-in-Err-Fault-clause-refused
returns-in-Err-Fault-clause-refused g c =
    fault_came c.args.name.now c.parts.invariant.pouring.prefix _ _ _ (λ (part : Vec ℕ Global). part.items) c.parts.from 65536
    c.in-Err-Fault.field-0 c.parts.invariant.pouring.came c.in-Err-Fault.ensures.events c.in-Err-Fault.field-0-is

pub returns-in-Err-Memory-clause-refused : goal.returns-in-Err-Memory-clause-refused
returns-in-Err-Memory-clause-refused g c =
    memory_came c.args.name.now c.parts.invariant.pouring.prefix _ _ _ (λ (part : Vec ℕ Global). part.items) c.parts.from 65536
    c.in-Err-Memory.field-0 c.parts.invariant.pouring.came c.in-Err-Memory.ensures.events c.in-Err-Memory.field-0-is

pub returns-in_default-clause-refused : goal.returns-in_default-clause-refused
returns-in_default-clause-refused g c =
    let not_none : vec_len c.in-Ok.part ≡ 0 → ⊥ = eqb-false (vec_len c.in-Ok.part) 0 (sym c.is_empty.ensures ∙ c.if-is_empty.false) in
    let some : 1 ≤ length c.in-Ok.part.items = omega arith in
    dropped_came c.args.name.now c.parts.invariant.pouring.prefix _ _ _ c.in-Ok.part.items c.parts.from c.parts.invariant.pouring.came (sym c.parts.invariant.pouring.long) c.in-Ok.ensures.events some

pub returns-then-next-limit-clause-refused : goal.returns-then-next-limit-clause-refused
returns-then-next-limit-clause-refused g c =
    let not_none : vec_len c.in-Ok.part ≡ 0 → ⊥ = eqb-false (vec_len c.in-Ok.part) 0 (sym c.is_empty.ensures ∙ c.if-is_empty.false) in
    let some : 1 ≤ length c.in-Ok.part.items = omega arith in
    let pouring = c.parts.invariant.pouring in
    let past : c.args.limit < length (pouring.prefix ++ c.in-Ok.part.items) = omega (arith, length-append pouring.prefix c.in-Ok.part.items, pouring.long) in
    longer_came c.args.name.now pouring.prefix _ _ _ c.in-Ok.part.items c.parts.from pouring.came (sym pouring.long) c.in-Ok.ensures.events c.args.limit some past

pub parts-init : goal.parts-init
parts-init g c = record {
  short = omega arith;
  same = refl;
  pouring = nothing_poured _ _ _;
  taken = omega arith;
  spent = λ is. is;
  causes = search rules;
}
