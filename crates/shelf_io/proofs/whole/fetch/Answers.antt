use Rattle.std.proofs.Common.{◌≡◌, ◌∙◌, ap, ◌++◌, sym, subst, ℕ, Vec, Global, refl, rules, vec_len, ◌<◌, ◌≤◌, ◌+◌, length, arith, length-append}
use Rattle.std.proofs.lemmas.Bool.{eqb-true, eqb-false}
use Rattle.shelf_terms.proofs.CausesLemmas.{reads_then}
use Rattle.shelf_io.proofs.Coming.{IsComing, none_came, more_came, whole_came, longer_came, missing_came, fault_came, memory_came, dropped_came}
use Rattle.shelf_io.proofs.Prefixes.{IsFront, front_none, front_more, front_ends, front_passes}
use Rattle.shelf_io.proofs.whole.fetch.Goals as goal

-- src/whole.rt:39:13
pub returns-then-is_empty-clause-bytes : goal.returns-then-is_empty-clause-bytes
returns-then-is_empty-clause-bytes g c =
    let here : c.len.result ≡ length c.parts.whole.items = omega arith in
    let none : vec_len c.in-Ok.part ≡ 0 = eqb-true (vec_len c.in-Ok.part) 0 (sym c.is_empty.ensures ∙ c.if-is_empty.true) in
    let empty : length c.in-Ok.part.items ≡ 0 = omega arith in
    front_ends _ _ c.args.name.now c.parts.whole.items c.in-Ok.part.items c.len.result 65536 c.parts.invariant.same here (omega arith) c.parts.invariant.prefix c.in-Ok.ensures.bytes empty

-- src/whole.rt:42:13
pub returns-then-len-limit-clause-bytes : goal.returns-then-len-limit-clause-bytes
returns-then-len-limit-clause-bytes g c =
    let here : c.len.result ≡ length c.parts.whole.items = omega arith in
    let not_none : vec_len c.in-Ok.part ≡ 0 → ⊥ = eqb-false (vec_len c.in-Ok.part) 0 (sym c.is_empty.ensures ∙ c.if-is_empty.false) in
    let some : 0 < length c.in-Ok.part.items = omega arith in
    let past : c.args.limit < length c.parts.whole.items + length c.in-Ok.part.items = omega arith in
    front_passes _ _ c.args.name.now c.parts.whole.items c.in-Ok.part.items c.len.result 65536 c.args.limit c.parts.invariant.same here c.in-Ok.ensures.bytes some past

-- src/whole.rt:31:5
pub parts-preserved : goal.parts-preserved
parts-preserved g c =
    let here : c.len.result ≡ length c.parts.whole.items = omega arith in
    let not_none : vec_len c.in-Ok.part ≡ 0 → ⊥ = eqb-false (vec_len c.in-Ok.part) 0 (sym c.is_empty.ensures ∙ c.if-is_empty.false) in
    let some : 1 ≤ length c.in-Ok.part.items = omega arith in
    record {
      short = omega (arith, c.in-Ok-extend_from_slice.ensures.len);
      same = c.part.ensures.same ∙ c.parts.invariant.same;
      prefix = front_more _ _ c.args.name.now c.parts.whole.items c.in-Ok.part.items _ _ c.len.result 65536
          c.parts.invariant.same here c.parts.invariant.prefix c.in-Ok.ensures.bytes
          c.as_slice.ensures.value c.in-Ok-extend_from_slice.ensures.items;
      came = more_came c.args.name.now c.parts.whole.items _ _ _ c.in-Ok.part.items c.len.result c.parts.invariant.came here c.in-Ok.ensures.events
          _ some (c.in-Ok-extend_from_slice.ensures.items ∙ ap (λ b. c.parts.whole.items ++ b) c.as_slice.ensures.value);
      causes = reads_then c.parts.invariant.causes c.in-Ok.ensures.causes;
    }

pub returns-then-is_empty-clause-came : goal.returns-then-is_empty-clause-came
returns-then-is_empty-clause-came g c =
    let here : c.len.result ≡ length c.parts.whole.items = omega arith in
    let none : vec_len c.in-Ok.part ≡ 0 = eqb-true (vec_len c.in-Ok.part) 0 (sym c.is_empty.ensures ∙ c.if-is_empty.true) in
    let empty : length c.in-Ok.part.items ≡ 0 = omega arith in
    whole_came c.args.name.now c.parts.whole.items _ _ _ c.in-Ok.part.items c.len.result c.parts.invariant.came here c.in-Ok.ensures.events empty

pub returns-then-len-limit-clause-came : goal.returns-then-len-limit-clause-came
returns-then-len-limit-clause-came g c =
    let not_none : vec_len c.in-Ok.part ≡ 0 → ⊥ = eqb-false (vec_len c.in-Ok.part) 0 (sym c.is_empty.ensures ∙ c.if-is_empty.false) in
    let some : 1 ≤ length c.in-Ok.part.items = omega arith in
    let here : c.len.result ≡ length c.parts.whole.items = omega arith in
    let past : c.args.limit < length (c.parts.whole.items ++ c.in-Ok.part.items) = omega (arith, length-append c.parts.whole.items c.in-Ok.part.items) in
    longer_came c.args.name.now c.parts.whole.items _ _ _ c.in-Ok.part.items c.len.result c.parts.invariant.came here c.in-Ok.ensures.events c.args.limit some past

pub returns-in-Err-Missing-clause-came : goal.returns-in-Err-Missing-clause-came
returns-in-Err-Missing-clause-came g c =
    missing_came c.args.name.now c.parts.whole.items _ _ _ (λ (part : Vec ℕ Global). part.items) c.len.result 65536
    c.in-Err-Missing.field-0 c.parts.invariant.came c.in-Err-Missing.ensures.events c.in-Err-Missing.field-0-is

pub returns-in-Err-Fault-clause-came : goal.returns-in-Err-Fault-clause-came
returns-in-Err-Fault-clause-came g c =
    fault_came c.args.name.now c.parts.whole.items _ _ _ (λ (part : Vec ℕ Global). part.items) c.len.result 65536
    c.in-Err-Fault.field-0 c.parts.invariant.came c.in-Err-Fault.ensures.events c.in-Err-Fault.field-0-is

pub returns-in-Err-Memory-clause-came : goal.returns-in-Err-Memory-clause-came
returns-in-Err-Memory-clause-came g c =
    memory_came c.args.name.now c.parts.whole.items _ _ _ (λ (part : Vec ℕ Global). part.items) c.len.result 65536
    c.in-Err-Memory.field-0 c.parts.invariant.came c.in-Err-Memory.ensures.events c.in-Err-Memory.field-0-is

pub returns-in_default-clause-came : goal.returns-in_default-clause-came
returns-in_default-clause-came g c =
    let not_none : vec_len c.in-Ok.part ≡ 0 → ⊥ = eqb-false (vec_len c.in-Ok.part) 0 (sym c.is_empty.ensures ∙ c.if-is_empty.false) in
    let some : 1 ≤ length c.in-Ok.part.items = omega arith in
    let here : c.len.result ≡ length c.parts.whole.items = omega arith in
    dropped_came c.args.name.now c.parts.whole.items _ _ _ c.in-Ok.part.items c.len.result c.parts.invariant.came here c.in-Ok.ensures.events some

pub parts-init : goal.parts-init
parts-init g c = record {
  short = omega (arith, c.new-whole.ensures.len);
  same = refl;
  prefix = subst (λ b. IsFront (g.S.Shelf.store c.args.shelf.now).told c.args.name.now b) (sym c.new-whole.ensures.items) (front_none _ _);
  came = subst (λ b. IsComing c.args.name.now b (g.S.Shelf.store c.args.shelf.now).events (g.S.Shelf.store c.args.shelf.now).events) (sym c.new-whole.ensures.items) (none_came _ _);
  causes = search rules;
}
