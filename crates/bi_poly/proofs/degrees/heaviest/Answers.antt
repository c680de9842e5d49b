use Rattle.std.proofs.Common.{◌≡◌, ◌≢◌, inl, inr, ℕ, ◌+◌, ◌*◌, ◌<◌, ◌≤◌, length, arith}
use Rattle.std.proofs.lemmas.Bool.{cases_lt}
use Rattle.std.proofs.Math.Nat.{mul-le-mul}
use Rattle.algebra.specs.Lists.{coefficients}
use Rattle.bi_poly.proofs.Heights.{last_nonzero}
use Rattle.bi_poly.proofs.degrees.heaviest.Goals as goal

pub overflow_mul-result : goal.overflow_mul-result
overflow_mul-result g c =
    let R = g.F.Field.ring in
    let met = g.met.F.Field in
    let last : ℕ = c.in-Some.last in
    let count : length c.trimmed.result.now ≡ last + 1 = omega (arith, c.in-Some.ensures) in
    let some : coefficients R c.args.row.now last ≢ R.nil = last_nonzero R g.F.Field.number met.number_nil met.same c.args.row.now c.trimmed.result.now last c.trimmed.ensures count in
    let low : c.args.j < 4096 = elim (cases_lt c.args.j 4096) [ inl l ↦ l | inr l ↦ absurd (some (c.requires.y last l)) ] in
    let bound : c.args.w * c.args.j ≤ 12 * 4096 = mul-le-mul {n₁ = c.args.w} {m₁ = c.args.j} {n₂ = 12} {m₂ = 4096} (omega arith) (omega arith) in
    omega arith

pub overflow_add-result : goal.overflow_add-result
overflow_add-result g c =
    let R = g.F.Field.ring in
    let met = g.met.F.Field in
    let last : ℕ = c.in-Some.last in
    let count : length c.trimmed.result.now ≡ last + 1 = omega (arith, c.in-Some.ensures) in
    let some : coefficients R c.args.row.now last ≢ R.nil = last_nonzero R g.F.Field.number met.number_nil met.same c.args.row.now c.trimmed.result.now last c.trimmed.ensures count in
    let low : c.args.j < 4096 = elim (cases_lt c.args.j 4096) [ inl l ↦ l | inr l ↦ absurd (some (c.requires.y last l)) ] in
    let left : last < 65536 = elim (cases_lt last 65536) [ inl l ↦ l | inr l ↦ absurd (some (c.requires.x last l)) ] in
    let bound : c.args.w * c.args.j ≤ 12 * 4096 = mul-le-mul {n₁ = c.args.w} {m₁ = c.args.j} {n₂ = 12} {m₂ = 4096} (omega arith) (omega arith) in
    omega arith
