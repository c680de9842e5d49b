use Rattle.std.proofs.Common.{◌≡◌, ℕ, ◌-◌, ◌*◌, ◌^◌, List, length, map, get_or, drop, sym, ap, ap₂, ◌∙◌, arith}
use Rattle.std.proofs.lemmas.List.{length-map, get_or-map}
use Rattle.code_terms.specs.Symbols.{packed}
use Rattle.code_terms.proofs.Packing.{packed-none, packed-more}
use Rattle.rs_code.proofs.Coefficients.{numbers_below, packed-room}
use Rattle.rs_code.proofs.code.packed_number.Goals as goal

pub coefficients-init : goal.coefficients-init
coefficients-init g c =
    let cs : List ℕ = map g.F.Field.number c.args.coefs.now in
    sym (packed-none g.F.Field.BITS cs (length c.args.coefs.now) (sym (length-map c.args.coefs.now g.F.Field.number)))

pub overflow_mul-number : goal.overflow_mul-number
overflow_mul-number g c =
    let met = g.met.F.Field in
    let cs : List ℕ = map g.F.Field.number c.args.coefs.now in
    let room = packed-room g.F.Field.BITS g.F.Field.Q cs c.coefficients.j met.size met.most_bits (omega (arith, length-map c.args.coefs.now g.F.Field.number)) c.coefficients-test.true
    (numbers_below g.F.Field.number g.F.Field.BITS g.F.Field.Q met.below met.size c.args.coefs.now) in
    let is : c.coefficients.number * c.Q.result ≡ packed g.F.Field.BITS (drop c.coefficients.j cs) * g.F.Field.Q = ap₂ (λ n q. n * q) c.coefficients.invariant c.Q.ensures in
    omega (arith, room, is)

pub overflow_add-number : goal.overflow_add-number
overflow_add-number g c =
    let met = g.met.F.Field in
    let cs : List ℕ = map g.F.Field.number c.args.coefs.now in
    let room = packed-room g.F.Field.BITS g.F.Field.Q cs c.coefficients.j met.size met.most_bits (omega (arith, length-map c.args.coefs.now g.F.Field.number)) c.coefficients-test.true
    (numbers_below g.F.Field.number g.F.Field.BITS g.F.Field.Q met.below met.size c.args.coefs.now) in
    let is : c.coefficients.number * c.Q.result ≡ packed g.F.Field.BITS (drop c.coefficients.j cs) * g.F.Field.Q = ap₂ (λ n q. n * q) c.coefficients.invariant c.Q.ensures in
    omega (arith, room, is)

pub coefficients-preserved : goal.coefficients-preserved
coefficients-preserved g c =
    let met = g.met.F.Field in
    let number : g.row.F.Denot → ℕ = g.F.Field.number in
    let cs : List ℕ = map number c.args.coefs.now in
    let j : ℕ = c.coefficients.j in
    let x : ℕ = number c.index-coefs-j.result in
    let long : length cs ≡ length c.args.coefs.now = length-map c.args.coefs.now number in
    let at : x ≡ get_or cs (j - 1) x = ap number c.index-coefs-j.is ∙ sym (get_or-map number c.args.coefs.now (j - 1) c.index-coefs-j.result x (omega arith)) in
    let more = packed-more g.F.Field.BITS cs j x c.coefficients-test.true (omega (arith, long)) at in
    let is : c.coefficients.number * c.Q.result ≡ packed g.F.Field.BITS (drop j cs) * 2 ^ g.F.Field.BITS = ap₂ (λ n q. n * q) c.coefficients.invariant (c.Q.ensures ∙ met.size) in
    omega (arith, is, more, c.to.ensures)
