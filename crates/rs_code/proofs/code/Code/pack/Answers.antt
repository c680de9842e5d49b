use Rattle.std.proofs.Common.{◌≡◌, ℕ, ◌*◌, ◌^◌, ◌≤◌, List, length, map, ap, ◌∙◌, arith}
use Rattle.std.proofs.lemmas.List.{length-map}
use Rattle.std.proofs.Math.Nat.{mul-le-mul_left}
use Rattle.std.proofs.Math.Pow.{pow_mono}
use Rattle.code_terms.specs.Symbols.{coefficient, packed}
use Rattle.code_terms.proofs.Packing.{packed-below, coefficient-packed}
use Rattle.rs_code.proofs.Coefficients.{numbers_below}
use Rattle.rs_code.proofs.code.Code.pack.Goals as goal

pub returns-clause-small : goal.returns-clause-small
returns-clause-small g c =
    let met = g.met.F.Field in
    let cs : List ℕ = map g.F.Field.number c.args.coefs.now in
    let below = packed-below g.F.Field.BITS cs (numbers_below g.F.Field.number g.F.Field.BITS g.F.Field.Q met.below met.size c.args.coefs.now) in
    let few : length cs ≤ c.args.self.now.dimension = omega (arith, length-map c.args.coefs.now g.F.Field.number) in
    let wide : 2 ^ (g.F.Field.BITS * length cs) ≤ 2 ^ (g.F.Field.BITS * c.args.self.now.dimension) = pow_mono (mul-le-mul_left g.F.Field.BITS few) in
    let is : c.of.result ≡ packed g.F.Field.BITS cs = c.of.ensures ∙ c.packed_number.ensures ∙ ap (λ xs. packed g.F.Field.BITS (map g.F.Field.number xs)) c.as_slice.ensures in
    omega (arith, below, is)

pub returns-clause-coefficients : goal.returns-clause-coefficients
returns-clause-coefficients g c j =
    let met = g.met.F.Field in
    let cs : List ℕ = map g.F.Field.number c.args.coefs.now in
    let is : c.of.result ≡ packed g.F.Field.BITS cs = c.of.ensures ∙ c.packed_number.ensures ∙ ap (λ xs. packed g.F.Field.BITS (map g.F.Field.number xs)) c.as_slice.ensures in
    ap (λ u. coefficient g.F.Field.BITS u j) is ∙ coefficient-packed g.F.Field.BITS cs j (numbers_below g.F.Field.number g.F.Field.BITS g.F.Field.Q met.below met.size c.args.coefs.now)
