use Rattle.std.proofs.Common.{◌≤◌, ◌*◌, arith}
use Rattle.std.specs.Prelude.{is_some, nat_le}
use Rattle.std.proofs.lemmas.Bool.{and_parts, leb-true}
use Rattle.std.proofs.lemmas.List.Sums.{count_by-le-length}
use Rattle.std.proofs.Math.Nat.{mul-le-mul_left}
use Rattle.code_terms.proofs.PlaceLaws.{agreement_of-few}
use Rattle.decoding_terms.specs.Parameters.{is_bound, is_light}
use Rattle.report_check.proofs.places.meets.Goals as goal

pub overflow_mul-result : goal.overflow_mul-result
overflow_mul-result g c =
    let k = c.args.code.now.dimension in
    let word = c.args.word.now in
    let a = c.agreement-agreement.result in
    let bounded = and_parts (nat_le 1 c.args.bound) (nat_le c.args.bound 8) (and_parts (is_bound c.args.bound) (is_light k c.args.bound) c.requires.bound).0 in
    let few : c.args.bound ≤ 8 = leb-true c.args.bound 8 bounded.1 in
    let some : a ≤ 256 =
    omega (arith, c.agreement-agreement.ensures.value, agreement_of-few g.F.Field.BITS k c.args.message word, count_by-le-length is_some word, c.len-places.ensures.places, c.len-places.ensures.short) in
    let product : a * c.args.bound ≤ a * 8 = mul-le-mul_left a few in
    omega (arith, product, some)
