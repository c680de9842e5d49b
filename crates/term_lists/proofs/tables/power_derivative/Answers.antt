use Rattle.std.proofs.Common.{◌≡◌, ◌-◌, ◌<◌, true, false, bit_and, length, sym, ◌∙◌, arith}
use Rattle.std.proofs.lemmas.Bool.{eq-eqb, ne_eqb}
use Rattle.std.proofs.lemmas.List.{get_or_default}
use Rattle.algebra.specs.Binomials.{has_bits}
use Rattle.term_lists.proofs.PowerTables.{weight_has, weight_lacks}
use Rattle.term_lists.proofs.tables.power_derivative.Goals as goal

pub returns-then-exponent-order : goal.returns-then-exponent-order
returns-then-exponent-order g c = λ a powers.
    let R = g.F.Field.ring in
    let bits : has_bits c.args.exponent c.args.order ≡ true = eq-eqb (bit_and c.args.exponent c.args.order) c.args.order c.if-exponent-order.true in
    let inside : c.args.exponent - c.args.order < length c.args.powers.now = omega (arith, c.requires) in
    c.index-powers-exponent.is
    ∙ get_or_default c.args.powers.now (c.args.exponent - c.args.order) c.index-powers-exponent.result R.nil inside
    ∙ powers (c.args.exponent - c.args.order) inside
    ∙ sym (weight_has R a c.args.exponent c.args.order bits)

pub returns-else-exponent-order : goal.returns-else-exponent-order
returns-else-exponent-order g c = λ a powers.
    let bits : has_bits c.args.exponent c.args.order ≡ false = ne_eqb (bit_and c.args.exponent c.args.order) c.args.order c.if-exponent-order.false in
    c.zero.ensures ∙ sym (weight_lacks g.F.Field.ring a c.args.exponent c.args.order bits)
