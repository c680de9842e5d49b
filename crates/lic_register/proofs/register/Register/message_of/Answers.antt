use Rattle.std.proofs.Common.{◌≡◌, ◌<◌, sym, subst, length, arith}
use Rattle.lic_register.specs.Index.{entry_licensees}
use Rattle.lic_register.proofs.Sizes.{message_count-le, product-le}
use Rattle.lic_register.proofs.register.Register.message_of.Goals as goal

pub overflow_mul-number : goal.overflow_mul-number
overflow_mul-number g c =
    let lt : c.from.result < length c.args.self.now.licensees = omega arith in
    let within : c.from.result < length (entry_licensees c.self.inside.licensees.entries) = subst (λ e. c.from.result < length e.licensees) (sym c.self.view_is) lt in
    omega (arith, product-le _ c.self.invariant c.from.result within)

pub overflow_add-number : goal.overflow_add-number
overflow_add-number g c =
    let lt : c.from.result < length c.args.self.now.licensees = omega arith in
    let within : c.from.result < length (entry_licensees c.self.inside.licensees.entries) = subst (λ e. c.from.result < length e.licensees) (sym c.self.view_is) lt in
    let below = c.self.invariant.shift_below in
    omega (arith, product-le _ c.self.invariant c.from.result within, message_count-le _ c.self.invariant)
