use Rattle.std.proofs.Common.{◌≡◌, ◌<◌, ◌≤◌, ◌^◌, ◌*◌, length, subst, ap, ◌∙◌, arith}
use Rattle.std.specs.Prelude.{IfSome}
use Rattle.decoder_terms.specs.Decoding.{meets_threshold}
use Rattle.desk_terms.specs.Roll.{message_at, roll_of}
use Rattle.report_check.proofs.RowWalks.{message_found}
use Rattle.report_check.proofs.missing.meets.Goals as goal

pub returns-clause-accused : goal.returns-clause-accused
returns-clause-accused g c = λ word rows slots.
    let m = c.args.register.now.bits in
    let k = c.args.register.now.dimension in
    let u = c.unwrap-message.result in
    let known : u ≡ message_at (roll_of c.args.register.now) c.args.serial = message_found c.requires.serial c.unwrap-message.ensures c.message_at.ensures.found in
    let small : u < 2 ^ (m * k) = subst (λ o. IfSome o (λ v. v < 2 ^ (m * k))) c.unwrap-message.ensures c.message_at.ensures.small in
    let short : length word ≤ 256 = omega (arith, slots.whole, c.args.slots.now.short) in
    c.meets.ensures m k u word slots (c.symbols_of.ensures m k (length word) rows short small) ∙ ap (meets_threshold m k word c.args.bound) known
