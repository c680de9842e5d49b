use Rattle.std.proofs.Common.{◌∙◌, ◌≢◌, length, arith}
use Rattle.std.proofs.lemmas.Bool.Decides.{nat_tests}
use Rattle.std.specs.String.{string_bytes}
use Rattle.cli_words.proofs.FiveWords.{make_of_other, make_of_five}
use Rattle.cli_words.proofs.commands.register_words.Goals as goal
use Rattle.cli_words.proofs.commands.register_words.Goals.{in_default-via-then-arguments-lt5, in_default-via-else-arguments-lt5+else-arguments-lt6}

pub returns-in_default-clause-asked : goal.returns-in_default-clause-asked
returns-in_default-clause-asked c =
    let other : length c.args.arguments.now ≢ 5 = elim c.in_default.branch [ in_default-via-then-arguments-lt5 w ↦ (λ h. grind (arith, nat_tests)) | in_default-via-else-arguments-lt5+else-arguments-lt6 w ↦ (λ h. grind (arith, nat_tests)) ]
    in make_of_other string_bytes c.args.arguments.now other

pub returns-clause-asked : goal.returns-clause-asked
returns-clause-asked c =
    c.register_from.ensures.asked
    ∙ make_of_five string_bytes c.args.arguments.now c.m-item.result c.k-item.result c.a-item.result c.b-item.result c.out-item.result (omega arith) c.m-item.is c.k-item.is c.a-item.is c.b-item.is c.out-item.is
