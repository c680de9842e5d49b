use Rattle.std.proofs.Common.{ap, subst}
use Rattle.register_terms.specs.RegisterText.{register_of}
use Rattle.register_terms.proofs.Texts.{written_is_read}
use Rattle.lic_register.specs.Answers.{ReadsAs}
use Rattle.lic_register.proofs.LicenseeLines.{is_text}
use Rattle.lic_register.proofs.register.Register.read.Goals as goal

pub returns-clause-found : goal.returns-clause-found
returns-clause-found c = is_text c.args.bytes.now c.register_in.result c.register_in.ensures

pub returns-clause-every : goal.returns-clause-every
returns-clause-every c = λ e valid is. subst (ReadsAs c.register_in.result) (written_is_read c.args.bytes.now e valid is) c.register_in.ensures
