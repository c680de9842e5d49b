use Rattle.std.proofs.Common.{◌∙◌, ap₂}
use Rattle.register_terms.specs.Rules.{with_name}
use Rattle.sample_maker.proofs.Registers.{grows, memory_alone}
use Rattle.sample_maker.proofs.register.enrol_next.Goals as goal

pub returns-in-Ok : goal.returns-in-Ok
returns-in-Ok c = c.in-Ok.ensures.enrolled ∙ ap₂ with_name c.requires.before (c.as_str.ensures ∙ c.in_ok-name.ensures) ∙ grows c.args.serial c.args.number

pub want_of_memory-requires : goal.want_of_memory-requires
want_of_memory-requires c =
    memory_alone c.args.serial c.args.number c.requires.small c.args.register.now c.requires.before c.as_str.result.now (c.as_str.ensures ∙ c.in_ok-name.ensures) c.in-Err.error (c.in-Err.ensures).answer
