use Rattle.std.proofs.Common.{◌∙◌, ap, ap₂, sym, subst, ℕ, List, Option, length, arith}
use Rattle.code_terms.specs.Words.{readable}
use Rattle.register_terms.specs.Enrolment.{Enrolment, IsValid}
use Rattle.coalition_terms.specs.Coalition.{IsTraced}
use Rattle.desk_terms.specs.Findings.{findings}
use Rattle.desk_terms.specs.Roll.{roll_of}
use Rattle.sample_terms.specs.Inputs.{register_of}
use Rattle.sample_terms.specs.Numbers.{coalition}
use Rattle.sample_terms.specs.Summary.{found_in, line_on}
use Rattle.sample_terms.proofs.Reading.{word_is}
use Rattle.sample_maker.proofs.Copied.{long, thirty}
use Rattle.sample_maker.proofs.Registers.{bits_are, dimension_is}
use Rattle.sample_maker.proofs.Traced.{sample_traced}
use Rattle.sample_maker.proofs.sampling.traced.Goals as goal

pub findings_of-requires-clause-bits : goal.findings_of-requires-clause-bits
findings_of-requires-clause-bits g c = ap (λ (e : Enrolment). e.bits) c.in_ok-register.ensures ∙ bits_are 1000 c.args.number

pub findings_of-requires-clause-dimension : goal.findings_of-requires-clause-dimension
findings_of-requires-clause-dimension g c = ap (λ (e : Enrolment). e.dimension) c.in_ok-register.ensures ∙ dimension_is 1000 c.args.number

pub findings_of-requires-clause-length : goal.findings_of-requires-clause-length
findings_of-requires-clause-length g c = ap length (c.in_ok-word.ensures ∙ word_is c.args.number c.requires.alone) ∙ long c.args.number

pub findings_of-requires-clause-readable : goal.findings_of-requires-clause-readable
findings_of-requires-clause-readable g c = ap readable (c.in_ok-word.ensures ∙ word_is c.args.number c.requires.alone) ∙ thirty c.args.number

pub returns-in_err-found-clause-products : goal.returns-in_err-found-clause-products
returns-in_err-found-clause-products g c = λ curve costs. omega (arith, c.mixed_copy.ensures.products, c.findings_of.ensures.products curve costs)

pub returns-in_err-text-clause-products : goal.returns-in_err-text-clause-products
returns-in_err-text-clause-products g c = λ curve costs. omega (arith, c.mixed_copy.ensures.products, c.findings_of.ensures.products curve costs)

pub returns-clause-products : goal.returns-clause-products
returns-clause-products g c = λ curve costs. omega (arith, c.mixed_copy.ensures.products, c.findings_of.ensures.products curve costs)

pub returns-clause-summary : goal.returns-clause-summary
unfolding found_in
returns-clause-summary g c =
    c.in_ok-text.ensures ∙ ap (line_on c.args.number) (c.in_ok-found.ensures.findings
    ∙ ap₂ (λ (e : Enrolment) (word : List (Option ℕ)). findings (roll_of e) word 3) c.in_ok-register.ensures c.in_ok-word.ensures)

pub returns-clause-traced : goal.returns-clause-traced
returns-clause-traced g c =
    let number = c.args.number in
    subst (λ (word : List (Option ℕ)). IsTraced (roll_of (register_of number)) word 3 (coalition number)) (sym (word_is number c.requires.alone))
    (sample_traced number (subst IsValid c.in_ok-register.ensures c.len-licensees.ensures.valid))
