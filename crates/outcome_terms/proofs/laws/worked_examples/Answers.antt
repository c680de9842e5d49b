use Rattle.std.proofs.Common.{refl}
use Rattle.outcome_terms.specs.Commands.{request_of}
use Rattle.outcome_terms.specs.RegisterCommand.{make_of, make_from}
use Rattle.outcome_terms.specs.EnrolCommand.{enrol_of}
use Rattle.outcome_terms.specs.WithdrawCommand.{withdraw_of}
use Rattle.outcome_terms.specs.TitleCommand.{make_title_of}
use Rattle.outcome_terms.specs.PackageCommand.{package_of}
use Rattle.outcome_terms.specs.TraceCommand.{trace_of}
use Rattle.outcome_terms.specs.CheckCommand.{check_of}
use Rattle.outcome_terms.specs.AccuseCommand.{accuse_of}
use Rattle.outcome_terms.specs.SampleCommand.{sample_of}
use Rattle.outcome_terms.proofs.laws.worked_examples.Goals as goal

pub returns-clause-make : goal.returns-clause-make
unfolding request_of make_of make_from enrol_of withdraw_of make_title_of package_of trace_of check_of accuse_of
returns-clause-make c = refl

pub returns-clause-enrol : goal.returns-clause-enrol
unfolding request_of make_of make_from enrol_of withdraw_of make_title_of package_of trace_of check_of accuse_of
returns-clause-enrol c = refl

pub returns-clause-withdraw : goal.returns-clause-withdraw
unfolding request_of make_of make_from enrol_of withdraw_of make_title_of package_of trace_of check_of accuse_of
returns-clause-withdraw c = refl

pub returns-clause-title : goal.returns-clause-title
unfolding request_of make_title_of
returns-clause-title c = refl

pub returns-clause-package : goal.returns-clause-package
unfolding request_of package_of
returns-clause-package c = refl

pub returns-clause-trace : goal.returns-clause-trace
unfolding request_of trace_of
returns-clause-trace c = refl

pub returns-clause-check : goal.returns-clause-check
unfolding request_of check_of
returns-clause-check c = refl

pub returns-clause-accuse : goal.returns-clause-accuse
unfolding request_of make_of make_from enrol_of withdraw_of make_title_of package_of trace_of check_of accuse_of
returns-clause-accuse c = refl

pub returns-clause-sample : goal.returns-clause-sample
unfolding request_of sample_of
returns-clause-sample c = refl

pub returns-clause-too_large : goal.returns-clause-too_large
unfolding request_of sample_of
returns-clause-too_large c = refl

pub returns-clause-too_few : goal.returns-clause-too_few
unfolding request_of make_of make_from enrol_of withdraw_of make_title_of package_of trace_of check_of accuse_of
returns-clause-too_few c = refl

pub returns-clause-too_many : goal.returns-clause-too_many
unfolding request_of make_of make_from enrol_of withdraw_of make_title_of package_of trace_of check_of accuse_of
returns-clause-too_many c = refl

pub returns-clause-leading_zero : goal.returns-clause-leading_zero
unfolding request_of make_of make_from enrol_of withdraw_of make_title_of package_of trace_of check_of accuse_of
returns-clause-leading_zero c = refl

pub returns-clause-signed : goal.returns-clause-signed
unfolding request_of make_of make_from enrol_of withdraw_of make_title_of package_of trace_of check_of accuse_of
returns-clause-signed c = refl

pub returns-clause-broken_name : goal.returns-clause-broken_name
unfolding request_of make_of make_from enrol_of withdraw_of make_title_of package_of trace_of check_of accuse_of
returns-clause-broken_name c = refl

pub returns-clause-unknown : goal.returns-clause-unknown
unfolding request_of make_of make_from enrol_of withdraw_of make_title_of package_of trace_of check_of accuse_of
returns-clause-unknown c = refl

pub returns-clause-no_words : goal.returns-clause-no_words
unfolding request_of make_of make_from enrol_of withdraw_of make_title_of package_of trace_of check_of accuse_of
returns-clause-no_words c = refl
