use Rattle.std.proofs.Common.{refl}
use Rattle.std.specs.Str.{is_utf8, chars}
use Rattle.toml.proofs.OnLiterals.{toml_on_literals}
use Rattle.title_terms.specs.DesignRules.{design_from}
use Rattle.title_terms.specs.DesignText.{proposal_in, design_of}
use Rattle.title_terms.proofs.laws.faults_of_values.Goals as goal

pub returns : goal.returns
unfolding toml_on_literals is_utf8 chars design_from proposal_in design_of
returns c = record { name = refl; bits = refl; dimension = refl; bound = refl; work = refl; prefix = refl; suffix = refl; no_affix = refl; marked_twice = refl; marked_back = refl; marked_past = refl; most_marked = refl; too_many = refl; too_weak = refl; none_marked = refl }
