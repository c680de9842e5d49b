use Rattle.std.proofs.Common.{refl}
use Rattle.std.specs.Str.{is_utf8, chars}
use Rattle.toml.proofs.OnLiterals.{toml_on_literals}
use Rattle.title_terms.specs.DesignRules.{design_from}
use Rattle.title_terms.specs.DesignText.{proposal_in, design_of}
use Rattle.title_terms.proofs.laws.faults_of_documents.Goals as goal

pub returns : goal.returns
unfolding toml_on_literals is_utf8 chars design_from proposal_in design_of
returns c = record { twice = refl; wide = refl; garbled = refl; not_closed = refl; empty = refl; missing = refl; wrong_type = refl; table = refl }
