use Rattle.std.proofs.Common.{refl}
use Rattle.std.specs.Str.{is_utf8, chars}
use Rattle.toml.proofs.OnLiterals.{toml_on_literals}
use Rattle.title_terms.specs.DesignRules.{design_from}
use Rattle.title_terms.specs.DesignText.{proposal_in, design_of}
use Rattle.title_terms.proofs.laws.worked_designs.Goals as goal

pub returns : goal.returns
unfolding toml_on_literals is_utf8 chars design_from proposal_in design_of
returns c = record { film = refl; spelled_otherwise = refl }
