use Rattle.std.proofs.Common.{refl}
use Rattle.std.specs.Str.{is_utf8, chars}
use Rattle.toml.proofs.OnLiterals.{toml_on_literals}
use Rattle.title_terms.specs.DesignRules.{design_from}
use Rattle.title_terms.specs.DesignText.{proposal_in, design_of}
use Rattle.title_terms.proofs.laws.first_faults.Goals as goal

pub returns : goal.returns
unfolding toml_on_literals is_utf8 chars design_from proposal_in design_of
returns c = record { toml_first = refl; key_by_key = refl; missing_first = refl; keys_before_rules = refl; name_before_bits = refl; bits_before_dimension = refl; dimension_before_bound = refl; bound_before_work = refl; bound_before_prefix = refl; work_before_prefix = refl; prefix_before_suffix = refl; suffix_before_marked = refl; marked_before_places = refl; places_before_weakness = refl }
