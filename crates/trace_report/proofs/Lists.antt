-- A list that is read item by item.
use Rattle.std.proofs.Common.{ℕ, List, ◌++◌, drop, Option, option_map}
use Rattle.serde_json.specs.Data.{Data}
use Rattle.serde_json.specs.View.{items_view}
use Rattle.serde_json.specs.declared.value.Value.{Value}
use Rattle.report_terms.specs.Reports.{all_said}

-- what was said so far, and then what the items from here on say
abbrev pub said_and_rest : {A : Type 0} → (Data → Option A) → List A → ℕ → List Value → Option (List A)
said_and_rest said found i items = option_map (λ more. found ++ more) (all_said said (items_view (drop i items)))
