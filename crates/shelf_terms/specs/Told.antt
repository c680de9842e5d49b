-- What is said of contents that a shelf or an output may tell or not. This project's own.
use Rattle.std.specs.Prelude.{Option, Some, None, ⊤}

-- where the contents are told before, they are told after, and this holds of them; where they are not, they are not told after
abbrev pub WhereTold : {X Y : Type 0} → (X → Y → Type 0) → Option X → Option Y → Type 0
WhereTold Holds (Some old) (Some new) = Holds old new
WhereTold Holds None None = ⊤
WhereTold Holds (Some old) None = ⊥
WhereTold Holds None (Some new) = ⊥
