-- What a reader of bytes stands for after a blob was poured into it. This project's own.
use Rattle.std.specs.Prelude.{ℕ, List, Result, Ok, Err}
use Rattle.outcome_terms.specs.declared.refusal.Refusal.{Refusal}
use Rattle.outcome_terms.specs.Stores.{Reads}
use Rattle.records.specs.Stores.{Store}

-- the bytes of one read came, and no others
pub record HasRead (name : List ℕ) (old new : Store) (stands : List ℕ → Type 0) : Type 0 where
  pub bytes : List ℕ
  pub read : Reads name old new (Ok bytes)
  pub stands_for : stands bytes

-- they came, or the read was refused
abbrev pub PoursAs : List ℕ → Store → Store → (List ℕ → Type 0) → Result (Unit {0}) Refusal → Type 0
PoursAs name old new stands (Ok _) = HasRead name old new stands
PoursAs name old new stands (Err e) = Reads name old new (Err e)
