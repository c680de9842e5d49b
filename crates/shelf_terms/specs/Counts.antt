-- The counts that a store keeps of what went wrong, and the name that it blames. This project's own.
use Rattle.std.specs.Prelude.{◌≡◌, refl, ℕ, ◌<◌, ◌+◌, ◌-◌, ◌^◌, ◌⊎◌, min, Bool, List, [], if◌then◌else◌}
use Rattle.std.specs.Coded.{Coded, code_by, coded×, coded_ℕ, coded_list}

-- A count rose in a call. It stops at 2^64 - 1, and there it is taken as risen.
abbrev pub Rose : ℕ → ℕ → Type 0
Rose old new = (old < new) ⊎ (new ≡ 2 ^ 64 - 1)

-- one more of what a count counts; it stops at its last value
abbrev pub one_more : ℕ → ℕ
one_more count = min (count + 1) (2 ^ 64 - 1)

pub record Tally : Type 0 where
  -- reads that failed
  pub faults : ℕ
  -- reads of a name that was not there
  pub misses : ℕ
  -- writes that failed
  pub write_faults : ℕ
  -- the name of the last read that failed
  pub blamed : List ℕ

-- the counts before any call
abbrev pub no_counts : Tally
no_counts = record { faults = 0; misses = 0; write_faults = 0; blamed = [] }

-- after a read: one that failed is counted and blamed on its name, and one of a name that was not there is counted
abbrev pub counted_read : Tally → List ℕ → (failed missed : Bool) → Tally
counted_read old name failed missed = record {
  faults = if failed then one_more old.faults else old.faults;
  misses = if missed then one_more old.misses else old.misses;
  write_faults = old.write_faults;
  blamed = if failed then name else old.blamed;
}

-- after a write: one that failed is counted
abbrev pub counted_write : Tally → (failed : Bool) → Tally
counted_write old failed = record {
  faults = old.faults;
  misses = old.misses;
  write_faults = if failed then one_more old.write_faults else old.write_faults;
  blamed = old.blamed;
}

-- by which a proof tells such counts apart
abbrev pub tally_code : Coded Tally
tally_code =
    code_by (ℕ × (ℕ × (ℕ × List ℕ)))
    (coded× coded_ℕ (coded× coded_ℕ (coded× coded_ℕ (coded_list coded_ℕ))))
    (λ t. (t.faults, (t.misses, (t.write_faults, t.blamed))))
    (λ p. record { faults = p.0; misses = p.1.0; write_faults = p.1.1.0; blamed = p.1.1.1 })
    (λ _. refl)
