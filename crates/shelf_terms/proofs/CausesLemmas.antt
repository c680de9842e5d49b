-- Calls one after the other.
use Rattle.std.proofs.Common.{◌∙◌, ℕ, ◌≤◌, inl, inr, Bool, false, List, refl, arith}
use Rattle.shelf_terms.specs.Counts.{Rose, Tally}
use Rattle.shelf_terms.specs.Causes.{ReadCauses, WriteCauses}

-- what rose later rose over both
pub rose_later : (a b c : ℕ) → a ≤ b → Rose b c → Rose a c
rose_later a b c le (inl up) = inl (omega arith)
rose_later a b c le (inr last) = inr last

-- a read that was answered, and then another read
pub reads_then : {a b c : Tally} {name next : List ℕ} {failed missed : Bool}
    → ReadCauses a b name false false → ReadCauses b c next failed missed → ReadCauses a c next failed missed
reads_then {a} {b} {c} first second = record {
  faults_stay = omega (arith, first.faults_stay, second.faults_stay);
  misses_stay = omega (arith, first.misses_stay, second.misses_stay);
  writes_stay = second.writes_stay ∙ first.writes_stay;
  fault = λ was. rose_later a.faults b.faults c.faults first.faults_stay (second.fault was);
  blames = second.blames;
  blames_none = λ was. second.blames_none was ∙ first.blames_none refl;
  missing = λ was. rose_later a.misses b.misses c.misses first.misses_stay (second.missing was);
}

-- a write that was done, and then another write
pub writes_then : {a b c : Tally} {failed : Bool} → WriteCauses a b false → WriteCauses b c failed → WriteCauses a c failed
writes_then {a} {b} {c} first second = record {
  faults_stay = second.faults_stay ∙ first.faults_stay;
  misses_stay = second.misses_stay ∙ first.misses_stay;
  blamed_stays = second.blamed_stays ∙ first.blamed_stays;
  writes_stay = omega (arith, first.writes_stay, second.writes_stay);
  fault = λ was. rose_later a.write_faults b.write_faults c.write_faults first.writes_stay (second.fault was);
}
