-- Which values make a design, and the first rule that other values break. This project's own.
use Rattle.std.specs.Prelude.{ℕ, Bool, ◌&&◌, nat_lt, if◌then◌else◌, List, [], ◌∷◌, ◌++◌, length, map, Option, Some, None, Result, Ok, Err}
use Rattle.text_terms.specs.Names.{is_plain}
use Rattle.title_terms.specs.declared.fault.DesignFault.{DesignFault}
use Rattle.title_terms.specs.declared.fault.DesignFault.TheVariants.{BadName, BadM, BadK, BadBound, TooMuchWork, BadPrefix, BadSuffix, BadMarked, TooManyPlaces, TooWeak}
use Rattle.decoding_terms.specs.Parameters.{is_bound, is_light}
use Rattle.register_terms.specs.Rules.{are_bits, is_dimension}
use Rattle.title_terms.specs.Designs.{Design, is_affix, is_above, are_enough, have_room}

-- the values that somebody wants for a design. A number is None where it is below 0, and an item of the list also where it
-- is no whole number
pub record Proposal : Type 0 where
  pub name : List ℕ
  pub bits : Option ℕ
  pub dimension : Option ℕ
  pub bound : Option ℕ
  pub prefix : List ℕ
  pub suffix : List ℕ
  pub marked : List (Option ℕ)

-- the values of a design
abbrev pub proposal : Design → Proposal
proposal d = record {
  name = d.name;
  bits = Some d.bits;
  dimension = Some d.dimension;
  bound = Some d.bound;
  prefix = d.prefix;
  suffix = d.suffix;
  marked = map Some d.marked;
}

-- ---- one rule behind the other

infixl 10 ◌>>=◌
abbrev pub ◌>>=◌ : {A B : Type 0} → Result A DesignFault → (A → Result B DesignFault) → Result B DesignFault
(Ok x) >>= f = f x
(Err fault) >>= f = Err fault

infixl 10 ◌>>◌
abbrev pub ◌>>◌ : {A B : Type 0} → Result A DesignFault → Result B DesignFault → Result B DesignFault
(Ok x) >> next = next
(Err fault) >> next = Err fault

abbrev pub require : Bool → DesignFault → Result (Unit {0}) DesignFault
require is_so fault = if is_so then Ok tt else Err fault

-- a number that is there and passes the test
abbrev pub allowed : (ℕ → Bool) → DesignFault → Option ℕ → Result ℕ DesignFault
allowed test fault None = Err fault
allowed test fault (Some n) = if test n then Ok n else Err fault

-- the numbers of segments behind these: each below 100,000 and above the one in front of it
abbrev pub marks_behind : List ℕ → List (Option ℕ) → Result (List ℕ) DesignFault
marks_behind past [] = Ok past
marks_behind past (None ∷ items) = Err (BadMarked (length past))
marks_behind past (Some segment ∷ items) =
    if is_above past segment && nat_lt segment 100000 then marks_behind (past ++ segment ∷ []) items else Err (BadMarked (length past))

-- the design with these values, or the first rule that they break
unfoldable pub design_from : Proposal → Result Design DesignFault
design_from p = do
  require (is_plain p.name) BadName
  m ← allowed are_bits BadM p.bits
  k ← allowed is_dimension BadK p.dimension
  c ← allowed is_bound BadBound p.bound
  require (is_light k c) TooMuchWork
  require (is_affix p.prefix) BadPrefix
  require (is_affix p.suffix) BadSuffix
  marked ← marks_behind [] p.marked
  require (have_room m (length marked)) TooManyPlaces
  require (are_enough k c (length marked)) TooWeak
  Ok (record { name = p.name; bits = m; dimension = k; bound = c; prefix = p.prefix; suffix = p.suffix; marked = marked })
