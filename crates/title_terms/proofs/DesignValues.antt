-- Values make a design exactly where they meet its rules.
use Rattle.std.proofs.Common.{◌≡◌, ◌∙◌, sym, ap, subst, ℕ, ◌<◌, Bool, true, false, cond, ◌&&◌, List, [], ◌∷◌, ◌++◌, length, map, Option, Some, None, Result, Ok, Err, refl, append-nil, append_assoc, length-append, arith}
use Rattle.std.specs.Prelude.{nat_lt}
use Rattle.std.proofs.Math.Seq.{get_or-append_seam}
use Rattle.std.proofs.lemmas.Bool.{and_parts, and_from, ltb-true, lt-ltb}
use Rattle.std.proofs.lemmas.List.Elements.{All-push}
use Rattle.toml.specs.Data.{Members}
use Rattle.text_terms.specs.Names.{is_plain}
use Rattle.title_terms.specs.declared.fault.DesignFault.{DesignFault}
use Rattle.title_terms.specs.declared.fault.DesignFault.TheVariants.{BadName, BadM, BadK, BadBound, TooMuchWork, BadPrefix, BadSuffix, BadMarked, TooManyPlaces, TooWeak}
use Rattle.decoding_terms.specs.Parameters.{is_bound, is_light}
use Rattle.register_terms.specs.Rules.{are_bits, is_dimension}
use Rattle.title_terms.specs.Designs.{Design, IsDesign, is_affix, is_above, are_enough, have_room}
use Rattle.title_terms.specs.DesignRules.{Proposal, proposal, ◌>>=◌, ◌>>◌, require, allowed, marks_behind, design_from}
use Rattle.title_terms.specs.DesignText.{document, proposal_in, design_in, design_of}
use Rattle.title_terms.proofs.MarkLines.{AreMarks, no_marks, rises_push, rises_above}

-- ---- one rule behind the other

record Bound {A B : Type 0} (r : Result A DesignFault) (f : A → Result B DesignFault) (y : B) : Type 0 where
  x : A
  first : r ≡ Ok x
  next : f x ≡ Ok y

bound : {A B : Type 0} (r : Result A DesignFault) (f : A → Result B DesignFault) (y : B) → (r >>= f) ≡ Ok y → Bound r f y
bound (Ok x) f y is = record { x = x; first = refl; next = is }
bound (Err fault) f y is = absurd cc

required : {B : Type 0} (is_so : Bool) (fault : DesignFault) (next : Result B DesignFault) (y : B) → (require is_so fault >> next) ≡ Ok y → (is_so ≡ true) × (next ≡ Ok y)
required true fault next y is = (refl, is)
required false fault next y is = absurd cc

record Allowed (test : ℕ → Bool) (wanted : Option ℕ) (n : ℕ) : Type 0 where
  is : wanted ≡ Some n
  passes : test n ≡ true

passed : (passes : Bool) (fault : DesignFault) (v n : ℕ) → cond {A = Result ℕ DesignFault} passes (Ok v) (Err fault) ≡ Ok n → (passes ≡ true) × (v ≡ n)
passed true fault v n is = (refl, cc)
passed false fault v n is = absurd cc

allows : (test : ℕ → Bool) (fault : DesignFault) (wanted : Option ℕ) (n : ℕ) → allowed test fault wanted ≡ Ok n → Allowed test wanted n
allows test fault None n is = absurd cc
allows test fault (Some v) n is =
    let p = passed (test v) fault v n is in
    record { is = ap Some p.1; passes = subst (λ (x : ℕ). test x ≡ true) p.1 p.0 }

-- ---- the list

record AreListed (past : List ℕ) (items : List (Option ℕ)) (all : List ℕ) : Type 0 where
  more : List ℕ
  items_are : items ≡ map Some more
  all_are : all ≡ past ++ more
  keeps : AreMarks 100000 all

mark_by : (past : List ℕ) (segment : ℕ) (fine : Bool) (rest : Result (List ℕ) DesignFault) (all : List ℕ) → cond {A = Result (List ℕ) DesignFault} fine rest (Err (BadMarked (length past))) ≡ Ok all → (fine ≡ true) × (rest ≡ Ok all)
mark_by past segment true rest all is = (refl, is)
mark_by past segment false rest all is = absurd cc

with_mark : (past : List ℕ) (segment : ℕ) → AreMarks 100000 past → is_above past segment ≡ true → segment < 100000 → AreMarks 100000 (past ++ segment ∷ [])
with_mark past segment keeps above below = record {
  below = All-push (λ x. x < 100000) past segment keeps.below below;
  rise = rises_push past segment keeps.rise above;
}

same_list : (xs ys : List ℕ) → (let r : Result (List ℕ) DesignFault = Ok xs in r) ≡ Ok ys → xs ≡ ys
same_list xs ys is = cc

listed : (past : List ℕ) (items : List (Option ℕ)) (all : List ℕ) → AreMarks 100000 past → marks_behind past items ≡ Ok all → AreListed past items all
listed past [] all keeps is =
    let same = same_list past all is in
    record { more = []; items_are = refl; all_are = sym same ∙ sym (append-nil past); keeps = subst (AreMarks 100000) same keeps }
listed past (None ∷ items) all keeps is = absurd cc
listed past (Some segment ∷ items) all keeps is =
    let step = mark_by past segment (is_above past segment && nat_lt segment 100000) (marks_behind (past ++ segment ∷ []) items) all is in
    let rules = and_parts (is_above past segment) (nat_lt segment 100000) step.0 in
    let rest = listed (past ++ segment ∷ []) items all (with_mark past segment keeps rules.0 (ltb-true segment 100000 rules.1)) step.1 in
    record {
      more = segment ∷ rest.more;
      items_are = ap (λ (items : List (Option ℕ)). Some segment ∷ items) rest.items_are;
      all_are = rest.all_are ∙ append_assoc past (segment ∷ []) rest.more;
      keeps = rest.keeps;
    }

listed_again : (past more : List ℕ) → AreMarks 100000 (past ++ more) → marks_behind past (map Some more) ≡ Ok (past ++ more)
listed_again past [] keeps = ap Ok (sym (append-nil past))
listed_again past (segment ∷ more) keeps =
    let inside : length past < length (past ++ segment ∷ more) = omega (arith, length-append past (segment ∷ more)) in
    let below : segment < 100000 = subst (λ (x : ℕ). x < 100000) (get_or-append_seam past segment more 0) (keeps.below (length past) 0 inside) in
    let rules : (is_above past segment && nat_lt segment 100000) ≡ true = and_from (is_above past segment) (nat_lt segment 100000) (rises_above past segment more keeps.rise) (lt-ltb segment 100000 below) in
    let grouped : past ++ segment ∷ more ≡ (past ++ segment ∷ []) ++ more = sym (append_assoc past (segment ∷ []) more) in
    rw rules (listed_again (past ++ segment ∷ []) more (subst (AreMarks 100000) grouped keeps) ∙ ap Ok (sym grouped))

-- ---- the design

pub record IsAccepted (p : Proposal) (d : Design) : Type 0 where
  pub valid : IsDesign d
  pub is : p ≡ proposal d

same_design : (x y : Design) → (let r : Result Design DesignFault = Ok x in r) ≡ Ok y → x ≡ y
same_design x y is = cc

pub accepted : (p : Proposal) (d : Design) → design_from p ≡ Ok d → IsAccepted p d
unfolding design_from
accepted p d is =
    let name = required (is_plain p.name) BadName _ d is in
    let m = bound (allowed are_bits BadM p.bits) _ d name.1 in
    let m_rule = allows are_bits BadM p.bits m.x m.first in
    let k = bound (allowed is_dimension BadK p.dimension) _ d m.next in
    let k_rule = allows is_dimension BadK p.dimension k.x k.first in
    let c = bound (allowed is_bound BadBound p.bound) _ d k.next in
    let c_rule = allows is_bound BadBound p.bound c.x c.first in
    let light = required (is_light k.x c.x) TooMuchWork _ d c.next in
    let prefix = required (is_affix p.prefix) BadPrefix _ d light.1 in
    let suffix = required (is_affix p.suffix) BadSuffix _ d prefix.1 in
    let marked = bound (marks_behind [] p.marked) _ d suffix.1 in
    let list = listed [] p.marked marked.x (no_marks 100000) marked.first in
    let room = required (have_room m.x (length marked.x)) TooManyPlaces _ d marked.next in
    let enough = required (are_enough k.x c.x (length marked.x)) TooWeak _ d room.1 in
    let made : Design = record { name = p.name; bits = m.x; dimension = k.x; bound = c.x; prefix = p.prefix; suffix = p.suffix; marked = marked.x } in
    let marks : p.marked ≡ map Some marked.x = list.items_are ∙ ap (map Some) (sym list.all_are) in
    let values : p ≡ proposal made =
    λ i. record { name = p.name; bits = m_rule.is i; dimension = k_rule.is i; bound = c_rule.is i; prefix = p.prefix; suffix = p.suffix; marked = marks i } in
    let here : IsAccepted p made = record {
      valid = record {
        name = name.0;
        bits = m_rule.passes;
        dimension = k_rule.passes;
        bound = c_rule.passes;
        light = light.0;
        prefix = prefix.0;
        suffix = suffix.0;
        enough = enough.0;
        room = room.0;
        ascending = list.keeps.rise;
        small = list.keeps.below;
      };
      is = values;
    } in
    subst (IsAccepted p) (same_design made d enough.1) here

pub accepted_again : (d : Design) → IsDesign d → design_from (proposal d) ≡ Ok d
unfolding design_from
accepted_again d valid =
    let marks : marks_behind [] (map Some d.marked) ≡ Ok d.marked = listed_again [] d.marked (record { below = valid.small; rise = valid.ascending }) in
    rw (valid.name, valid.bits, valid.dimension, valid.bound, valid.light, valid.prefix, valid.suffix, marks, valid.room, valid.enough) refl

-- ---- what a document says

said_by : (table : Option Members) (d : Design) → design_in table ≡ Ok d → IsDesign d
said_by None d is = absurd cc
said_by (Some table) d is =
    let b = bound (proposal_in table) design_from d is in
    (accepted b.x d b.next).valid

pub design_is_valid : (bytes : List ℕ) (d : Design) → design_of bytes ≡ Ok d → IsDesign d
unfolding design_of
design_is_valid bytes d is = said_by (document bytes) d is
