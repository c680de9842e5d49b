-- A step of the walk over the serials, by the rows of a code and the slots of a word.
use Rattle.std.proofs.Common.{◌≡◌, ℕ, ◌<◌, ◌≤◌, Bool, true, false, cond, List, Option, Some, None, refl, subst, sym, ap, ◌∙◌}
use Rattle.std.specs.Prelude.{nat_le, nat_lt}
use Rattle.std.proofs.lemmas.Bool.{and_parts, leb-true, lt-ltb}
use Rattle.decoding_terms.specs.Parameters.{is_allowed_bound, is_bound, is_light}
use Rattle.desk_terms.specs.declared.findings.Accused.{Accused}
use Rattle.report_check.specs.Shown.{AreRows}
use Rattle.report_check.specs.Walks.{is_next, position_after}

pub at_most_eight : (k c : ℕ) → is_allowed_bound k c ≡ true → c ≤ 8
at_most_eight k c allowed = leb-true c 8 (and_parts (nat_le 1 c) (nat_le c 8) (and_parts (is_bound c) (is_light k c) allowed).0).1

-- the same rows, where bits, dimension and places have other names
pub same_rows : {m k n bits dimension places digits : ℕ} {rows : List (List ℕ)} → m ≡ bits → k ≡ dimension → n ≡ places → AreRows m k n digits rows → AreRows bits dimension places digits rows
same_rows {m} {k} {n} {bits} {dimension} {places} {digits} {rows} b d p are =
    subst (λ x. AreRows x dimension places digits rows) b (subst (λ x. AreRows m x places digits rows) d (subst (λ x. AreRows m k x digits rows) p are))

pub message_found : {serial count : ℕ} {found : Option ℕ} {message wanted : ℕ} → serial < count → found ≡ Some message → found ≡ cond (nat_lt serial count) (Some wanted) None → message ≡ wanted
message_found {serial} {count} {found} {message} {wanted} inside is known = same (sym is ∙ known ∙ ap (λ b. cond b (Some wanted) None) (lt-ltb serial count inside))
  where
    same : Some message ≡ Some wanted → message ≡ wanted
    same h = cc

-- the licensee of the serial is not the next in the list
pub by_threshold : (rest : List Accused) (position serial : ℕ) {here test accused : Bool} → here ≡ false → here ≡ is_next rest serial → test ≡ accused → (meets : Bool) → test ≡ meets
    → cond meets None (Some position) ≡ position_after rest position serial accused
by_threshold rest position serial {accused = accused} no_one next same meets is =
    let none : is_next rest serial ≡ false = sym next ∙ no_one in
    let test : accused ≡ meets = sym same ∙ is in
    rw (none, test) refl
