-- The serial of a name: where it stands in the list, and what it is after one more name.
use Rattle.std.proofs.Common.{◌≡◌, ◌≢◌, ℕ, ◌<◌, Bool, true, false, cond, List, [], ◌∷◌, ◌++◌, length, get_or, Some, None, refl, sym, ap, ◌∙◌, arith}
use Rattle.std.specs.List.{AllPairs, position_or_len}
use Rattle.std.specs.Str.{bytes_eq}
use Rattle.std.proofs.lemmas.Bool.{false_from_ne_true}
use Rattle.std.proofs.lemmas.Bool.Decides.{same_from_decides}
use Rattle.std.proofs.lemmas.List.Sums.{position_or_len_is, fails_before_first}
use Rattle.std.proofs.lemmas.List.Quantifiers.{position-Some}
use Rattle.std.proofs.lemmas.Slice.Eq.{bytes_eq-Decides}
use Rattle.register_terms.specs.Enrolment.{serial_of}
use Rattle.register_terms.proofs.Places.{no_place, at_place, past_places, position_push}

pub same_bytes : (xs ys : List ℕ) → bytes_eq xs ys ≡ true → xs ≡ ys
same_bytes xs ys is = (bytes_eq-Decides xs ys).0 is

pub bytes_eq-own : (xs : List ℕ) → bytes_eq xs xs ≡ true
bytes_eq-own xs = (bytes_eq-Decides xs xs).1 refl

pub bytes_differ : (xs ys : List ℕ) → xs ≢ ys → bytes_eq xs ys ≡ false
bytes_differ xs ys differ = false_from_ne_true (bytes_eq xs ys) (λ is. differ (same_bytes xs ys is))

-- ---- the serial of a name

-- no licensee has a name without a serial
pub absent_differs : (names : List (List ℕ)) (name : List ℕ) → serial_of names name ≡ None → (k : ℕ) (d : List ℕ) → k < length names → get_or names k d ≢ name
absent_differs names name none k d lt =
    λ e.
    let all = no_place (bytes_eq name) names none in
    let no : bytes_eq name (get_or names k d) ≡ false = fails_before_first (bytes_eq name) names k d (omega arith) in
    let yes : bytes_eq name (get_or names k d) ≡ true = (bytes_eq-Decides name (get_or names k d)).1 (sym e) in
    cc

pub differs_absent : (names : List (List ℕ)) (name : List ℕ) → ((k : ℕ) → k < length names → get_or names k [] ≢ name) → serial_of names name ≡ None
differs_absent names name differ =
    let all : position_or_len (bytes_eq name) names ≡ length names = position_or_len_is (bytes_eq name) names (length names) [] (omega arith) (λ k lt. bytes_differ name (get_or names k []) (λ e. differ k lt (sym e))) (λ lt. absurd (omega arith)) in
    past_places (bytes_eq name) names (omega arith)

-- the licensee of the serial has the name
pub has_serial : (names : List (List ℕ)) (name : List ℕ) (serial : ℕ) → serial_of names name ≡ Some serial → (serial < length names) × (get_or names serial [] ≡ name)
has_serial names name serial found =
    let at = position-Some (bytes_eq name) names serial [] found in
    (at.0, sym (same_bytes name (get_or names serial []) at.1))

-- where the names differ, each licensee's name has the licensee's serial
pub own_serial : (names : List (List ℕ)) (serial : ℕ) → AllPairs (λ x y. x ≢ y) names → serial < length names → serial_of names (get_or names serial []) ≡ Some serial
own_serial names serial distinct lt =
    let name = get_or names serial [] in
    let first : position_or_len (bytes_eq name) names ≡ serial = position_or_len_is (bytes_eq name) names serial [] (omega arith) (λ k below. bytes_differ name (get_or names k []) (λ e. distinct k serial [] below lt (sym e))) (λ _. bytes_eq-own name) in
    at_place (bytes_eq name) names serial lt first

bytes_eq-sym : (xs ys : List ℕ) → bytes_eq xs ys ≡ bytes_eq ys xs
bytes_eq-sym xs ys =
    let there = bytes_eq-Decides ys xs in
    same_from_decides (bytes_eq xs ys) (bytes_eq ys xs) (bytes_eq-Decides xs ys) ((λ is. sym (there.0 is)), (λ same. there.1 (sym same)))

-- a new name that is added last has the next serial, and every other text has what it had
pub serial_of-push : (names : List (List ℕ)) (name text : List ℕ) → serial_of names name ≡ None → serial_of (names ++ name ∷ []) text ≡ cond (bytes_eq name text) (Some (length names)) (serial_of names text)
serial_of-push names name text none =
    position_push (bytes_eq text) names name (λ same. ap (serial_of names) (same_bytes text name same) ∙ none) ∙ ap (λ (same : Bool). cond same (Some (length names)) (serial_of names text)) (bytes_eq-sym text name)
