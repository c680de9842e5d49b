-- Cells of which the first ones hold digests and the others are empty.
use Rattle.std.proofs.Common.{◌≡◌, ◌≢◌, ◌∙◌, sym, ap, refl, ℕ, zero, suc, ◌+◌, ◌<◌, ◌≤◌, ◌-◌, Bool, true, false, List, [], ◌∷◌, ◌++◌, length, append_assoc, append-nil, map, take, replicate, get_or, set, Option, Some, None, inl, inr, arith}
use Rattle.std.specs.Prelude.{is_some}
use Rattle.std.specs.List.{position, position_or_len, list_all}
use Rattle.std.specs.Str.{bytes_eq}
use Rattle.std.proofs.Math.Seq.{take-append_seam, set-append_seam, get_or-append_seam}
use Rattle.std.proofs.lemmas.Bool.{cases_lt, lt-ltb, le-ltb}
use Rattle.std.proofs.lemmas.List.{length-map, get_or-map, get_or_append_left, get_or-append_right, map-append}
use Rattle.std.proofs.lemmas.List.Sums.{position_or_len_is}
use Rattle.std.proofs.lemmas.Slice.Eq.{bytes_eq-Decides}
use Rattle.title_store.specs.Cells.{held_at, filled}

-- these digests, and then so many empty cells
abbrev pub cells_of : List (List ℕ) → ℕ → List (Option (List ℕ))
cells_of digests rest = map Some digests ++ replicate rest None

long : (digests : List (List ℕ)) → length (map Some digests) ≡ length digests
long digests = length-map digests Some

pub held_below : (digests : List (List ℕ)) (rest j : ℕ) → j < length digests → held_at (cells_of digests rest) j ≡ Some (get_or digests j [])
held_below digests rest j lt =
    get_or_append_left (map Some digests) (replicate rest None) None j (omega (arith, lt, long digests)) ∙ get_or-map Some digests j [] None lt

none_at : (rest j : ℕ) → get_or (replicate rest (let o : Option (List ℕ) = None in o)) j None ≡ None
none_at zero j = refl
none_at (suc rest) zero = refl
none_at (suc rest) (suc j) = none_at rest j

pub held_past : (digests : List (List ℕ)) (rest j : ℕ) → length digests ≤ j → held_at (cells_of digests rest) j ≡ None
held_past digests rest j le =
    get_or-append_right (map Some digests) (replicate rest None) (length digests) j None (long digests) le ∙ none_at rest (j - length digests)

filled_back : (digests : List (List ℕ)) → filled (map Some digests) ≡ digests
filled_back [] = refl
filled_back (x ∷ digests) = ap (λ (xs : List (List ℕ)). x ∷ xs) (filled_back digests)

pub front : (digests : List (List ℕ)) (rest i : ℕ) → length digests ≡ i → filled (take i (cells_of digests rest)) ≡ digests
front digests rest i is =
    ap (λ (n : ℕ). filled (take n (cells_of digests rest))) (sym is ∙ sym (long digests))
    ∙ ap filled (take-append_seam (map Some digests) (replicate rest None)) ∙ filled_back digests

pub all_filled : (digests : List (List ℕ)) → filled (cells_of digests 0) ≡ digests
all_filled digests = ap filled (append-nil (map Some digests)) ∙ filled_back digests

all_some : (digests : List (List ℕ)) → list_all is_some (map Some digests) ≡ true
all_some [] = refl
all_some (x ∷ digests) = all_some digests

pub all_full : (digests : List (List ℕ)) → list_all is_some (cells_of digests 0) ≡ true
all_full digests = ap (list_all is_some) (append-nil (map Some digests)) ∙ all_some digests

pub put_next : (digests : List (List ℕ)) (rest i : ℕ) (x : List ℕ) → length digests ≡ i → set (cells_of digests (suc rest)) i (Some x) ≡ cells_of (digests ++ x ∷ []) rest
put_next digests rest i x is =
    ap (λ (n : ℕ). set (cells_of digests (suc rest)) n (Some x)) (sym is ∙ sym (long digests))
    ∙ set-append_seam (map Some digests) None (replicate rest None) (Some x)
    ∙ sym (append_assoc (map Some digests) (Some x ∷ []) (replicate rest None))
    ∙ ap (λ (cells : List (Option (List ℕ))). cells ++ replicate rest None) (sym (map-append Some digests (x ∷ [])))

-- ---- where a digest stands

differs : (x y : List ℕ) → y ≢ x → bytes_eq x y ≡ false
differs x y other = by (bytes_eq x y) refl
  where
    by : (b : Bool) → bytes_eq x y ≡ b → bytes_eq x y ≡ false
    by false is = is
    by true is = absurd (other (sym ((bytes_eq-Decides x y).0 is)))

pub position_none : (x : List ℕ) (digests : List (List ℕ)) → ((j : ℕ) → j < length digests → get_or digests j [] ≢ x) → position (bytes_eq x) digests ≡ None
position_none x digests other =
    let last : position_or_len (bytes_eq x) digests ≡ length digests =
    position_or_len_is (bytes_eq x) digests (length digests) [] (omega arith) (λ k lt. differs x (get_or digests k []) (other k lt)) (λ lt. absurd (omega (arith, lt))) in
    rw (last, le-ltb (length digests) (length digests) (omega arith)) refl

pub position_is : (x : List ℕ) (digests : List (List ℕ)) (j : ℕ) → j < length digests → get_or digests j [] ≡ x → ((k : ℕ) → k < j → get_or digests k [] ≢ get_or digests j [])
    → position (bytes_eq x) digests ≡ Some j
position_is x digests j inside is earlier =
    let first : position_or_len (bytes_eq x) digests ≡ j =
    position_or_len_is (bytes_eq x) digests j [] (omega (arith, inside)) (λ k lt. differs x (get_or digests k []) (λ same. earlier k lt (same ∙ sym is)))
    (λ lt. (bytes_eq-Decides x (get_or digests j [])).1 (sym is)) in
    rw (first, lt-ltb j (length digests) inside) refl

-- digests stay different where one more is added that is like none of them
pub distinct_more : (digests : List (List ℕ)) (x : List ℕ) (i : ℕ) → length digests ≡ i → ((j k : ℕ) → j < k → k < i → get_or digests j [] ≢ get_or digests k [])
    → ((j : ℕ) → j < i → get_or digests j [] ≢ x)
    → (j k : ℕ) → j < k → k < i + 1 → get_or (digests ++ x ∷ []) j [] ≢ get_or (digests ++ x ∷ []) k []
distinct_more digests x i is apart unlike j k before within same =
    let j_in : j < i = omega (arith, before, within) in
    let left : get_or (digests ++ x ∷ []) j [] ≡ get_or digests j [] = get_or_append_left digests (x ∷ []) [] j (omega (arith, j_in, is)) in
    elim (cases_lt k i) [
      | inl lt ↦ apart j k before lt (sym left ∙ same ∙ get_or_append_left digests (x ∷ []) [] k (omega (arith, lt, is)))
      | inr le ↦
          let here : k ≡ length digests = omega (arith, le, within, is) in
          unlike j j_in (sym left ∙ same ∙ ap (λ (n : ℕ). get_or (digests ++ x ∷ []) n []) here ∙ get_or-append_seam digests x [] [])
    ]
