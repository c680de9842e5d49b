-- The flags of a reader: which digest sets which flag, and the only one that is set.
use Rattle.std.proofs.Common.{◌≡◌, ◌≢◌, ◌∙◌, ℕ, zero, suc, ◌+◌, ◌-◌, ◌*◌, ◌/◌, ◌%◌, ◌<◌, ◌≤◌, Bool, true, false, cond, List, [], ◌∷◌, ◌++◌, length, map, filter, replicate, get_or, Option, Some, None, is_some, refl, sym, ap, subst, arith, inl, inr}
use Rattle.std.specs.Prelude.{slice_get, slice_set, nat_lt, ◌||◌}
use Rattle.std.specs.List.{list_any, range_with_len}
use Rattle.std.specs.Option.{option_to_list}
use Rattle.std.specs.Str.{bytes_eq}
use Rattle.std.proofs.Math.Bool.{or-false}
use Rattle.std.proofs.Math.Nat.{mod-lt}
use Rattle.std.proofs.lemmas.Bool.{cases_lt, lt-ltb}
use Rattle.std.proofs.lemmas.List.{append-nil}
use Rattle.std.proofs.lemmas.List.Elements.{filter-append}
use Rattle.std.proofs.lemmas.List.Folds.{list_any-append}
use Rattle.std.proofs.lemmas.Nat.{div-add-mod', pow_pos}
use Rattle.std.proofs.lemmas.Option.{slice_get_within, get_or_from_slice_get}
use Rattle.std.proofs.lemmas.Simd.{splat_is_map}
use Rattle.std.proofs.lemmas.Slice.Eq.{bytes_eq-Decides}
use Rattle.title_terms.specs.Designs.{places, symbols}
use Rattle.title_terms.specs.Titles.{Title, IsTitle, cell_of, digest_at}
use Rattle.copy_terms.specs.Copies.{only}
use Rattle.copy_match.specs.Readers.{Reader, HasSeen, flags_of, set_flags, only_flag}

-- ---- lists that are made element by element

same_by : (f g : List ℕ → Bool) (ds : List (List ℕ)) → ((j : ℕ) (y : List ℕ) → slice_get ds j ≡ Some y → f y ≡ g y) → map f ds ≡ map g ds
same_by f g [] same = refl
same_by f g (d ∷ ds) same = ap (λ b. b ∷ map f ds) (same 0 d refl) ∙ ap (λ bs. g d ∷ bs) (same_by f g ds (λ j y at. same (suc j) y at))

set_by : (f g : List ℕ → Bool) (ds : List (List ℕ)) (i : ℕ) (x : List ℕ) → slice_get ds i ≡ Some x → g x ≡ true → ((j : ℕ) (y : List ℕ) → slice_get ds j ≡ Some y → j ≢ i → f y ≡ g y)
    → slice_set (map f ds) i true ≡ map g ds
set_by f g [] i x at set same = absurd (omega (arith, slice_get_within [] i x at))
set_by f g (d ∷ ds) zero x at set same =
    let here : d ≡ x = (let e : Some d ≡ Some x = at in cc) in
    ap (λ b. b ∷ map f ds) (sym set ∙ ap g (sym here)) ∙ ap (λ bs. g d ∷ bs) (same_by f g ds (λ j y there. same (suc j) y there (λ e. omega (arith, e))))
set_by f g (d ∷ ds) (suc i) x at set same =
    ap (λ b. b ∷ slice_set (map f ds) i true) (same 0 d refl (λ e. omega (arith, e)))
    ∙ ap (λ bs. g d ∷ bs) (set_by f g ds i x at set (λ j y there other. same (suc j) y there (λ e. other (omega (arith, e)))))

-- ---- a digest that comes

differ : (x y : List ℕ) → y ≢ x → bytes_eq y x ≡ false
differ x y other = by (bytes_eq y x) refl
  where
    by : (b : Bool) → bytes_eq y x ≡ b → b ≡ false
    by true e = absurd (other ((bytes_eq-Decides y x).0 e))
    by false e = refl

-- one more digest that is not this one changes nothing
another : (digests : List (List ℕ)) (x y : List ℕ) → y ≢ x → list_any (bytes_eq y) digests ≡ list_any (bytes_eq y) (digests ++ x ∷ [])
another digests x y other =
    sym (list_any-append (bytes_eq y) digests (x ∷ []) ∙ ap (λ (b : Bool). list_any (bytes_eq y) digests || (b || false)) (differ x y other) ∙ or-false (list_any (bytes_eq y) digests))

or_true : (b : Bool) → (b || true) ≡ true
or_true true = refl
or_true false = refl

itself : (digests : List (List ℕ)) (x : List ℕ) → list_any (bytes_eq x) (digests ++ x ∷ []) ≡ true
itself digests x =
    list_any-append (bytes_eq x) digests (x ∷ []) ∙ ap (λ (b : Bool). list_any (bytes_eq x) digests || (b || false)) ((bytes_eq-Decides x x).1 refl) ∙ or_true (list_any (bytes_eq x) digests)

cell_by : (b : Bool) (held : Option (List ℕ)) (d : List ℕ) → cond b held None ≡ Some d → held ≡ Some d
cell_by true held d is = is
cell_by false held d is = absurd cc

module _ (t : Title) (valid : IsTitle t) (digests : List (List ℕ)) (x : List ℕ) where
  one_cell : (i j : ℕ) (d : List ℕ) → slice_get t.digests i ≡ Some d → slice_get t.digests j ≡ Some d → i ≡ j
  one_cell i j d first second =
      let i_in = slice_get_within t.digests i d first in
      let j_in = slice_get_within t.digests j d second in
      let same : get_or t.digests i d ≡ get_or t.digests j d = get_or_from_slice_get t.digests i d d first ∙ sym (get_or_from_slice_get t.digests j d d second) in
      elim (cases_lt i j) [
        | inl lt ↦ absurd (valid.distinct i j d lt j_in same)
        | inr le ↦ elim (cases_lt j i) [
          | inl gt ↦ absurd (valid.distinct j i d gt i_in (sym same))
          | inr ge ↦ omega (arith, le, ge)
        ]
      ]

  -- a digest that a variant has sets the flag of the variant
  pub found_seen : (flags : List Bool) (place symbol : ℕ) → digest_at t place symbol ≡ Some x → flags ≡ flags_of t digests
      → slice_set flags (place * symbols t.design + symbol) true ≡ flags_of t (digests ++ x ∷ [])
  found_seen flags place symbol at is =
      let cell : ℕ = place * symbols t.design + symbol in
      let here : slice_get t.digests cell ≡ Some x = cell_by (nat_lt symbol (symbols t.design)) (slice_get t.digests cell) x at in
      ap (λ (bs : List Bool). slice_set bs cell true) is
      ∙ set_by (λ d. list_any (bytes_eq d) digests) (λ d. list_any (bytes_eq d) (digests ++ x ∷ [])) t.digests cell x here (itself digests x)
      (λ j y there other. another digests x y (λ same. other (one_cell j cell x (there ∙ ap Some same) here)))

  -- another digest sets none
  pub absent_seen : (flags : List Bool) → ((place symbol : ℕ) → digest_at t place symbol ≡ Some x → ⊥) → flags ≡ flags_of t digests
      → flags ≡ flags_of t (digests ++ x ∷ [])
  absent_seen flags absent is =
      let size : ℕ = symbols t.design in
      let some : 0 < size = pow_pos t.design.bits in
      is ∙ same_by (λ d. list_any (bytes_eq d) digests) (λ d. list_any (bytes_eq d) (digests ++ x ∷ [])) t.digests
      (λ j y there. another digests x y (λ same.
      let inside : nat_lt (j % size) size ≡ true = lt-ltb (j % size) size (mod-lt j some) in
      let at : slice_get t.digests (j / size * size + j % size) ≡ Some x = ap (slice_get t.digests) (div-add-mod' j size) ∙ there ∙ ap Some same in
      absent (j / size) (j % size) (rw inside at)))

-- before any digest no flag is set
pub none_seen : (t : Title) (n : ℕ) (flags : List Bool) → flags ≡ replicate n false → length t.digests ≡ n → flags ≡ flags_of t []
none_seen t n flags is long = is ∙ splat_is_map t.digests n false long

-- ---- the only flag

range_cut : (a i n : ℕ) → range_with_len a (i + suc n) ≡ range_with_len a i ++ (a + i) ∷ range_with_len (a + i + 1) n
range_cut a zero n =
    let here : a ≡ a + 0 = omega arith in
    let len : 0 + suc n ≡ suc n = omega arith in
    ap (range_with_len a) len ∙ ap (λ (b : ℕ). b ∷ range_with_len (b + 1) n) here
range_cut a (suc i) n =
    let len : suc i + suc n ≡ suc (i + suc n) = omega arith in
    let at : a + 1 + i ≡ a + suc i = omega arith in
    ap (range_with_len a) len ∙ ap (λ (ks : List ℕ). a ∷ ks) (range_cut (a + 1) i n ∙ ap (λ (b : ℕ). range_with_len (a + 1) i ++ b ∷ range_with_len (b + 1) n) at)

set_cut : (p : ℕ → Bool) (i n : ℕ) → i < n → filter p (range_with_len 0 n) ≡ filter p (range_with_len 0 i) ++ filter p (i ∷ range_with_len (i + 1) (n - (i + 1)))
set_cut p i n lt =
    let len : i + suc (n - (i + 1)) ≡ n = omega (arith, lt) in
    let at : 0 + i ≡ i = omega arith in
    ap (λ (m : ℕ). filter p (range_with_len 0 m)) (sym len)
    ∙ ap (filter p) (range_cut 0 i (n - (i + 1)) ∙ ap (λ (b : ℕ). range_with_len 0 i ++ b ∷ range_with_len (b + 1) (n - (i + 1))) at)
    ∙ filter-append p (range_with_len 0 i) (i ∷ range_with_len (i + 1) (n - (i + 1)))

-- the flags below this number, behind the first `i` of which one more is looked at
pub next_flag : (p : ℕ → Bool) (i : ℕ) → filter p (range_with_len 0 (i + 1)) ≡ filter p (range_with_len 0 i) ++ cond (p i) (i ∷ []) []
next_flag p i =
    let none : i + 1 - (i + 1) ≡ 0 = omega arith in
    set_cut p i (i + 1) (omega arith) ∙ ap (λ (m : ℕ). filter p (range_with_len 0 i) ++ filter p (i ∷ range_with_len (i + 1) m)) none ∙ ap (λ (ks : List ℕ). filter p (range_with_len 0 i) ++ ks) (by (p i))
  where
    by : (b : Bool) → cond b (i ∷ []) [] ≡ cond b (i ∷ []) []
    by b = refl

-- a second flag leaves no only one
pub two_flags : (p : ℕ → Bool) (i n a : ℕ) → i < n → a ∷ [] ≡ filter p (range_with_len 0 i) → p i ≡ true → only (filter p (range_with_len 0 n)) ≡ None
two_flags p i n a lt first second =
    ap only (set_cut p i n lt ∙ ap (λ (ks : List ℕ). ks ++ filter p (i ∷ range_with_len (i + 1) (n - (i + 1)))) (sym first)
    ∙ ap (λ (b : Bool). (a ∷ []) ++ cond b (i ∷ filter p (range_with_len (i + 1) (n - (i + 1)))) (filter p (range_with_len (i + 1) (n - (i + 1))))) second)

-- one or none
pub only_one : (found : Option ℕ) → only (option_to_list found) ≡ found
only_one None = refl
only_one (Some v) = refl

-- ---- a loop that looks for it

pub second_flag : (p : ℕ → Bool) (i n : ℕ) (found : Option ℕ) → i < n → option_to_list found ≡ filter p (range_with_len 0 i) → is_some found ≡ true → p i ≡ true → only (filter p (range_with_len 0 n)) ≡ None
second_flag p i n None lt so_far some here = absurd cc
second_flag p i n (Some a) lt so_far some here = two_flags p i n a lt so_far here

pub first_flag : (p : ℕ → Bool) (i : ℕ) (found now : Option ℕ) → option_to_list found ≡ filter p (range_with_len 0 i) → is_some found ≡ false → p i ≡ true → now ≡ Some i
    → option_to_list now ≡ filter p (range_with_len 0 (i + 1))
first_flag p i None now so_far none here is =
    ap option_to_list is ∙ sym (next_flag p i ∙ ap (λ (ks : List ℕ). ks ++ cond (p i) (i ∷ []) []) (sym so_far) ∙ ap (λ (b : Bool). [] ++ cond b (i ∷ []) []) here)
first_flag p i (Some a) now so_far none here is = absurd cc

pub no_flag : (p : ℕ → Bool) (i : ℕ) (found now : Option ℕ) → option_to_list found ≡ filter p (range_with_len 0 i) → p i ≡ false → now ≡ found
    → option_to_list now ≡ filter p (range_with_len 0 (i + 1))
no_flag p i found now so_far here is =
    ap option_to_list is ∙ so_far ∙ sym (next_flag p i ∙ ap (λ (b : Bool). filter p (range_with_len 0 i) ++ cond b (i ∷ []) []) here ∙ append-nil (filter p (range_with_len 0 i)))
