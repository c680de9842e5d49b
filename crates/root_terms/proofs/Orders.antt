-- Entries that are sorted by their numbers hold the y-roots in ascending order.
use Rattle.std.proofs.Common.{◌≡◌, ◌≢◌, inl, inr, ℕ, suc, ◌<◌, ◌≤◌, List, [], ◌∷◌, ◌++◌, eqb, map, length, get_or, All, Contains, IsPermutation, refl, sym, ◌∙◌, ap, ap₂, subst, arith}
use Rattle.std.specs.List.{IsDistinct}
use Rattle.std.specs.List.Sorted.{IsNonDecreasing, IsNonDecreasingBy, IsStrictlyIncreasing}
use Rattle.std.proofs.lemmas.Bool.{cases_lt, cases_eq, eq-eqb, ne_eqb}
use Rattle.std.proofs.lemmas.List.{length-map, length_push, get_or-map, get_or_push, get_or_append_left, get_or_default, same_lists}
use Rattle.std.proofs.lemmas.List.Elements.{All-map, All-push, Contains-get_or}
use Rattle.std.proofs.lemmas.List.Sorted.{All-permutation, Contains-permutation, IsPermutation-map}
use Rattle.std.proofs.lemmas.Map.Keys.{IsDistinct-IsPermutation, IsDistinct-from_apart, IsStrictlyIncreasing-from_distinct}
use mathlib.Core.Path.{fun_ext}
use Rattle.algebra.specs.Ring.{Ring}
use Rattle.algebra.specs.Lists.{coefficients, IsListOf}
use Rattle.algebra.specs.Bivariate.{Bivariate}
use Rattle.algebra.proofs.CoefficientLists.{coefficients_below, trimmed_length}
use Rattle.root_terms.specs.YRoots.{IsYRoot, AreYRootLists, AreYRoots, number_of}
use Rattle.root_terms.specs.Entries.{AreNumbered}
use Rattle.root_terms.proofs.Lists.{Contains-map}
use Rattle.root_terms.proofs.Numbers.{same_digits}

eqb_flips : (x y : ℕ) → eqb x y ≡ eqb y x
eqb_flips x y = elim (cases_eq x y) [
  | inl e ↦ eq-eqb x y e ∙ sym (eq-eqb y x (sym e))
  | inr n ↦ ne_eqb x y n ∙ sym (ne_eqb y x (λ e. n (sym e)))
]

module _ {F X : Type 0} (R : Ring F) (digit : F → ℕ) (size : ℕ) (value : X → ℕ) (root : X → List F) where
  pub none_numbered : AreNumbered R digit size value root [] []
  none_numbered = record { count = refl; numbers = λ k d l. absurd (omega arith); each = λ i d e l. absurd (omega arith) }

  pub more_numbered : (lists : List (List F)) (entries : List X) (list : List F) (entry : X) → AreNumbered R digit size value root lists entries
      → value entry ≡ number_of digit size (root entry) → IsListOf R (coefficients R list) (root entry) → AreNumbered R digit size value root (lists ++ list ∷ []) (entries ++ entry ∷ [])
  more_numbered lists entries list entry so_far number is = record {
    count = omega (arith, length_push lists list, length_push entries entry, so_far.count);
    numbers = All-push (λ e. value e ≡ number_of digit size (root e)) entries entry so_far.numbers number;
    each = λ i d e l. elim (cases_lt i (length lists)) [
      | inl b ↦
          subst (λ t. IsListOf R (coefficients R t) (root (get_or (entries ++ entry ∷ []) i e))) (sym (get_or_append_left lists (list ∷ []) d i b))
          (subst (λ t. IsListOf R (coefficients R (get_or lists i d)) (root t)) (sym (get_or_append_left entries (entry ∷ []) e i (omega (arith, so_far.count)))) (so_far.each i d e b))
      | inr b ↦
          let last : length lists ≡ i = omega (arith, length_push lists list) in
          subst (λ t. IsListOf R (coefficients R t) (root (get_or (entries ++ entry ∷ []) i e))) (sym (get_or_push lists list d i last))
          (subst (λ t. IsListOf R (coefficients R list) (root t)) (sym (get_or_push entries entry e i (so_far.count ∙ last))) is)
    ];
  }

  module _ (nil_is : digit R.nil ≡ 0) (exact : (x y : F) → digit x ≡ digit y → x ≡ y) (below : (x : F) → digit x < size)
      (q : Bivariate F) (k : ℕ) (lists : List (List F)) (entries sorted : List X) (all : AreYRootLists R q k lists) (numbered : AreNumbered R digit size value root lists entries)
      (shuffled : IsPermutation entries sorted) (rising : IsNonDecreasingBy value sorted) where
    entry_only : All (λ e. (length (root e) ≤ k) × IsYRoot R q (coefficients R (root e))) entries
    entry_only i e l =
        let inside : i < length lists = omega (arith, numbered.count) in
        let is : IsListOf R (coefficients R (get_or lists i [])) (root (get_or entries i e)) = numbered.each i [] e inside in
        let good : (length (get_or lists i []) ≡ k) × IsYRoot R q (coefficients R (get_or lists i [])) = all.only i [] inside in
        let len : length (get_or lists i []) ≡ k = good.0 in
        let short : length (root (get_or entries i e)) ≤ length (get_or lists i []) =
        trimmed_length R (length (get_or lists i [])) (root (get_or entries i e)) is.trimmed (λ n m. is.each n ∙ coefficients_below R (get_or lists i []) n m) in (
          omega arith,
          subst (IsYRoot R q) (sym (fun_ext is.each)) good.1,
        )

    roots_only : All (λ r. (length r ≤ k) × IsYRoot R q (coefficients R r)) (map root sorted)
    roots_only =
        All-map (λ r. (length r ≤ k) × IsYRoot R q (coefficients R r)) root sorted
        (All-permutation (λ e. (length (root e) ≤ k) × IsYRoot R q (coefficients R (root e))) entries sorted shuffled entry_only)

    -- the entry at the place of a list
    entry_at : (i : ℕ) → i < length lists → X
    entry_at i l = first entries (omega (arith, numbered.count))
      where
        first : (es : List X) → i < length es → X
        first [] m = absurd (omega arith)
        first (e ∷ es) m = get_or (e ∷ es) i e

    root_in : (i : ℕ) (e : X) → i < length lists → Contains (map root sorted) (root (get_or entries i e))
    root_in i e l =
        Contains-map root sorted (get_or entries i e)
        (Contains-permutation entries sorted (get_or entries i e) shuffled (Contains-get_or entries i e (omega (arith, numbered.count))))

    apart_at : (i j d : ℕ) → i < j → j < length (map value entries) → get_or (map value entries) i d ≢ get_or (map value entries) j d
    apart_at i j d l m e = by entries refl
      where
        by : (es : List X) → entries ≡ es → ⊥
        by [] same = let none : length (map value entries) ≡ 0 = length-map entries value ∙ ap length same in absurd (omega arith)
        by (x ∷ es) same =
            let in_entries : j < length entries = omega (arith, length-map entries value) in
            let in_lists : j < length lists = omega (arith, numbered.count) in
            let number : (n : ℕ) → n < length entries → get_or (map value entries) n d ≡ number_of digit size (root (get_or entries n x)) = λ n o.
            get_or-map value entries n x d o ∙ numbered.numbers n x o in
            let digits : (n : ℕ) → coefficients R (root (get_or entries i x)) n ≡ coefficients R (root (get_or entries j x)) n =
            same_digits R digit nil_is exact size below (root (get_or entries i x)) (root (get_or entries j x)) (sym (number i (omega arith)) ∙ e ∙ number j in_entries) in
            let len_i : length (get_or lists i []) ≡ k = (all.only i [] (omega arith)).0 in
            let len_j : length (get_or lists j []) ≡ k = (all.only j [] in_lists).0 in
            all.apart i j [] l in_lists (same_lists (get_or lists i []) (get_or lists j []) (len_i ∙ sym len_j) (λ n o b.
            get_or_default (get_or lists i []) n o R.nil b
            ∙ sym ((numbered.each i [] x (omega arith)).each n)
            ∙ digits n
            ∙ (numbered.each j [] x in_lists).each n
            ∙ sym (get_or_default (get_or lists j []) n o R.nil (omega arith))))

    distinct : IsDistinct eqb (map value sorted)
    distinct =
        IsDistinct-IsPermutation eqb eqb_flips (map value entries) (map value sorted) (IsPermutation-map value entries sorted shuffled)
        (IsDistinct-from_apart eqb (map value entries) (λ i j d l m. ne_eqb (get_or (map value entries) i d) (get_or (map value entries) j d) (apart_at i j d l m)))

    numbers_rise : IsNonDecreasing (map value sorted)
    numbers_rise = by sorted refl
      where
        by : (es : List X) → sorted ≡ es → IsNonDecreasing (map value sorted)
        by [] same i j d l m = let none : length (map value sorted) ≡ 0 = length-map sorted value ∙ ap length same in absurd (omega arith)
        by (x ∷ es) same i j d l m =
            let inside : j < length sorted = omega (arith, length-map sorted value) in
            let up : value (get_or sorted i x) ≤ value (get_or sorted j x) = rising i j x l inside in
            let at_i : get_or (map value sorted) i d ≡ value (get_or sorted i x) = get_or-map value sorted i x d (omega arith) in
            let at_j : get_or (map value sorted) j d ≡ value (get_or sorted j x) = get_or-map value sorted j x d inside in
            omega arith

    same_numbers : map value sorted ≡ map (number_of digit size) (map root sorted)
    same_numbers = by sorted (All-permutation (λ e. value e ≡ number_of digit size (root e)) entries sorted shuffled numbered.numbers)
      where
        by : (es : List X) → All (λ e. value e ≡ number_of digit size (root e)) es → map value es ≡ map (number_of digit size) (map root es)
        by [] h = refl
        by (x ∷ es) h = ap₂ (λ (n : ℕ) (ns : List ℕ). n ∷ ns) (h 0 x (omega arith)) (by es (λ i d l. h (suc i) d (omega arith)))

    pub ordered : AreYRoots R digit size q k (map root sorted)
    ordered = record {
      only = roots_only;
      every = λ f b h.
          let found = all.every f b h in
          let at : ℕ = found.1.0 in
          let inside : at < length lists = found.1.1 in
          let entry : X = entry_at at inside in
          let is : IsListOf R (coefficients R (get_or lists at found.0)) (root (get_or entries at entry)) = numbered.each at found.0 entry inside in (
            root (get_or entries at entry),
            root_in at entry inside,
            λ i. is.each i ∙ ap (λ t. coefficients R t i) found.1.2 ∙ found.2 i,
          );
      ascending = subst IsStrictlyIncreasing same_numbers (IsStrictlyIncreasing-from_distinct (map value sorted) numbers_rise distinct);
    }
