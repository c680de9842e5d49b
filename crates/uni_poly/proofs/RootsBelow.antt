-- The roots among the elements with small numbers.
use Rattle.std.proofs.Common.{◌≡◌, inl, inr, ℕ, ◌+◌, ◌-◌, ◌<◌, ◌≤◌, List, [], ◌∷◌, ◌++◌, length, refl, sym, ◌∙◌, ap, subst, arith}
use Rattle.std.proofs.lemmas.Bool.{cases_lt, cases_order}
use Rattle.std.proofs.lemmas.List.{get_or_push, length_push}
use Rattle.std.proofs.Math.ListN.{get_or-append}
use Rattle.algebra.specs.Ring.{Ring, IsField}
use Rattle.algebra.specs.Series.{IsBelow}
use Rattle.algebra.specs.Lists.{coefficients, IsTrimmed}
use Rattle.algebra.proofs.CoefficientLists.{coefficients_below}
use Rattle.algebra.proofs.Fields.{domain}
use Rattle.algebra.proofs.Roots.{few_roots}
use Rattle.uni_poly.specs.Roots.{IsRoot, IsRootList}

module _ {F : Type 0} (R : Ring F) (number : F → ℕ) (xs : List F) where
  -- all roots with numbers below v, in ascending order
  pub record IsRootsBelow (v : ℕ) (roots : List F) : Type 0 where
    pub only : (i : ℕ) → i < length roots → IsRoot R xs (coefficients R roots i)
    pub small : (i : ℕ) → i < length roots → number (coefficients R roots i) < v
    pub every : (x : F) → number x < v → IsRoot R xs x → (i : ℕ) × (i < length roots) × (coefficients R roots i ≡ x)
    pub ascending : (i j : ℕ) → i < j → j < length roots → number (coefficients R roots i) < number (coefficients R roots j)

  pub no_roots : IsRootsBelow 0 []
  no_roots = record {
    only = λ i l. absurd (omega arith);
    small = λ i l. absurd (omega arith);
    every = λ x l h. absurd (omega arith);
    ascending = λ i j l h. absurd (omega arith);
  }

  -- the element with the number v is one more
  pub root_found : ((x y : F) → number x ≡ number y → x ≡ y) → (v : ℕ) (roots : List F) (x : F) → IsRootsBelow v roots → number x ≡ v → IsRoot R xs x → IsRootsBelow (v + 1) (roots ++ x ∷ [])
  root_found same v roots x so_far is root = record {
    only = λ i l. elim (cases_lt i (length roots)) [
      | inl b ↦ subst (IsRoot R xs) (sym (old i b)) (so_far.only i b)
      | inr b ↦ subst (IsRoot R xs) (sym (new i (omega (arith, count)))) root
    ];
    small = λ i l. elim (cases_lt i (length roots)) [
      | inl b ↦ let n : number (coefficients R (roots ++ x ∷ []) i) ≡ number (coefficients R roots i) = ap number (old i b) in omega (arith, so_far.small i b)
      | inr b ↦ let n : number (coefficients R (roots ++ x ∷ []) i) ≡ number x = ap number (new i (omega (arith, count))) in omega arith
    ];
    every = λ y l h. elim (cases_lt (number y) v) [
      | inl b ↦ let found = so_far.every y b h in (found.0, omega (arith, count, found.1), old found.0 found.1 ∙ found.2)
      | inr b ↦ let e : number x ≡ number y = omega arith in (length roots, omega (arith, count), new (length roots) refl ∙ same x y e)
    ];
    ascending = λ i j l m. elim (cases_lt j (length roots)) [
      | inl b ↦
          let n : number (coefficients R (roots ++ x ∷ []) i) ≡ number (coefficients R roots i) = ap number (old i (omega arith)) in
          let k : number (coefficients R (roots ++ x ∷ []) j) ≡ number (coefficients R roots j) = ap number (old j b) in
          omega (arith, so_far.ascending i j l b)
      | inr b ↦
          let n : number (coefficients R (roots ++ x ∷ []) i) ≡ number (coefficients R roots i) = ap number (old i (omega (arith, count))) in
          let k : number (coefficients R (roots ++ x ∷ []) j) ≡ number x = ap number (new j (omega (arith, count))) in
          omega (arith, so_far.small i (omega (arith, count)))
    ];
  }
    where
      count : length (roots ++ x ∷ []) ≡ length roots + 1
      count = length_push roots x

      old : (i : ℕ) → i < length roots → coefficients R (roots ++ x ∷ []) i ≡ coefficients R roots i
      old i l = get_or-append roots (x ∷ []) R.nil i l

      new : (i : ℕ) → length roots ≡ i → coefficients R (roots ++ x ∷ []) i ≡ x
      new i e = get_or_push roots x R.nil i e

  -- the element with the number v is none
  pub no_root_found : ((x y : F) → number x ≡ number y → x ≡ y) → (v : ℕ) (roots : List F) (x : F) → IsRootsBelow v roots → number x ≡ v → (IsRoot R xs x → ⊥) → IsRootsBelow (v + 1) roots
  no_root_found same v roots x so_far is none = record {
    only = so_far.only;
    small = λ i l. omega (arith, so_far.small i l);
    every = λ y l h. elim (cases_lt (number y) v) [
      | inl b ↦ so_far.every y b h
      | inr b ↦ let e : number y ≡ number x = omega arith in absurd (none (subst (IsRoot R xs) (same y x e) h))
    ];
    ascending = so_far.ascending;
  }

  -- no element is left
  pub all_roots : (q : ℕ) (roots : List F) → ((x : F) → number x < q) → IsRootsBelow q roots → IsRootList R number xs roots
  all_roots q roots below all = record { only = all.only; every = λ x h. all.every x (below x) h; ascending = all.ascending }

  -- fewer than coefficients
  pub few : IsField R → (roots : List F) → IsTrimmed R xs → IsRootList R number xs roots → 0 < length xs → length roots < length xs
  few field roots trimmed all some = elim (cases_lt (length roots) (length xs)) [
    | inl l ↦ l
    | inr l ↦ absurd (trimmed (length xs - 1) (omega arith) (none l (length xs - 1) (omega arith)))
  ]
    where
      apart : (i j : ℕ) → j < length roots → coefficients R roots i ≡ coefficients R roots j → i < j → ⊥
      apart i j l e m = let n : number (coefficients R roots i) ≡ number (coefficients R roots j) = ap number e in absurd (omega (arith, all.ascending i j m l))

      different : length xs ≤ length roots → (i j : ℕ) → i < length xs → j < length xs → coefficients R roots i ≡ coefficients R roots j → i ≡ j
      different l i j a b e = elim (cases_order i j) [
        | inl s ↦ s
        | inr (inl m) ↦ absurd (apart i j (omega arith) e m)
        | inr (inr m) ↦ absurd (apart j i (omega arith) (sym e) m)
      ]

      none : length xs ≤ length roots → IsBelow R 0 (coefficients R xs)
      none l =
          few_roots R (domain R field) (length xs) (coefficients R roots) (coefficients R xs) (different l) (coefficients_below R xs) (λ i m. all.only i (omega arith))
