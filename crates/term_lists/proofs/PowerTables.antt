-- Tables of powers, and derivatives of powers.
use Rattle.std.proofs.Common.{◌≡◌, ◌⊎◌, inl, inr, ℕ, ◌-◌, ◌<◌, ◌≤◌, true, false, List, [], ◌∷◌, ◌++◌, length, ◌∙◌, ap, subst, arith}
use Rattle.std.specs.Prelude.{if◌then◌else◌}
use Rattle.std.proofs.lemmas.Bool.{cases_lt}
use Rattle.std.proofs.lemmas.List.{get_or_append_left}
use Rattle.std.proofs.Math.Seq.{get_or-append_seam}
use Rattle.algebra.specs.Ring.{Ring}
use Rattle.algebra.specs.Binomials.{has_bits}
use Rattle.algebra.specs.Bivariate.{weight}
use Rattle.algebra.specs.Lists.{coefficients}
use Rattle.algebra.specs.Sums.{power}
use Rattle.bi_poly.specs.Rows.{ArePowers}
use Rattle.term_lists.proofs.Pushed.{pushed_count}

module _ {F : Type 0} (R : Ring F) where
  pub weight_has : (a : F) (i u : ℕ) → has_bits i u ≡ true → weight R a i u ≡ power R a (i - u)
  unfolding weight
  weight_has a i u is = ap (λ b. if b then power R a (i - u) else R.nil) is

  pub weight_lacks : (a : F) (i u : ℕ) → has_bits i u ≡ false → weight R a i u ≡ R.nil
  unfolding weight
  weight_lacks a i u is = ap (λ b. if b then power R a (i - u) else R.nil) is

  pub powers_none : (a : F) → ArePowers R a []
  powers_none a k l = absurd (omega (arith, l))

  pub powers_push : (a : F) (list : List F) (x : F) → ArePowers R a list → x ≡ power R a (length list) → ArePowers R a (list ++ x ∷ [])
  powers_push a list x are is k l = by_order (cases_lt k (length list))
    where
      by_order : (k < length list) ⊎ (length list ≤ k) → coefficients R (list ++ x ∷ []) k ≡ power R a k
      by_order (inl less) = get_or_append_left list (x ∷ []) R.nil k less ∙ are k less
      by_order (inr most) =
          let same : length list ≡ k = omega (arith, l, most, pushed_count list x) in
          subst (λ n. coefficients R (list ++ x ∷ []) n ≡ power R a n) same (get_or-append_seam list x [] R.nil ∙ is)
