-- Agreement makes a root.
use Rattle.std.proofs.Common.{◌≡◌, ◌⊎◌, inl, inr, ℕ, zero, suc, ◌+◌, ◌*◌, ◌<◌, ◌≤◌, ◌∙◌, sym, ap, ap₂, subst, arith}
use Rattle.std.specs.Prelude.{◌≢◌}
use Rattle.std.proofs.lemmas.Bool.{cases_lt}
use Rattle.algebra.specs.Ring.{Ring, IsField}
use Rattle.algebra.specs.Roots.{AreDifferent, HasRoot, total}
use Rattle.algebra.specs.Series.{IsBelow, value}
use Rattle.algebra.specs.Bivariate.{Bivariate, HasMultiplicity, greatest, substituted, weight_by}
use Rattle.algebra.proofs.Fields.{domain}
use Rattle.algebra.proofs.Multiplicity.{few}
use Rattle.algebra.proofs.Composition.{divided_along}
use Rattle.curve_terms.specs.Agreement.{GoesThrough}
use Rattle.curve_terms.proofs.Degrees.{substituted_below}

total_same : (n s : ℕ) → total n (λ i. s) ≡ s * n
total_same zero s = omega arith
total_same (suc n) s = omega (arith, total_same n s)

module _ {F : Type 0} (R : Ring F) (field : IsField R) where
  -- a polynomial without a greatest coefficient is zero
  no_lead : (p : ℕ → F) (e : ℕ) → IsBelow R e p → ((d : ℕ) → d < e → IsBelow R (d + 1) p → p d ≢ R.nil → ⊥) → IsBelow R 0 p
  no_lead p zero below none = below
  no_lead p (suc e) below none = by_value (field.decided (p e)) (no_lead p e)
    where
      lower : p e ≡ R.nil → IsBelow R e p
      lower nothing = λ k l. by_order k l (cases_lt e k)
        where
          by_order : (k : ℕ) → e ≤ k → (e < k) ⊎ (k ≤ e) → p k ≡ R.nil
          by_order k l (inl above) = below k above
          by_order k l (inr most) = subst (λ n. p n ≡ R.nil) (omega (arith, l, most)) nothing

      by_value : (p e ≡ R.nil) ⊎ (p e ≢ R.nil) → (IsBelow R e p → ((d : ℕ) → d < e → IsBelow R (d + 1) p → p d ≢ R.nil → ⊥) → IsBelow R 0 p) → IsBelow R 0 p
      by_value (inl nothing) rest = rest (lower nothing) (λ d l. none d (omega (arith, l)))
      by_value (inr some) rest = absurd (none e (omega arith) (λ k l. below k (omega (arith, l))) some)

  module _ (q : Bivariate F) (f : ℕ → F) (points : ℕ → F × F) (r w e s t : ℕ) (light : greatest (weight_by w) q < e) (enough : e ≤ s * t) (different : AreDifferent r points)
      (zeros : (i : ℕ) → i < r → HasMultiplicity R s q (points i).0 (points i).1) (below : IsBelow R (w + 1) f) (goes : GoesThrough R (w + 1) f r points t) where
    -- two chosen points with the same first coordinate have the same second one
    apart : AreDifferent t (λ i. (points (goes.chosen i)).0)
    apart i j l m same =
        let values : (points (goes.chosen i)).1 ≡ (points (goes.chosen j)).1 = sym (goes.through i l) ∙ ap (value R (w + 1) f) same ∙ goes.through j m in
        let both : points (goes.chosen i) ≡ points (goes.chosen j) = ap₂ (λ (x y : F). (x, y)) same values in
        goes.different i j l m (different (goes.chosen i) (goes.chosen j) (goes.inside i l) (goes.inside j m) both)

    roots : (i : ℕ) → i < t → HasRoot R s (substituted R q f) (points (goes.chosen i)).0
    roots i l =
        divided_along R field q (w + 1) s f (points (goes.chosen i)).0 below
        (subst (λ y. HasMultiplicity R s q (points (goes.chosen i)).0 y) (sym (goes.through i l)) (zeros (goes.chosen i) (goes.inside i l)))

    pub is_root : (k : ℕ) → substituted R q f k ≡ R.nil
    is_root k = no_lead (substituted R q f) e (substituted_below R w e q f light shorter) too_many k (omega arith)
      where
        shorter : IsBelow R (suc w) f
        shorter = λ k l. below k (omega (arith, l))

        too_many : (d : ℕ) → d < e → IsBelow R (d + 1) (substituted R q f) → substituted R q f d ≢ R.nil → ⊥
        too_many d l bound lead =
            let most = few R (domain R field) d t (λ i. s) (λ i. (points (goes.chosen i)).0) (substituted R q f) bound lead apart roots in
            omega (arith, most, total_same t s, l, enough)
