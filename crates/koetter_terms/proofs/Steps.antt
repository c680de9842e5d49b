-- What a step keeps, and what it gains.
use Rattle.std.proofs.Common.{◌≡◌, ◌⊎◌, inl, inr, ℕ, zero, suc, ◌+◌, ◌*◌, ◌<◌, ◌≤◌, List, length, get_or, refl, ◌∙◌, sym, ap, ap₂, arith}
use Rattle.std.proofs.lemmas.Bool.{cases_lt}
use Rattle.algebra.specs.Lists.{coefficients}
use Rattle.algebra.specs.Ring.{Ring}
use Rattle.algebra.specs.Series.{IsBelow}
use Rattle.algebra.proofs.CoefficientLists.{coefficients_below}
use Rattle.algebra.proofs.Division.{linear_first, linear_next}
use Rattle.algebra.proofs.RingLaws.{nil_times, plus_nil, ring, times_nil}
use Rattle.term_lists.specs.declared.exponents.Exponents.{Exponents}
use Rattle.term_lists.specs.Places.{AreTermsBelow, exponents_at, place}
use Rattle.term_lists.proofs.Ordered.{place_below}
use Rattle.koetter_terms.specs.Curves.{AreQuotients, EndsAt, IsRaised, IsSum, IsTile, curve}
use Rattle.koetter_terms.specs.Derivatives.{derivative_at, plus_multiple, times_linear}
use Rattle.koetter_terms.specs.State.{Conditions, IsKept, Meets}
use Rattle.koetter_terms.proofs.Derivatives.{at_first, at_next, at_same, at_sum}
use Rattle.koetter_terms.proofs.Places.{place_from, place_up}

module _ {F : Type 0} (R : Ring F) where
  infixl 60 ◌⊕◌
  infixl 70 ◌⊗◌
  open R use {nil, unit, plus as ◌⊕◌, times as ◌⊗◌}

  -- a list ends with the terms of its last weight
  pub past_weight : (w : ℕ) → 1 ≤ w → (a j e : ℕ) (coefs : List F) → EndsAt R w a j coefs → a + w * j < e → (i k : ℕ) → e ≤ i + w * k → curve R w coefs i k ≡ nil
  past_weight w some a j e coefs ends l i k m = ends (place w i k) (omega (arith, place_below w e a j some l, place_from w some e i k m))

  -- the list of (x + c) q
  module _ (w e : ℕ) (some : 1 ≤ w) (quotients : List ℕ) (are : AreQuotients w e quotients) (c : F) (old new : List F)
      (old_long : length old ≡ length quotients) (new_long : length new ≡ length quotients) (raised : IsRaised R quotients c old new) where
    outside : (i k : ℕ) → e ≤ i + w * k → curve R w new i k ≡ nil
    outside i k m = coefficients_below R new (place w i k) (omega (arith, place_from w some e i k m, new_long, are.count))

    inside : (i k : ℕ) → i + w * k < e → place w i k < length quotients
    inside i k l = omega (arith, place_below w e i k some l, are.count)

    pub raised_next : (i k : ℕ) → suc i + w * k < e → curve R w new (suc i) k ≡ curve R w old i k ⊕ c ⊗ curve R w old (suc i) k
    raised_next i k l = raised (place w (suc i) k) (inside (suc i) k l) ∙ ap (λ n. coefficients R old n ⊕ c ⊗ curve R w old (suc i) k) (are.divided i k l)

    pub raised_first : (k : ℕ) → w * k < e → curve R w new 0 k ≡ c ⊗ curve R w old 0 k
    raised_first k l =
        let none : coefficients R old (get_or quotients (place w 0 k) 0) ≡ nil = coefficients_below R old (get_or quotients (place w 0 k) 0) (omega (arith, are.others k l, are.count, old_long)) in
        raised (place w 0 k) (inside 0 k (omega (arith, l))) ∙ ap (λ t. t ⊕ c ⊗ curve R w old 0 k) none ∙ R.plus_nil (c ⊗ curve R w old 0 k)

    module _ (a j : ℕ) (ends : EndsAt R w a j old) (light : suc a + w * j < e) where
      past : (i k : ℕ) → e ≤ suc i + w * k → curve R w old i k ≡ nil
      past i k m = past_weight w some a j (suc (a + w * j)) old ends (omega arith) i k (omega (arith, m, light))

      pub raised_curve : (i k : ℕ) → curve R w new i k ≡ times_linear R c (curve R w old) i k
      raised_curve zero k = by_order (cases_lt (w * k) e)
        where
          by_order : (w * k < e) ⊎ (e ≤ w * k) → curve R w new 0 k ≡ times_linear R c (curve R w old) 0 k
          by_order (inl less) = raised_first k less ∙ sym (linear_first R c (λ h. curve R w old h k))
          by_order (inr most) =
              outside 0 k (omega (arith, most))
              ∙ sym (linear_first R c (λ h. curve R w old h k) ∙ ap (λ t. c ⊗ t) (past 0 k (omega (arith, most))) ∙ times_nil R c)
      raised_curve (suc i) k = by_order (cases_lt (suc i + w * k) e)
        where
          by_order : (suc i + w * k < e) ⊎ (e ≤ suc i + w * k) → curve R w new (suc i) k ≡ times_linear R c (curve R w old) (suc i) k
          by_order (inl less) = raised_next i k less ∙ sym (linear_next R c (λ h. curve R w old h k) i)
          by_order (inr most) =
              outside (suc i) k most
              ∙ sym (linear_next R c (λ h. curve R w old h k) i ∙ ap₂ (λ (t z : F). t ⊕ c ⊗ z) (past i k most) (past (suc i) k (omega (arith, most))) ∙ simp ring)

      pub lead_raised : curve R w new (suc a) j ≡ curve R w old a j
      lead_raised =
          let less : place w a j < place w (suc a) j = later in
          raised_next a j light ∙ ap (λ t. curve R w old a j ⊕ c ⊗ t) (ends (place w (suc a) j) less) ∙ ap (λ t. curve R w old a j ⊕ t) (times_nil R c) ∙ plus_nil R (curve R w old a j)
        where
          later : place w a j < place w (suc a) j
          later = let below = place_below w (suc a + w * j) a j some (omega arith) in omega (arith, below)

      -- the list ends one power of x later
      pub ends_raised : (terms : List Exponents) → AreTermsBelow w e terms → EndsAt R w (suc a) j new
      ends_raised terms below k l = by_order (cases_lt k (length terms))
        where
          at_term : (x y : ℕ) → place w x y ≡ k → x + w * y < e → coefficients R new k ≡ nil
          at_term zero y is m =
              ap (coefficients R new) (sym is) ∙ raised_first y (omega (arith, m))
              ∙ ap (λ t. c ⊗ t) (ends (place w 0 y) (omega (arith, is, l, next)))
              ∙ times_nil R c
            where
              next : place w a j ≤ place w (suc a) j
              next = let later = place_below w (suc a + w * j) a j some (omega arith) in omega (arith, later)
          at_term (suc x) y is m =
              ap (coefficients R new) (sym is) ∙ raised_next x y m
              ∙ ap₂ (λ (t z : F). t ⊕ c ⊗ z) (ends (place w x y) (before (cases_lt (place w a j) (place w x y)))) (ends (place w (suc x) y) (omega (arith, is, l, next)))
              ∙ simp ring
            where
              next : place w a j ≤ place w (suc a) j
              next = let later = place_below w (suc a + w * j) a j some (omega arith) in omega (arith, later)

              before : (place w a j < place w x y) ⊎ (place w x y ≤ place w a j) → place w a j < place w x y
              before (inl less) = less
              before (inr most) = absurd (omega (arith, place_up w some a j x y most, is, l))

          by_order : (k < length terms) ⊎ (length terms ≤ k) → coefficients R new k ≡ nil
          by_order (inl less) = at_term (exponents_at terms k).x (exponents_at terms k).y (below.placed k less) (below.light k less)
          by_order (inr most) = coefficients_below R new k (omega (arith, most, below.count, new_long, are.count))

  module _ (w e n s : ℕ) (some : 1 ≤ w) (met : Conditions F) (a b : F) where
    -- a multiple of a curve that comes before, added to a curve
    pub kept_sum : (j exponent l least : ℕ) (x : F) (old tile pivot square new made : List F) → IsKept R w e n s met a b j exponent old tile → IsKept R w e n s met a b l least pivot square
        → EndsAt R w least l pivot → (x ≡ nil) ⊎ (place w least l < place w exponent j) → IsSum R x pivot old new → IsSum R x square tile made → IsKept R w e n s met a b j exponent new made
    kept_sum j exponent l least x old tile pivot square new made is other ends order sum tiles = record {
      lead = λ z. is.lead (sym (sum (place w exponent j) ∙ nothing order) ∙ z);
      tiled = λ u v m.
          tiles (place 1 u v)
          ∙ ap₂ (λ (t z : F). t ⊕ x ⊗ z) (is.tiled u v m) (other.tiled u v m)
          ∙ sym (derivatives a b u v);
      meets = λ c d u v m. derivatives c d u v ∙ ap₂ (λ (t z : F). t ⊕ x ⊗ z) (is.meets c d u v m) (other.meets c d u v m) ∙ simp ring;
    }
      where
        derivatives : (c d : F) (u v : ℕ) → derivative_at R e n (curve R w new) c d u v ≡ derivative_at R e n (curve R w old) c d u v ⊕ x ⊗ derivative_at R e n (curve R w pivot) c d u v
        derivatives c d u v =
            at_same R e n (curve R w new) (plus_multiple R (curve R w old) x (curve R w pivot)) c d u v (λ i k. sum (place w i k))
            ∙ at_sum R e n x (curve R w old) (curve R w pivot) c d u v

        nothing : (x ≡ nil) ⊎ (place w least l < place w exponent j) → curve R w old exponent j ⊕ x ⊗ curve R w pivot exponent j ≡ curve R w old exponent j
        nothing (inl none) = ap (λ t. curve R w old exponent j ⊕ t ⊗ curve R w pivot exponent j) none ∙ simp ring
        nothing (inr less) = ap (λ t. curve R w old exponent j ⊕ x ⊗ t) (ends (place w exponent j) less) ∙ simp ring

    -- and where the factor is chosen for it one derivative is zero
    pub met_sum : (u v : ℕ) (inverse : F) (old pivot new : List F) → derivative_at R e n (curve R w pivot) a b u v ⊗ inverse ≡ unit
        → IsSum R (derivative_at R e n (curve R w old) a b u v ⊗ inverse) pivot old new → derivative_at R e n (curve R w new) a b u v ≡ nil
    met_sum u v inverse old pivot new is sum =
        let q : F = derivative_at R e n (curve R w old) a b u v in
        let p : F = derivative_at R e n (curve R w pivot) a b u v in
        let swapped : q ⊗ inverse ⊗ p ≡ q ⊗ (p ⊗ inverse) = simp ring in
        at_same R e n (curve R w new) (plus_multiple R (curve R w old) (q ⊗ inverse) (curve R w pivot)) a b u v (λ i k. sum (place w i k))
        ∙ at_sum R e n (q ⊗ inverse) (curve R w old) (curve R w pivot) a b u v
        ∙ ap (λ t. q ⊕ t) (swapped ∙ ap (λ t. q ⊗ t) is ∙ R.times_comm q unit ∙ R.times_unit q)
        ∙ R.plus_self q

    -- a curve that is multiplied by x + a
    module _ (quotients shifts : List ℕ) (are : AreQuotients w e quotients) (shifted : AreQuotients 1 s shifts) (j exponent : ℕ) (old tile new made : List F) (is : IsKept R w e n s met a b j exponent old tile)
        (ends : EndsAt R w exponent j old) (light : suc exponent + w * j < e) (old_long : length old ≡ length quotients) (new_long : length new ≡ length quotients) (raised : IsRaised R quotients a old new)
        (tile_long : length tile ≡ length shifts) (made_long : length made ≡ length shifts) (turned : IsRaised R shifts nil tile made) where
      product_is : (i k : ℕ) → curve R w new i k ≡ times_linear R a (curve R w old) i k
      product_is = raised_curve w e some quotients are a old new old_long new_long raised exponent j ends light

      below : (k : ℕ) → IsBelow R e (λ i. curve R w old i k)
      below k i l = past_weight w some exponent j e old ends (omega (arith, light)) i k (omega (arith, l))

      room : (k : ℕ) → IsBelow R e (λ i. times_linear R a (curve R w old) i k)
      room k i l = sym (product_is i k) ∙ coefficients_below R new (place w i k) (omega (arith, place_from w some e i k (omega (arith, l)), new_long, are.count))

      first : (c d : F) (v : ℕ) → derivative_at R e n (curve R w new) c d 0 v ≡ (a ⊕ c) ⊗ derivative_at R e n (curve R w old) c d 0 v
      first c d v = at_same R e n (curve R w new) (times_linear R a (curve R w old)) c d 0 v product_is ∙ at_first R e n a (curve R w old) below room c d v

      next : (c d : F) (u v : ℕ) → derivative_at R e n (curve R w new) c d (suc u) v ≡ derivative_at R e n (curve R w old) c d u v ⊕ (a ⊕ c) ⊗ derivative_at R e n (curve R w old) c d (suc u) v
      next c d u v = at_same R e n (curve R w new) (times_linear R a (curve R w old)) c d (suc u) v product_is ∙ at_next R e n a (curve R w old) below room c d u v

      here_first : (v : ℕ) → derivative_at R e n (curve R w new) a b 0 v ≡ nil
      here_first v = first a b v ∙ ap (λ t. t ⊗ derivative_at R e n (curve R w old) a b 0 v) (R.plus_self a) ∙ nil_times R (derivative_at R e n (curve R w old) a b 0 v)

      here_next : (u v : ℕ) → derivative_at R e n (curve R w new) a b (suc u) v ≡ derivative_at R e n (curve R w old) a b u v
      here_next u v = next a b u v ∙ ap (λ t. derivative_at R e n (curve R w old) a b u v ⊕ t ⊗ derivative_at R e n (curve R w old) a b (suc u) v) (R.plus_self a) ∙ simp ring

      pub met_raised : (u v : ℕ) → ((t : ℕ) → suc t ≡ u → met a b t v) → derivative_at R e n (curve R w new) a b u v ≡ nil
      met_raised zero v lower = here_first v
      met_raised (suc u) v lower = here_next u v ∙ is.meets a b u v (lower u refl)

      pub kept_raised : ((c d : F) (h k : ℕ) → met c d (suc h) k → met c d h k) → IsKept R w e n s met a b j (suc exponent) new made
      kept_raised lower = record {
        lead = λ z. is.lead (sym (lead_raised w e some quotients are a old new old_long new_long raised exponent j ends light) ∙ z);
        tiled = tiles;
        meets = meets;
      }
        where
          tiles : IsTile R e n s (curve R w new) a b made
          tiles zero v l =
              raised_first 1 s (omega arith) shifts shifted nil tile made tile_long made_long turned v (omega (arith, l))
              ∙ nil_times R (curve R 1 tile 0 v)
              ∙ sym (here_first v)
          tiles (suc u) v l =
              let moved : curve R 1 tile u v ⊕ nil ⊗ curve R 1 tile (suc u) v ≡ curve R 1 tile u v = simp ring in
              raised_next 1 s (omega arith) shifts shifted nil tile made tile_long made_long turned u v (omega (arith, l))
              ∙ moved
              ∙ is.tiled u v (omega (arith, l))
              ∙ sym (here_next u v)

          meets : Meets R w e n s met (curve R w new)
          meets c d zero v m = first c d v ∙ ap (λ t. (a ⊕ c) ⊗ t) (is.meets c d 0 v m) ∙ times_nil R (a ⊕ c)
          meets c d (suc u) v m = next c d u v ∙ ap₂ (λ (t z : F). t ⊕ (a ⊕ c) ⊗ z) (is.meets c d u v (lower c d u v m)) (is.meets c d (suc u) v m) ∙ simp ring

    -- a condition that a kept curve meets too
    pub kept_more : (more : Conditions F) (u v j exponent : ℕ) (coefs tile : List F) → IsKept R w e n s met a b j exponent coefs tile → derivative_at R e n (curve R w coefs) a b u v ≡ nil
        → ((c d : F) (h k : ℕ) → more c d h k → met c d h k ⊎ ((c ≡ a) × (d ≡ b) × (h ≡ u) × (k ≡ v))) → IsKept R w e n s more a b j exponent coefs tile
    kept_more more u v j exponent coefs tile is zero_here added = record {
      lead = is.lead;
      tiled = is.tiled;
      meets = λ c d h k m. by_case c d h k (added c d h k m);
    }
      where
        by_case : (c d : F) (h k : ℕ) → met c d h k ⊎ ((c ≡ a) × (d ≡ b) × (h ≡ u) × (k ≡ v)) → derivative_at R e n (curve R w coefs) c d h k ≡ nil
        by_case c d h k (inl old) = is.meets c d h k old
        by_case c d h k (inr new) =
            ap₂ (λ (x y : F). derivative_at R e n (curve R w coefs) x y h k) new.0 new.1
            ∙ ap₂ (λ (x y : ℕ). derivative_at R e n (curve R w coefs) a b x y) new.2 new.3
            ∙ zero_here
