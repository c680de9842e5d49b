-- A vector of the system's kernel is a curve.
use Rattle.std.proofs.Common.{◌≡◌, ◌≢◌, ◌⊎◌, inl, inr, ℕ, ◌+◌, ◌-◌, ◌*◌, ◌/◌, ◌%◌, ◌<◌, ◌≤◌, List, [], None, Some, Ok, Err, IsNone, length, get_or, refl, ◌∙◌, sym, ap, subst, arith}
use Rattle.std.proofs.lemmas.Bool.{cases_lt}
use Rattle.std.specs.FinMap.{empty, get-empty}
use Rattle.std.specs.List.{All}
use Rattle.std.specs.declared.result.Result.{Result}
use Rattle.std.specs.Result.{IfOk}
use Rattle.std.proofs.lemmas.List.{get_or_default}
use Rattle.std.specs.declared.option.Option.{Option}
use Rattle.std.specs.Option.{unwrap_or, IsSome}
use Rattle.std.proofs.lemmas.Nat.{mul-le}
use Rattle.std.proofs.Math.Nat.{div-add-mod, mod-lt, mul-le-mul_left, mul-le-mul_right, lt_of_mul-lt-mul_right}
use Rattle.algebra.specs.Ring.{Ring}
use Rattle.algebra.specs.Lists.{coefficients}
use Rattle.algebra.specs.Bivariate.{Bivariate, HasMultiplicity, coefficient, greatest, pair_cmp, weight_by}
use Rattle.algebra.proofs.Sums.{sum_same}
use Rattle.algebra.proofs.Entries.{greatest_least}
use Rattle.decoding_terms.specs.Parameters.{equation_count, term_count}
use Rattle.decoding_terms.proofs.Terms.{many}
use Rattle.linear_solve.specs.Tables.{HaveLength, entries}
use Rattle.system_terms.specs.Systems.{IsZero, Solves}
use Rattle.term_lists.specs.declared.exponents.Exponents.{Exponents}
use Rattle.term_lists.specs.Places.{AreTermsBelow, exponents_at, place}
use Rattle.term_lists.specs.Polynomials.{HasTerms, term_derivative}
use Rattle.term_lists.proofs.Ordered.{place_below}
use Rattle.term_lists.proofs.Orders.{orders_count}
use Rattle.gs_linear.specs.Equations.{HaveEquations, IsEquation, IsSolution, point_at}

pub some_equations : (r s : ℕ) → 1 ≤ r → 1 ≤ s → r ≤ equation_count r s
some_equations r s some_r some_s =
    let two : 2 ≤ s * (s + 1) = let all : 1 * 2 ≤ s * (s + 1) = mul-le 1 2 s (s + 1) some_s (omega (arith, some_s)) in omega (arith, all) in
    let all : r * 2 ≤ r * (s * (s + 1)) = mul-le-mul_left r two in
    omega (arith, all)

-- a curve is zero nowhere but where its weight is
module _ {F : Type 0} (R : Ring F) (terms orders : List Exponents) (points : List (F × F)) (rows : List (List F)) (w e s : ℕ) (below : AreTermsBelow w e terms) (all : AreTermsBelow 1 s orders)
    (have : HaveEquations R terms orders points (length points) rows) where
  pub row_count : length rows ≡ equation_count (length points) s
  row_count = have.count ∙ ap (λ n. length points * n) all.count ∙ orders_count (length points) s

  -- a row is that of a point and an order
  pub even : HaveLength (length terms) rows
  even i l = subst (λ n. length (get_or rows n []) ≡ length terms) whole (have.each (i / length orders) (i % length orders) below_points below_orders).count
    where
      some_orders : 1 ≤ length orders
      some_orders = by_order (cases_lt 0 (length orders))
        where
          by_order : (0 < length orders) ⊎ (length orders ≤ 0) → 1 ≤ length orders
          by_order (inl some) = some
          by_order (inr none) =
              let nothing : length orders ≡ 0 = omega (arith, none) in
              let no_rows : length points * length orders ≡ length points * 0 = ap (λ n. length points * n) nothing in
              absurd (omega (arith, no_rows, have.count, l))

      parts : length orders * (i / length orders) + i % length orders ≡ i
      parts = div-add-mod i (length orders)

      whole : i / length orders * length orders + i % length orders ≡ i
      whole = omega (arith, parts)

      below_orders : i % length orders < length orders
      below_orders = mod-lt i some_orders

      below_points : i / length orders < length points
      below_points =
          let less : i / length orders * length orders < length points * length orders = omega (arith, whole, have.count, l) in
          lt_of_mul-lt-mul_right (length orders) less

  module _ (vector : List F) (solves : Solves R (length rows) (length terms) (entries R rows) (coefficients R vector)) (q : Bivariate F) (has : HasTerms R terms vector (length terms) q) where
    -- a row that says that the derivative of one order is zero at one point
    row_at : (p u v : ℕ) → p < length points → u + v < s → (i : ℕ) × (i < length rows) × IsEquation R terms (point_at R points p).0 (point_at R points p).1 (record { x = u; y = v }) (get_or rows i [])
    row_at p u v l few =
        let light : u + 1 * v < s = omega (arith, few) in
        let order : place 1 u v < length orders = omega (arith, place_below 1 s u v (omega arith) light, all.count) in
        let more : (p + 1) * length orders ≤ length points * length orders = mul-le-mul_right (length orders) (omega (arith, l)) in (
          p * length orders + place 1 u v,
          omega (arith, more, order, have.count),
          subst (λ t. IsEquation R terms (point_at R points p).0 (point_at R points p).1 t (get_or rows (p * length orders + place 1 u v) [])) (all.every u v light) (have.each p (place 1 u v) l order),
        )

    pub multiplicity : (p : ℕ) → p < length points → HasMultiplicity R s q (point_at R points p).0 (point_at R points p).1
    multiplicity p l u v few =
        let row = row_at p u v l few in
        has.derivatives u v (point_at R points p).0 (point_at R points p).1
        ∙ sum_same R (length terms) (λ k. R.times (term_derivative R (point_at R points p).0 (point_at R points p).1 u v (exponents_at terms k)) (coefficients R vector k))
        (λ k. R.times (entries R rows row.0 k) (coefficients R vector k)) (λ k m. ap (λ t. R.times t (coefficients R vector k)) (sym (row.2.each k m)))
        ∙ solves row.0 row.1

    pub nonzero : (IsZero R (length terms) (coefficients R vector) → ⊥) → q ≢ empty
    nonzero some is = some (λ k l. sym (has.each k l) ∙ ap (λ (t : Bivariate F). coefficient R t (exponents_at terms k).x (exponents_at terms k).y) is ∙ ap (λ o. unwrap_or o R.nil) (get-empty pair_cmp ((exponents_at terms k).x, (exponents_at terms k).y)))

    pub light : 1 ≤ e → greatest (weight_by w) q < e
    light some =
        let most : greatest (weight_by w) q ≤ e - 1 = greatest_least (weight_by w) q (e - 1) (λ i j there. weighs i j (has.only i j there)) in
        omega (arith, most, some)
      where
        weighs : (i j : ℕ) → (k : ℕ) × (k < length terms) × (exponents_at terms k ≡ record { x = i; y = j }) → i + w * j ≤ e - 1
        weighs i j at =
            let less = below.light at.0 at.1 in
            let same : (exponents_at terms at.0).x + w * (exponents_at terms at.0).y ≡ i + w * j = ap (λ (t : Exponents). t.x + w * t.y) at.2 in
            omega (arith, less, same)

-- how many products the tables, the rows and the kernel take
pub filled : (r rows cols e l p n : ℕ) → 1 ≤ rows → r ≤ rows → e ≤ cols → r * l ≡ rows → p ≤ n + r * (2 * e + l * cols) → p ≤ n + 3 * (rows * rows) * cols
filled r rows cols e l p n some few low is spent =
    let tables : r * (2 * e) ≤ rows * (2 * cols) = mul-le r (2 * e) rows (2 * cols) few (omega (arith, low)) in
    let entries : r * l * cols ≡ rows * cols = ap (λ x. x * cols) is in
    let squares : 1 * (rows * cols) ≤ rows * (rows * cols) = mul-le 1 (rows * cols) rows (rows * cols) some (omega arith) in
    omega (arith, spent, tables, entries, squares)

-- and the kernel after that
pub both : (m k rows cols p q n : ℕ) → m ≡ rows → k ≡ cols → p ≤ n + 3 * (rows * rows) * cols → q ≤ p + 3 * (m * m) * k → q ≤ n + 16 * (rows * rows) * cols
both m k rows cols p q n m_is k_is before after =
    let same : m * m * k ≡ rows * rows * cols = ap (λ x. x * x * k) m_is ∙ ap (λ y. rows * rows * y) k_is in
    omega (arith, before, after, same)

pub filled_alone : (rows cols p n : ℕ) → p ≤ n + 3 * (rows * rows) * cols → p ≤ n + 16 * (rows * rows) * cols
filled_alone rows cols p n before = omega (arith, before)

pub not_large : (m k : ℕ) → m ≤ 8000 → k ≤ 16001 → m * k ≤ 150000000
not_large m k few_rows few_columns = let all : m * k ≤ 8000 * 16001 = mul-le m k 8000 16001 few_rows few_columns in omega (arith, all)

pub low_y : (w e : ℕ) (terms : List Exponents) → 1 ≤ w → AreTermsBelow w e terms → (k : ℕ) → k < length terms → (exponents_at terms k).y < e
low_y w e terms some below k l =
    let once : 1 * (exponents_at terms k).y ≤ w * (exponents_at terms k).y = mul-le-mul_right (exponents_at terms k).y some in
    omega (arith, once, below.light k l)

pub some_found : {X : Type 0} (o : Option X) → (IsNone o → ⊥) → IsSome o
some_found None h = absurd (h refl)
some_found (Some x) h = refl

-- the tables and the rows
pub before_kernel : (w r s e rows cols points orders terms p n : ℕ) → 1 ≤ w → 1 ≤ r → 1 ≤ s → rows ≡ equation_count r s → cols ≡ term_count w e → points ≡ r → orders ≡ term_count 1 s → terms ≡ term_count w e
    → p ≤ n + points * (2 * e + orders * terms) → p ≤ n + 3 * (rows * rows) * cols
before_kernel w r s e rows cols points orders terms p n some_w some_r some_s equations are_cols are_points are_orders are_terms spent =
    let low : e ≤ cols = omega (arith, many w e some_w, are_cols) in
    let each : r * orders ≡ rows = ap (λ n. r * n) are_orders ∙ orders_count r s ∙ sym equations in
    let few : r ≤ rows = omega (arith, some_equations r s some_r some_s, equations) in
    let spent : p ≤ n + r * (2 * e + orders * cols) = subst (λ k. p ≤ n + k * (2 * e + orders * cols)) are_points (subst (λ k. p ≤ n + points * (2 * e + orders * k)) (are_terms ∙ sym are_cols) spent) in
    filled r rows cols e orders p n (omega (arith, few, some_r)) few low each spent

-- what is promised of a curve
pub record IsFound {F : Type 0} (R : Ring F) (points : List (F × F)) (w e s : ℕ) (q : Bivariate F) : Type 0 where
  pub nonzero : q ≢ empty
  pub light : greatest (weight_by w) q < e
  pub multiplicity : All (λ p. HasMultiplicity R s q p.0 p.1) points

pub found : {F : Type 0} (R : Ring F) (terms orders : List Exponents) (points : List (F × F)) (w e s : ℕ) (vector list : List F) (q : Bivariate F) → AreTermsBelow w e terms → AreTermsBelow 1 s orders
    → 1 ≤ e → IsSolution R terms orders points vector → list ≡ vector → HasTerms R terms list (length list) q → IsFound R points w e s q
found R terms orders points w e s vector list q below all some solution same terms_of =
    let has : HasTerms R terms vector (length terms) q = subst (λ n. HasTerms R terms vector n q) solution.count (subst (λ t. HasTerms R terms t (length t) q) same terms_of) in
    record {
      nonzero = nonzero R terms orders points solution.rows w e s below all solution.are vector solution.solves q has solution.nonzero;
      light = light R terms orders points solution.rows w e s below all solution.are vector solution.solves q has some;
      multiplicity = λ p d l.
          subst (λ t. HasMultiplicity R s q t.0 t.1) (get_or_default points p (R.nil, R.nil) d l)
          (multiplicity R terms orders points solution.rows w e s below all solution.are vector solution.solves q has p l);
    }

pub ok_then : {T E : Type 0} (P Q : T → Type 0) (r : Result T E) → ((x : T) → P x → Q x) → IfOk r P → IfOk r Q
ok_then P Q (Ok x) f h = f x h
ok_then P Q (Err e) f h = tt
