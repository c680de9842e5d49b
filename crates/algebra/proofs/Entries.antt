-- A polynomial in two variables by the entries of its map: sums over them, and the greatest weight of one.
use Rattle.std.proofs.Common.{◌≡◌, ◌≢◌, inl, inr, ◌⊎◌, ℕ, ◌+◌, ◌<◌, ◌≤◌, List, [], ◌∷◌, length, refl, sym, ◌∙◌, ap, ap₂, subst, arith}
use Rattle.std.specs.Prelude.{Bool, true, false, cond, ◌&&◌, T, max, None, Some, is_some}
use Rattle.std.specs.Option.{unwrap_or}
use Rattle.std.specs.Ordering.{nat_cmp, eq_by_cmp, is_eq, is_lt}
use Rattle.std.specs.declared.cmp.Ordering.{Ordering}
use Rattle.std.specs.declared.cmp.Ordering.TheVariants.{Less, Equal, Greater}
use Rattle.std.specs.Cmp.{IsTotalOrder, on_total, then_total, nat_cmp_total, tied_itself}
use Rattle.std.specs.FinMap.{IsAntisymmetric, get, empty, entries, entries_sorted, get-entries, len-entries, empty_of_len, find, is_sorted}
use Rattle.std.specs.FinMap.Entries.{below_all}
use Rattle.std.proofs.lemmas.Bool.{cases_lt}
use Rattle.std.proofs.lemmas.Map.Lookups.{exact_pairs, exact_unsigned}
use Rattle.algebra.specs.Ring.{Ring}
use Rattle.algebra.specs.Sums.{sum_below}
use Rattle.algebra.specs.Bivariate.{pair_cmp, Bivariate, greatest_of, greatest, x_power, y_power, IsWithin, coefficient, sum_of, sum_terms}
use Rattle.algebra.proofs.RingLaws.{plus_nil}
use Rattle.algebra.proofs.Sums.{sum_same, sum_plus, sum_zero, sum_only}

-- the keys of a polynomial are in order
pub pair_total : IsTotalOrder pair_cmp
pair_total = then_total {K = ℕ × ℕ} (on_total (λ p. p.0) nat_cmp_total) (on_total (λ p. p.1) nat_cmp_total)

-- and keys that tie are equal
pub pair_same : IsAntisymmetric pair_cmp
pair_same = exact_pairs nat_cmp nat_cmp exact_unsigned exact_unsigned

less : (r : Ordering) → T (is_lt r) → r ≡ Less
less Less h = refl
less Equal h = absurd h
less Greater h = absurd h

tied : (r : Ordering) → is_eq r ≡ true → r ≡ Equal
tied Less h = absurd (subst T (sym h) tt)
tied Equal h = refl
tied Greater h = absurd (subst T (sym h) tt)

first : (a b : Bool) → T (a && b) → T a
first true b h = tt
first false b h = h

second : (a b : Bool) → T (a && b) → T b
second true b h = h
second false b h = absurd h

-- a key that is below all others is not among them
find_past : {X : Type 0} (q k : ℕ × ℕ) (es : List ((ℕ × ℕ) × X)) → pair_cmp q k ≡ Equal → T (below_all pair_cmp k es) → find pair_cmp q es ≡ None
find_past q k [] t h = refl
find_past q k (e ∷ es) t h =
    ap (λ r. cond (is_eq r) (Some e.1) (find pair_cmp q es)) (pair_total.congr q k e.0 t ∙ less (pair_cmp k e.0) (first (is_lt (pair_cmp k e.0)) (below_all pair_cmp k es) h))
    ∙ find_past q k es t (second (is_lt (pair_cmp k e.0)) (below_all pair_cmp k es) h)

not_none : {X : Type 0} (x : X) → Some x ≢ None
not_none x e = subst T (ap is_some e) tt

-- the first entry is found
find_first : {X : Type 0} (e : (ℕ × ℕ) × X) (es : List ((ℕ × ℕ) × X)) → find pair_cmp e.0 (e ∷ es) ≢ None
find_first e es n = not_none e.1 (sym (ap (λ r. cond (is_eq r) (Some e.1) (find pair_cmp e.0 es)) (tied_itself pair_total e.0)) ∙ n)

-- and so is each of the others
find_later : {X : Type 0} (q : ℕ × ℕ) (e : (ℕ × ℕ) × X) (es : List ((ℕ × ℕ) × X)) → find pair_cmp q es ≢ None → find pair_cmp q (e ∷ es) ≢ None
find_later q e es n =
    elim (eq_by_cmp pair_cmp q e.0) as (λ b. cond b (Some e.1) (find pair_cmp q es) ≢ None) [ true ↦ not_none e.1 | false ↦ n ]

-- a polynomial has no coefficients outside of its bounds
pub coefficient_past : {F : Type 0} (R : Ring F) (m d : ℕ) (q : Bivariate F) → IsWithin m d q → (i j : ℕ) → (m ≤ i) ⊎ (d ≤ j) → coefficient R q i j ≡ R.nil
coefficient_past {F} R m d q w i j past =
    elim (get q (i, j)) as (λ o. (o ≢ None → (i < m) × (j < d)) → unwrap_or o R.nil ≡ R.nil) [
      | None ↦ λ h. refl
      | Some x ↦ λ h.
          let inside : (i < m) × (j < d) = h (not_none x) in
          elim past [ inl l ↦ absurd (omega arith) | inr l ↦ absurd (omega arith) ]
    ] (w i j)

-- the sum of all terms is the sum over a rectangle in which the entries lie
module _ {F : Type 0} (R : Ring F) (term : ℕ → ℕ → F → F) (additive : (i j : ℕ) (x y : F) → term i j (R.plus x y) ≡ R.plus (term i j x) (term i j y)) where
  infixl 60 ◌⊕◌
  open R use {nil, plus as ◌⊕◌}

  sum_of_none : sum_of R term [] ≡ nil
  unfolding sum_of
  sum_of_none = refl

  sum_of_next : (e : (ℕ × ℕ) × F) (es : List ((ℕ × ℕ) × F)) → sum_of R term (e ∷ es) ≡ term e.0.0 e.0.1 e.1 ⊕ sum_of R term es
  unfolding sum_of
  sum_of_next e es = refl

  -- a term is its own sum with itself where the coefficient is zero
  pub term_nil : (i j : ℕ) → term i j nil ≡ nil
  term_nil i j = sym (ap (λ t. term i j t) (R.plus_self nil)) ∙ additive i j nil nil ∙ R.plus_self (term i j nil)

  -- the term of the first entry alone
  single : (ℕ × ℕ) × F → ℕ → ℕ → F
  single e i j = cond (eq_by_cmp pair_cmp (i, j) e.0) (term i j e.1) nil

  single_there : (e : (ℕ × ℕ) × F) → single e e.0.0 e.0.1 ≡ term e.0.0 e.0.1 e.1
  unfolding single
  single_there e = ap (λ r. cond (is_eq r) (term e.0.0 e.0.1 e.1) nil) (tied_itself pair_total e.0)

  single_else : (e : (ℕ × ℕ) × F) (i j : ℕ) → (i ≡ e.0.0 → j ≡ e.0.1 → ⊥) → single e i j ≡ nil
  unfolding single
  single_else e i j n =
      elim (eq_by_cmp pair_cmp (i, j) e.0) as (λ b. eq_by_cmp pair_cmp (i, j) e.0 ≡ b → cond b (term i j e.1) nil ≡ nil) [
        | true ↦ λ t.
            let same : (i, j) ≡ e.0 = pair_same (i, j) e.0 (tied (pair_cmp (i, j) e.0) t) in
            absurd (n (ap (λ (p : ℕ × ℕ). p.0) same) (ap (λ (p : ℕ × ℕ). p.1) same))
        | false ↦ λ t. refl
      ] refl

  single_sum : (m d : ℕ) (e : (ℕ × ℕ) × F) → e.0.0 < m → e.0.1 < d
      → sum_below R m (λ i. sum_below R d (λ j. single e i j)) ≡ term e.0.0 e.0.1 e.1
  single_sum m d e l k =
      sum_only R m e.0.0 (λ i. sum_below R d (λ j. single e i j)) l (λ i _ o. sum_zero R d (λ j. single e i j) (λ j _. single_else e i j (λ p _. o p)))
      ∙ sum_only R d e.0.1 (λ j. single e e.0.0 j) k (λ j _ o. single_else e e.0.0 j (λ _ p. o p))
      ∙ single_there e

  -- what the list gives at a place, by its first entry and the others
  split_first : (e : (ℕ × ℕ) × F) (es : List ((ℕ × ℕ) × F)) → T (below_all pair_cmp e.0 es) → (i j : ℕ)
      → term i j (unwrap_or (find pair_cmp (i, j) (e ∷ es)) nil) ≡ single e i j ⊕ term i j (unwrap_or (find pair_cmp (i, j) es) nil)
  unfolding single
  split_first e es h i j =
      elim (eq_by_cmp pair_cmp (i, j) e.0) as (λ b. eq_by_cmp pair_cmp (i, j) e.0 ≡ b
      → term i j (unwrap_or (cond b (Some e.1) (find pair_cmp (i, j) es)) nil) ≡ cond b (term i j e.1) nil ⊕ term i j (unwrap_or (find pair_cmp (i, j) es) nil)) [
        | true ↦ λ t.
            let past : find pair_cmp (i, j) es ≡ None = find_past (i, j) e.0 es (tied (pair_cmp (i, j) e.0) t) h in
            sym (plus_nil R (term i j e.1))
            ∙ ap (λ s. term i j e.1 ⊕ s) (sym (term_nil i j))
            ∙ ap (λ o. term i j e.1 ⊕ term i j (unwrap_or o nil)) (sym past)
        | false ↦ λ t. sym (R.plus_nil (term i j (unwrap_or (find pair_cmp (i, j) es) nil)))
      ] refl

  list_sum : (m d : ℕ) (es : List ((ℕ × ℕ) × F)) → T (is_sorted pair_cmp es) → ((i j : ℕ) → find pair_cmp (i, j) es ≢ None → (i < m) × (j < d))
      → sum_of R term es ≡ sum_below R m (λ i. sum_below R d (λ j. term i j (unwrap_or (find pair_cmp (i, j) es) nil)))
  list_sum m d [] h w =
      sum_of_none
      ∙ sym (sum_zero R m (λ i. sum_below R d (λ j. term i j nil)) (λ i _. sum_zero R d (λ j. term i j nil) (λ j _. term_nil i j)))
  list_sum m d (e ∷ es) h w =
      let here : (e.0.0 < m) × (e.0.1 < d) = w e.0.0 e.0.1 (find_first e es) in
      let rest : sum_of R term es ≡ sum_below R m (λ i. sum_below R d (λ j. term i j (unwrap_or (find pair_cmp (i, j) es) nil))) =
      list_sum m d es (second (below_all pair_cmp e.0 es) (is_sorted pair_cmp es) h) (λ i j n. w i j (find_later (i, j) e es n)) in
      let parts = split_first e es (first (below_all pair_cmp e.0 es) (is_sorted pair_cmp es) h) in
      sum_of_next e es
      ∙ ap₂ (λ (s t : F). s ⊕ t) (sym (single_sum m d e here.0 here.1)) rest
      ∙ sym (sum_plus R m (λ i. sum_below R d (λ j. single e i j)) (λ i. sum_below R d (λ j. term i j (unwrap_or (find pair_cmp (i, j) es) nil))))
      ∙ sym (sum_same R m (λ i. sum_below R d (λ j. term i j (unwrap_or (find pair_cmp (i, j) (e ∷ es)) nil)))
      (λ i. sum_below R d (λ j. single e i j) ⊕ sum_below R d (λ j. term i j (unwrap_or (find pair_cmp (i, j) es) nil)))
      (λ i _. sum_same R d (λ j. term i j (unwrap_or (find pair_cmp (i, j) (e ∷ es)) nil)) (λ j. single e i j ⊕ term i j (unwrap_or (find pair_cmp (i, j) es) nil)) (λ j _. parts i j)
      ∙ sum_plus R d (λ j. single e i j) (λ j. term i j (unwrap_or (find pair_cmp (i, j) es) nil))))

  pub terms_sum : (m d : ℕ) (q : Bivariate F) → IsWithin m d q → sum_terms R term q ≡ sum_below R m (λ i. sum_below R d (λ j. term i j (coefficient R q i j)))
  terms_sum m d q w =
      let found : (i j : ℕ) → get q (i, j) ≡ find pair_cmp (i, j) (entries q) = λ i j. get-entries q (i, j) in
      list_sum m d (entries q) (entries_sorted q) (λ i j n. w i j (λ e. n (sym (found i j) ∙ e)))
      ∙ sum_same R m (λ i. sum_below R d (λ j. term i j (unwrap_or (find pair_cmp (i, j) (entries q)) nil))) (λ i. sum_below R d (λ j. term i j (coefficient R q i j)))
      (λ i _. sum_same R d (λ j. term i j (unwrap_or (find pair_cmp (i, j) (entries q)) nil)) (λ j. term i j (coefficient R q i j))
      (λ j _. ap (λ o. term i j (unwrap_or o nil)) (sym (found i j))))

greatest_none : (F : Type 0) (weigh : ℕ → ℕ → ℕ) → greatest_of {F = F} weigh [] ≡ 0
unfolding greatest_of
greatest_none F weigh = refl

-- the greatest weight of an entry
module _ {F : Type 0} (weigh : ℕ → ℕ → ℕ) where
  greatest_next : (e : (ℕ × ℕ) × F) (es : List ((ℕ × ℕ) × F)) → greatest_of weigh (e ∷ es) ≡ max (weigh e.0.0 e.0.1) (greatest_of weigh es)
  unfolding greatest_of
  greatest_next e es = refl

  list_at : (i j : ℕ) (es : List ((ℕ × ℕ) × F)) → find pair_cmp (i, j) es ≢ None → weigh i j ≤ greatest_of weigh es
  list_at i j [] n = absurd (n refl)
  list_at i j (e ∷ es) n =
      let next : greatest_of weigh (e ∷ es) ≡ max (weigh e.0.0 e.0.1) (greatest_of weigh es) = greatest_next e es in
      elim (eq_by_cmp pair_cmp (i, j) e.0) as (λ b. eq_by_cmp pair_cmp (i, j) e.0 ≡ b → cond b (Some e.1) (find pair_cmp (i, j) es) ≢ None → weigh i j ≤ greatest_of weigh (e ∷ es)) [
        | true ↦ λ t _.
            let same : weigh i j ≡ weigh e.0.0 e.0.1 = ap (λ (p : ℕ × ℕ). weigh p.0 p.1) (pair_same (i, j) e.0 (tied (pair_cmp (i, j) e.0) t)) in
            omega arith
        | false ↦ λ t o. let rest : weigh i j ≤ greatest_of weigh es = list_at i j es o in omega arith
      ] refl n

  list_least : (d : ℕ) (es : List ((ℕ × ℕ) × F)) → ((i j : ℕ) → find pair_cmp (i, j) es ≢ None → weigh i j ≤ d) → greatest_of weigh es ≤ d
  list_least d [] h = let none : greatest_of {F = F} weigh [] ≡ 0 = greatest_none F weigh in omega arith
  list_least d (e ∷ es) h =
      let next : greatest_of weigh (e ∷ es) ≡ max (weigh e.0.0 e.0.1) (greatest_of weigh es) = greatest_next e es in
      let here : weigh e.0.0 e.0.1 ≤ d = h e.0.0 e.0.1 (find_first e es) in
      let rest : greatest_of weigh es ≤ d = list_least d es (λ i j n. h i j (find_later (i, j) e es n)) in
      omega arith

  list_reached : (e : (ℕ × ℕ) × F) (es : List ((ℕ × ℕ) × F)) → (i : ℕ) × (j : ℕ) × (find pair_cmp (i, j) (e ∷ es) ≢ None) × (weigh i j ≡ greatest_of weigh (e ∷ es))
  list_reached e [] =
      let next : greatest_of weigh (e ∷ []) ≡ max (weigh e.0.0 e.0.1) (greatest_of {F = F} weigh []) = greatest_next e [] in
      let none : greatest_of {F = F} weigh [] ≡ 0 = greatest_none F weigh in
      (e.0.0, e.0.1, find_first e [], omega arith)
  list_reached e (f ∷ es) =
      let next : greatest_of weigh (e ∷ f ∷ es) ≡ max (weigh e.0.0 e.0.1) (greatest_of weigh (f ∷ es)) = greatest_next e (f ∷ es) in
      let rest = list_reached f es in
      let same : weigh rest.0 rest.1 ≡ greatest_of weigh (f ∷ es) = rest.3 in
      elim (cases_lt (weigh e.0.0 e.0.1) (greatest_of weigh (f ∷ es))) [
        | inl l ↦ (rest.0, rest.1, find_later (rest.0, rest.1) e (f ∷ es) rest.2, omega arith)
        | inr l ↦ (e.0.0, e.0.1, find_first e (f ∷ es), omega arith)
      ]

  -- no entry weighs more
  pub greatest_at : (q : Bivariate F) (i j : ℕ) → get q (i, j) ≢ None → weigh i j ≤ greatest weigh q
  greatest_at q i j n = list_at i j (entries q) (λ e. n (get-entries q (i, j) ∙ e))

  -- and what no entry weighs more than is at least the greatest weight
  pub greatest_least : (q : Bivariate F) (d : ℕ) → ((i j : ℕ) → get q (i, j) ≢ None → weigh i j ≤ d) → greatest weigh q ≤ d
  greatest_least q d h = list_least d (entries q) (λ i j n. h i j (λ e. n (sym (get-entries q (i, j)) ∙ e)))

  -- which an entry has, unless there is none
  pub greatest_reached : (q : Bivariate F) → q ≢ empty → (i : ℕ) × (j : ℕ) × (get q (i, j) ≢ None) × (weigh i j ≡ greatest weigh q)
  greatest_reached q n = reached (entries q) refl
    where
      reached : (es : List ((ℕ × ℕ) × F)) → entries q ≡ es → (i : ℕ) × (j : ℕ) × (get q (i, j) ≢ None) × (weigh i j ≡ greatest weigh q)
      reached [] e = absurd (n (empty_of_len q (len-entries q ∙ ap length e)))
      reached (f ∷ es) e =
          let found = list_reached f es in (
            found.0,
            found.1,
            (λ none. found.2 (sym (get-entries q (found.0, found.1) ∙ ap (find pair_cmp (found.0, found.1)) e) ∙ none)),
            found.3 ∙ sym (ap (greatest_of weigh) e),
          )

-- a polynomial lies within its own greatest powers
pub within : {F : Type 0} (q : Bivariate F) → IsWithin (greatest x_power q + 1) (greatest y_power q + 1) q
within q i j n =
    let x : i ≤ greatest x_power q = greatest_at x_power q i j n in
    let y : j ≤ greatest y_power q = greatest_at y_power q i j n in
    (omega arith, omega arith)
