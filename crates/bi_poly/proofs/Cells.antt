-- From rows of coefficients to the polynomial that they stand for.
use Rattle.std.proofs.Common.{◌≡◌, ◌≢◌, ◌⊎◌, inl, inr, ℕ, zero, suc, ◌+◌, ◌<◌, ◌==◌, if◌then◌else◌, Bool, true, false, cond, List, [], ◌∷◌, None, Some, get_or, set, length, refl, sym, ◌∙◌, ap, ap₂, subst, arith}
use Rattle.std.specs.declared.option.Option.{Option}
use Rattle.std.specs.Option.{unwrap_or}
use Rattle.std.specs.Ordering.{eq_by_cmp}
use Rattle.std.specs.FinMap.{get, find, empty, insert, remove, get-from_entries, get-insert, get-remove, same_map}
use Rattle.std.proofs.lemmas.Bool.{cases_lt, cases_eq}
use Rattle.std.proofs.lemmas.List.{get_or-set_same, get_or-set_other, length-set}
use Rattle.std.proofs.lemmas.Bool.Decides.{eqb_tells, nat_tests}
use Rattle.algebra.specs.Ring.{Ring}
use Rattle.algebra.specs.Lists.{coefficients}
use Rattle.algebra.specs.Bivariate.{Bivariate, pair_cmp, coefficient, IsProper, IsWithin}
use Rattle.algebra.proofs.Entries.{pair_total, pair_same}
use Rattle.bi_poly.specs.Rows.{cell, row_entries, entries_from, polynomial_of, AreLimited}
use Rattle.bi_poly.specs.Results.{kept, IsMapOf, with_coefficient}

pub keys_apart_y : (a b i j : ℕ) → b ≢ j → eq_by_cmp pair_cmp (a, b) (i, j) ≡ false
keys_apart_y a b i j h = grind (arith, nat_tests)

pub keys_apart_x : (a b i j : ℕ) → a ≢ i → eq_by_cmp pair_cmp (a, b) (i, j) ≡ false
keys_apart_x a b i j h = grind (arith, nat_tests)

pub keys_same : (a b i j : ℕ) → a ≡ i → b ≡ j → eq_by_cmp pair_cmp (a, b) (i, j) ≡ true
keys_same a b i j h k = grind (arith, nat_tests)

module _ {F : Type 0} (R : Ring F) (number : F → ℕ) (nil_is : number R.nil ≡ 0) (same : (x y : F) → number x ≡ number y → x ≡ y) where
  open R use {nil}

  pub kept_nil : kept number nil ≡ None
  kept_nil = ap (λ n. if n == 0 then None else Some nil) nil_is

  pub kept_some : (x : F) → x ≢ nil → kept number x ≡ Some x
  kept_some x h = elim (eqb_tells (number x) 0) [
    | inl e ↦ absurd (h (same x nil (e.1 ∙ sym nil_is)))
    | inr e ↦ ap (λ (t : Bool). if t then None else Some x) e.0
  ]

  pub unwrap_kept : (x : F) → unwrap_or (kept number x) nil ≡ x
  unwrap_kept x = elim (eqb_tells (number x) 0) [
    | inl e ↦ ap (λ (t : Bool). unwrap_or (if t then None else Some x) nil) e.0 ∙ same nil x (nil_is ∙ sym e.1)
    | inr e ↦ ap (λ (t : Bool). unwrap_or (if t then None else Some x) nil) e.0
  ]

  -- a row has no entry at another power of y
  skip_row : (j k a b : ℕ) (cs : List F) (es : List ((ℕ × ℕ) × F)) → b ≢ j → find pair_cmp (a, b) (row_entries number j k cs es) ≡ find pair_cmp (a, b) es
  skip_row j k a b [] es h = refl
  skip_row j k a b (c ∷ cs) es h =
      elim (number c == 0) as (λ (t : Bool). find pair_cmp (a, b) (if t then row_entries number j (suc k) cs es else ((k, j), c) ∷ row_entries number j (suc k) cs es) ≡ find pair_cmp (a, b) es) [
        | true ↦ skip_row j (suc k) a b cs es h
        | false ↦ ap (λ (t : Bool). cond t (Some c) (find pair_cmp (a, b) (row_entries number j (suc k) cs es))) (keys_apart_y a b k j h) ∙ skip_row j (suc k) a b cs es h
      ]

  -- nor at a power of x before its first
  row_past : (j k a : ℕ) (cs : List F) (es : List ((ℕ × ℕ) × F)) → a < k → find pair_cmp (a, j) (row_entries number j k cs es) ≡ find pair_cmp (a, j) es
  row_past j k a [] es h = refl
  row_past j k a (c ∷ cs) es h =
      let apart : a ≢ k = λ e. absurd (omega arith) in
      elim (number c == 0) as (λ (t : Bool). find pair_cmp (a, j) (if t then row_entries number j (suc k) cs es else ((k, j), c) ∷ row_entries number j (suc k) cs es) ≡ find pair_cmp (a, j) es) [
        | true ↦ row_past j (suc k) a cs es (omega arith)
        | false ↦ ap (λ (t : Bool). cond t (Some c) (find pair_cmp (a, j) (row_entries number j (suc k) cs es))) (keys_apart_x a j k j apart) ∙ row_past j (suc k) a cs es (omega arith)
      ]

  find_row : (j k n a : ℕ) (cs : List F) (es : List ((ℕ × ℕ) × F)) → a ≡ n + k → find pair_cmp (a, j) es ≡ None
      → find pair_cmp (a, j) (row_entries number j k cs es) ≡ kept number (get_or cs n nil)
  find_row j k n a [] es e none = none ∙ sym kept_nil
  find_row j k zero a (c ∷ cs) es e none =
      elim (number c == 0) as (λ (t : Bool). find pair_cmp (a, j) (if t then row_entries number j (suc k) cs es else ((k, j), c) ∷ row_entries number j (suc k) cs es) ≡ (if t then None else Some c)) [
        | true ↦ row_past j (suc k) a cs es (omega arith) ∙ none
        | false ↦ ap (λ (t : Bool). cond t (Some c) (find pair_cmp (a, j) (row_entries number j (suc k) cs es))) (keys_same a j k j (omega arith) refl)
      ]
  find_row j k (suc n) a (c ∷ cs) es e none =
      let apart : a ≢ k = λ h. absurd (omega arith) in
      let rest : find pair_cmp (a, j) (row_entries number j (suc k) cs es) ≡ kept number (get_or cs n nil) = find_row j (suc k) n a cs es (omega arith) none in
      elim (number c == 0) as (λ (t : Bool). find pair_cmp (a, j) (if t then row_entries number j (suc k) cs es else ((k, j), c) ∷ row_entries number j (suc k) cs es) ≡ kept number (get_or cs n nil)) [
        | true ↦ rest
        | false ↦ ap (λ (t : Bool). cond t (Some c) (find pair_cmp (a, j) (row_entries number j (suc k) cs es))) (keys_apart_x a j k j apart) ∙ rest
      ]

  rows_past : (j a b : ℕ) (rows : List (List F)) → b < j → find pair_cmp (a, b) (entries_from number j rows) ≡ None
  rows_past j a b [] l = refl
  rows_past j a b (row ∷ rows) l =
      let apart : b ≢ j = λ h. absurd (omega arith) in
      skip_row j 0 a b row (entries_from number (suc j) rows) apart ∙ rows_past (suc j) a b rows (omega arith)

  find_rows : (j n a b : ℕ) (rows : List (List F)) → b ≡ n + j → find pair_cmp (a, b) (entries_from number j rows) ≡ kept number (get_or (get_or rows n []) a nil)
  find_rows j n a b [] e = sym kept_nil
  find_rows j zero a b (row ∷ rows) e =
      let same_row : b ≡ j = omega arith in
      subst (λ t. find pair_cmp (a, t) (row_entries number j 0 row (entries_from number (suc j) rows)) ≡ kept number (get_or row a nil)) (sym same_row)
      (find_row j 0 a a row (entries_from number (suc j) rows) (omega arith) (rows_past (suc j) a j rows (omega arith)))
  find_rows j (suc n) a b (row ∷ rows) e =
      let apart : b ≢ j = λ h. absurd (omega arith) in
      skip_row j 0 a b row (entries_from number (suc j) rows) apart ∙ find_rows (suc j) n a b rows (omega arith)

  -- what the polynomial has at (i, j)
  pub get_cell : (rows : List (List F)) (i j : ℕ) → get (polynomial_of number rows) (i, j) ≡ kept number (cell R rows i j)
  unfolding polynomial_of
  get_cell rows i j = get-from_entries pair_total (entries_from number 0 rows) (i, j) ∙ find_rows 0 j i j rows (omega arith)

  pub coefficient_cell : (rows : List (List F)) (i j : ℕ) → coefficient R (polynomial_of number rows) i j ≡ cell R rows i j
  coefficient_cell rows i j = ap (λ (t : Option F). unwrap_or t nil) (get_cell rows i j) ∙ unwrap_kept (cell R rows i j)

  -- rows with the same coefficients stand for the same polynomial
  pub same_polynomial : (xs ys : List (List F)) → ((i j : ℕ) → cell R xs i j ≡ cell R ys i j) → polynomial_of number xs ≡ polynomial_of number ys
  same_polynomial xs ys h =
      same_map pair_total pair_same (polynomial_of number xs) (polynomial_of number ys) (λ q.
      get_cell xs q.0 q.1 ∙ ap (kept number) (h q.0 q.1) ∙ sym (get_cell ys q.0 q.1))

  pub no_rows : polynomial_of number [] ≡ empty
  unfolding polynomial_of
  no_rows = refl

  -- and where all are zero, for the zero polynomial
  pub zero_polynomial : (rows : List (List F)) → ((i j : ℕ) → cell R rows i j ≡ nil) → polynomial_of number rows ≡ empty
  zero_polynomial rows h = same_polynomial rows [] h ∙ no_rows

  pub zero_cell : (rows : List (List F)) → polynomial_of number rows ≡ empty → (i j : ℕ) → cell R rows i j ≡ nil
  zero_cell rows e i j =
      sym (coefficient_cell rows i j) ∙ ap (λ (q : Bivariate F). coefficient R q i j) (e ∙ sym no_rows) ∙ coefficient_cell [] i j

  -- no entry is zero
  pub proper_polynomial : (rows : List (List F)) → IsProper R (polynomial_of number rows)
  proper_polynomial rows i j e =
      let here : cell R rows i j ≡ nil = sym (coefficient_cell rows i j) ∙ ap (λ (t : Option F). unwrap_or t nil) e in
      let none : Some R.nil ≡ None = sym e ∙ get_cell rows i j ∙ ap (kept number) here ∙ kept_nil in
      cc

  -- a coefficient that is not zero stands in the polynomial
  pub get_nonzero : (rows : List (List F)) (i j : ℕ) → cell R rows i j ≢ nil → get (polynomial_of number rows) (i, j) ≢ None
  get_nonzero rows i j h e =
      h (sym (coefficient_cell rows i j) ∙ ap (λ (t : Option F). unwrap_or t nil) e)

  -- and what stands in the polynomial is not zero
  pub nonzero_get : (rows : List (List F)) (i j : ℕ) → get (polynomial_of number rows) (i, j) ≢ None → cell R rows i j ≢ nil
  nonzero_get rows i j h e = h (get_cell rows i j ∙ ap (kept number) e ∙ kept_nil)

  -- the coefficients p i j in rows
  pub map_of : (rows : List (List F)) (p : ℕ → ℕ → F) → ((i j : ℕ) → cell R rows i j ≡ p i j) → IsMapOf number p (polynomial_of number rows)
  map_of rows p h i j = get_cell rows i j ∙ ap (kept number) (h i j)

  -- one coefficient changed
  pub polynomial_with : (xs ys : List (List F)) (i j : ℕ) (v : F) → cell R ys i j ≡ v → ((a b : ℕ) → (a ≢ i) ⊎ (b ≢ j) → cell R ys a b ≡ cell R xs a b)
      → polynomial_of number ys ≡ with_coefficient number (polynomial_of number xs) i j v
  polynomial_with xs ys i j v here there =
      same_map pair_total pair_same (polynomial_of number ys) (with_coefficient number (polynomial_of number xs) i j v) (λ q. at q.0 q.1)
    where
      apart_at : (a b : ℕ) → eq_by_cmp pair_cmp (a, b) (i, j) ≡ false → get (with_coefficient number (polynomial_of number xs) i j v) (a, b) ≡ get (polynomial_of number xs) (a, b)
      apart_at a b e =
          elim (number v == 0) as (λ (t : Bool). get (if t then remove (polynomial_of number xs) (i, j) else insert (polynomial_of number xs) (i, j) v) (a, b) ≡ get (polynomial_of number xs) (a, b)) [
            | true ↦ get-remove pair_total (polynomial_of number xs) (i, j) (a, b) ∙ ap (λ (t : Bool). cond t None (get (polynomial_of number xs) (a, b))) e
            | false ↦ get-insert pair_total (polynomial_of number xs) (i, j) v (a, b) ∙ ap (λ (t : Bool). cond t (Some v) (get (polynomial_of number xs) (a, b))) e
          ]

      at_place : (a b : ℕ) → eq_by_cmp pair_cmp (a, b) (i, j) ≡ true → get (with_coefficient number (polynomial_of number xs) i j v) (a, b) ≡ kept number v
      at_place a b e =
          elim (number v == 0) as (λ (t : Bool). get (if t then remove (polynomial_of number xs) (i, j) else insert (polynomial_of number xs) (i, j) v) (a, b) ≡ (if t then None else Some v)) [
            | true ↦ get-remove pair_total (polynomial_of number xs) (i, j) (a, b) ∙ ap (λ (t : Bool). cond t None (get (polynomial_of number xs) (a, b))) e
            | false ↦ get-insert pair_total (polynomial_of number xs) (i, j) v (a, b) ∙ ap (λ (t : Bool). cond t (Some v) (get (polynomial_of number xs) (a, b))) e
          ]

      other : (a b : ℕ) → (a ≢ i) ⊎ (b ≢ j) → eq_by_cmp pair_cmp (a, b) (i, j) ≡ false → get (polynomial_of number ys) (a, b) ≡ get (with_coefficient number (polynomial_of number xs) i j v) (a, b)
      other a b n e = get_cell ys a b ∙ ap (kept number) (there a b n) ∙ sym (get_cell xs a b) ∙ sym (apart_at a b e)

      at : (a b : ℕ) → get (polynomial_of number ys) (a, b) ≡ get (with_coefficient number (polynomial_of number xs) i j v) (a, b)
      at a b = elim (cases_eq a i) [
        | inl e ↦ elim (cases_eq b j) [
          | inl f ↦ get_cell ys a b ∙ ap (kept number) (ap₂ (cell R ys) e f ∙ here) ∙ sym (at_place a b (keys_same a b i j e f))
          | inr n ↦ other a b (inr n) (keys_apart_y a b i j n)
        ]
        | inr n ↦ other a b (inl n) (keys_apart_x a b i j n)
      ]

  -- the limits of the rows are the polynomial's
  pub limited_within : (rows : List (List F)) → AreLimited R rows → IsWithin 65536 4096 (polynomial_of number rows)
  limited_within rows limits i j h = (
    elim (cases_lt i 65536) [ inl l ↦ l | inr l ↦ absurd (nonzero_get rows i j h (limits.x i j l)) ],
    elim (cases_lt j 4096) [ inl l ↦ l | inr l ↦ absurd (nonzero_get rows i j h (limits.y i j l)) ],
  )

  -- a row replaced: its own coefficients there
  pub cell_replaced : (rows : List (List F)) (j a : ℕ) (row : List F) → j < length rows → cell R (set rows j row) a j ≡ coefficients R row a
  cell_replaced rows j a row l = ap (λ t. coefficients R t a) (get_or-set_same rows j row [] l)

  -- and elsewhere what was
  pub cell_beside : (rows : List (List F)) (j a b : ℕ) (row : List F) → b ≢ j → cell R (set rows j row) a b ≡ cell R rows a b
  cell_beside rows j a b row n = ap (λ t. coefficients R t a) (get_or-set_other rows j b row [] n)

  -- the limits with the same coefficients
  pub same_limits : (xs ys : List (List F)) → ((i j : ℕ) → cell R ys i j ≡ cell R xs i j) → AreLimited R xs → AreLimited R ys
  same_limits xs ys h limits = record { x = λ i j l. h i j ∙ limits.x i j l; y = λ i j l. h i j ∙ limits.y i j l }

  -- a row that is replaced by one with the same coefficients
  pub same_replaced : (rows : List (List F)) (j : ℕ) (row : List F) → j < length rows → ((a : ℕ) → coefficients R row a ≡ cell R rows a j)
      → (a b : ℕ) → cell R (set rows j row) a b ≡ cell R rows a b
  same_replaced rows j row inside h a b = elim (cases_eq b j) [
    | inl e ↦ ap (cell R (set rows j row) a) e ∙ cell_replaced rows j a row inside ∙ h a ∙ ap (cell R rows a) (sym e)
    | inr n ↦ cell_beside rows j a b row n
  ]

  -- the row of y^j grown to `row`, and v put into it in place of the coefficient of x^i
  module _ (old rows : List (List F)) (j i : ℕ) (row : List F) (v : F) (same_cells : (a b : ℕ) → cell R rows a b ≡ cell R old a b) (inside : j < length rows)
      (grown : (a : ℕ) → coefficients R row a ≡ cell R rows a j) (wide : i < length row) where
    put_rows : List (List F)
    put_rows = set (set rows j row) j (set row i v)

    inside_grown : j < length (set rows j row)
    inside_grown = omega (arith, length-set rows j row)

    put_here : cell R put_rows i j ≡ v
    unfolding put_rows
    put_here = cell_replaced (set rows j row) j i (set row i v) inside_grown ∙ get_or-set_same row i v nil wide

    put_in_row : (a : ℕ) → a ≢ i → cell R put_rows a j ≡ cell R old a j
    unfolding put_rows
    put_in_row a n = cell_replaced (set rows j row) j a (set row i v) inside_grown ∙ get_or-set_other row i a v nil n ∙ grown a ∙ same_cells a j

    put_there : (a b : ℕ) → (a ≢ i) ⊎ (b ≢ j) → cell R put_rows a b ≡ cell R old a b
    unfolding put_rows
    put_there a b n = elim (cases_eq b j) [
      | inl e ↦ ap (cell R put_rows a) e ∙ put_in_row a (elim n [ inl h ↦ h | inr h ↦ absurd (h e) ]) ∙ ap (cell R old a) (sym e)
      | inr h ↦ cell_beside (set rows j row) j a b (set row i v) h ∙ cell_beside rows j a b row h ∙ same_cells a b
    ]

    pub polynomial_put : polynomial_of number (set (set rows j row) j (set row i v)) ≡ with_coefficient number (polynomial_of number old) i j v
    unfolding put_rows
    polynomial_put = polynomial_with old put_rows i j v put_here put_there

    -- within the limits the row and the rows stay within them
    pub limits_put : i < 65536 → j < 4096 → AreLimited R old → AreLimited R (set (set rows j row) j (set row i v))
    unfolding put_rows
    limits_put l m limits = record {
      x = λ a b h. put_there a b (inl (λ e. absurd (omega arith))) ∙ limits.x a b h;
      y = λ a b h. put_there a b (inr (λ e. absurd (omega arith))) ∙ limits.y a b h;
    }
