-- Lists of rows.
use Rattle.std.proofs.Common.{Vec, Global, ◌≡◌, inl, inr, ℕ, ◌+◌, ◌-◌, ◌<◌, List, [], ◌++◌, length, get_or, set, take, drop, map, sym, ◌∙◌, ap, subst, arith}
use Rattle.std.proofs.Math.Seq.{take-append_seam}
use Rattle.std.proofs.lemmas.Bool.Decides.{eqb_tells}
use Rattle.std.proofs.lemmas.List.{get_or-map, length-map, length-set, get_or-set_same, get_or-set_other, get_or-append_right, length-take-le, get_or-drop}
use Rattle.linear_solve.specs.Tables.{HaveLength}

-- what a loop over the whole of a vector leaves in it
pub written_back : {X : Type 0} (ys zs : List X) (n : ℕ) → n ≡ length ys → take n (ys ++ zs) ≡ ys
written_back ys zs n h = rw h (take-append_seam ys zs)

module _ {F : Type 0} where
  -- the list of a row that is at hand
  pub row_is : (xs : List (Vec F Global)) (i : ℕ) (x : Vec F Global) (d : List F) → i < length xs → x ≡ get_or xs i x → get_or (map (λ row. row.items) xs) i d ≡ x.items
  row_is xs i x d l is = get_or-map (λ row. row.items) xs i x d l ∙ ap (λ row. row.items) (sym is)

  pub row_length : (n : ℕ) (xs : List (Vec F Global)) (i : ℕ) (x : Vec F Global) → HaveLength n (map (λ row. row.items) xs) → i < length xs → x ≡ get_or xs i x
      → length x.items ≡ n
  row_length n xs i x h l is = ap length (sym (row_is xs i x [] l is)) ∙ h i (rw (length-map xs (λ row. row.items)) l)

-- a row that a loop has not come to
pub rest_at : {X : Type 0} (g : X → X) (xs : List X) (i : ℕ) (d : X) → i < length xs → get_or (map g (take i xs) ++ drop i xs) i d ≡ get_or xs i d
rest_at g xs i d l =
    let long : length (map g (take i xs)) ≡ i = length-map (take i xs) g ∙ length-take-le i xs (omega arith) in
    let here : i + (i - i) ≡ i = omega arith in
    get_or-append_right (map g (take i xs)) (drop i xs) i i d long (omega arith) ∙ get_or-drop i xs (i - i) d ∙ ap (λ t. get_or xs t d) here

-- one row is replaced
pub set_even : {F : Type 0} (n : ℕ) (rows : List (List F)) (i : ℕ) (row : List F) → HaveLength n rows → length row ≡ n → HaveLength n (set rows i row)
set_even n rows i row h l k m =
    let inside : k < length rows = subst (λ t. k < t) (length-set rows i row) m in
    elim (eqb_tells k i) [
      | inl e ↦ rw e.1 (ap length (get_or-set_same rows i row [] (subst (λ t. t < length rows) e.1 inside)) ∙ l)
      | inr e ↦ ap length (get_or-set_other rows i k row [] e.1) ∙ h k inside
    ]
