-- Numbers that ascend, with one more behind them.
use Rattle.std.proofs.Common.{◌≡◌, ℕ, zero, suc, ◌+◌, ◌-◌, ◌<◌, ◌≤◌, Bool, true, false, ◌&&◌, ◌||◌, cond, eqb, List, [], ◌∷◌, ◌++◌, length, get_or, drop, Option, Some, None, Err, refl, ap, ◌∙◌, subst, arith, inl, inr, ◌⊎◌, length-append}
use Rattle.std.specs.Prelude.{nat_lt}
use Rattle.std.specs.List.{All}
use Rattle.std.specs.List.Sorted.{IsStrictlyIncreasing}
use Rattle.std.proofs.lemmas.Bool.{eqb-true, ltb-true, and_parts, cases_lt}
use Rattle.std.proofs.lemmas.List.{get_or_append_left}
use Rattle.std.proofs.lemmas.List.Elements.{All-push}
use Rattle.std.proofs.Math.Seq.{get_or-append_seam}
use Rattle.std.proofs.Math.Seq.{drop-cons}
use Rattle.title_terms.specs.Designs.{is_above}
use Rattle.title_terms.specs.declared.fault.DesignFault.TheVariants.{BadMarked}
use Rattle.title_terms.specs.DesignRules.{marks_behind}
use Rattle.designs.specs.Answers.{AreMarks, next_mark}

-- each number is at least its place
at_least : (xs : List ℕ) → IsStrictlyIncreasing xs → (i : ℕ) → i < length xs → i ≤ get_or xs i 0
at_least xs up zero lt = omega arith
at_least xs up (suc i) lt =
    let next : i + 1 ≡ suc i = omega arith in
    let above : get_or xs i 0 < get_or xs (suc i) 0 = subst (λ (k : ℕ). get_or xs i 0 < get_or xs k 0) next (up i (omega (arith, lt))) in
    let here : i ≤ get_or xs i 0 = at_least xs up i (omega (arith, lt)) in
    omega (arith, here, above)

is_last : (past : List ℕ) (x : ℕ) (none above : Bool) → eqb (length past) 0 ≡ none → nat_lt (get_or past (length past - 1) 0) x ≡ above → (none || above) ≡ true → (length past ≡ 0) ⊎ (get_or past (length past - 1) 0 < x)
is_last past x true above first second is = inl (eqb-true (length past) 0 first)
is_last past x false above first second is = inr (ltb-true (get_or past (length past - 1) 0) x (second ∙ is))

behind_last : (past : List ℕ) (x : ℕ) → is_above past x ≡ true → (length past ≡ 0) ⊎ (get_or past (length past - 1) 0 < x)
behind_last past x is = is_last past x (eqb (length past) 0) (nat_lt (get_or past (length past - 1) 0) x) refl refl is

pub ascends : (past : List ℕ) (x : ℕ) → IsStrictlyIncreasing past → is_above past x ≡ true → IsStrictlyIncreasing (past ++ x ∷ [])
ascends past x up above k lt =
    let long : length (past ++ x ∷ []) ≡ length past + 1 = length-append past (x ∷ []) in
    elim (cases_lt (k + 1) (length past)) as (λ _. get_or (past ++ x ∷ []) k 0 < get_or (past ++ x ∷ []) (k + 1) 0) [
      | inl within ↦ rw (get_or_append_left past (x ∷ []) 0 k (omega (arith, within)), get_or_append_left past (x ∷ []) 0 (k + 1) within) (up k within)
      | inr past_all ↦
          let seam : k + 1 ≡ length past = omega (arith, lt, long, past_all) in
          let here : get_or (past ++ x ∷ []) (k + 1) 0 ≡ x = ap (λ (i : ℕ). get_or (past ++ x ∷ []) i 0) seam ∙ get_or-append_seam past x [] 0 in
          let before : get_or (past ++ x ∷ []) k 0 ≡ get_or past k 0 = get_or_append_left past (x ∷ []) 0 k (omega (arith, seam)) in
          let last : length past - 1 ≡ k = omega (arith, seam) in
          elim (behind_last past x above) as (λ _. get_or (past ++ x ∷ []) k 0 < get_or (past ++ x ∷ []) (k + 1) 0) [
            | inl none ↦ absurd (omega (arith, none, seam))
            | inr le ↦ rw (here, before) (subst (λ (i : ℕ). get_or past i 0 < x) last le)
          ]
    ]

few_below : (xs : List ℕ) → IsStrictlyIncreasing xs → All (λ segment. segment < 100000) xs → length xs ≤ 100000
few_below xs up small = by (length xs) refl
  where
    by : (n : ℕ) → length xs ≡ n → length xs ≤ 100000
    by zero none = omega (arith, none)
    by (suc n) some =
        let within : n < length xs = omega (arith, some) in
        let high : n ≤ get_or xs n 0 = at_least xs up n within in
        let low : get_or xs n 0 < 100000 = small n 0 within in
        omega (arith, high, low, some)

pub marks_none : AreMarks []
marks_none = record { ascending = λ k lt. absurd (omega (arith, lt)); small = λ k d lt. absurd (omega (arith, lt)); few = omega arith }

is_next : (past : List ℕ) (x n : ℕ) (passes : Bool) → (is_above past n && nat_lt n 100000) ≡ passes → cond passes (Some n) None ≡ Some x → (n ≡ x) × ((is_above past n && nat_lt n 100000) ≡ true)
is_next past x n true is e = (cc, is)
is_next past x n false is e = absurd cc

pub marks_push : (past : List ℕ) (item : Option ℕ) (x : ℕ) → AreMarks past → next_mark past item ≡ Some x → AreMarks (past ++ x ∷ [])
marks_push past None x are e = absurd cc
marks_push past (Some n) x are e =
    let found = is_next past x n (is_above past n && nat_lt n 100000) refl e in
    let both = and_parts (is_above past n) (nat_lt n 100000) found.1 in
    let up : IsStrictlyIncreasing (past ++ x ∷ []) = ascends past x are.ascending (subst (λ (s : ℕ). is_above past s ≡ true) found.0 both.0) in
    let small : All (λ segment. segment < 100000) (past ++ x ∷ []) = All-push (λ segment. segment < 100000) past x are.small (subst (λ (s : ℕ). s < 100000) found.0 (ltb-true n 100000 both.1)) in
    record { ascending = up; small = small; few = few_below (past ++ x ∷ []) up small }

-- ---- one item more is judged

pub goes_on : (past : List ℕ) (item : Option ℕ) (x : ℕ) (rest : List (Option ℕ)) → next_mark past item ≡ Some x → marks_behind past (item ∷ rest) ≡ marks_behind (past ++ x ∷ []) rest
goes_on past None x rest e = absurd cc
goes_on past (Some n) x rest e =
    let found = is_next past x n (is_above past n && nat_lt n 100000) refl e in
    rw found.1 (ap (λ (s : ℕ). marks_behind (past ++ s ∷ []) rest) found.0)

is_refused : (past : List ℕ) (n : ℕ) (passes : Bool) → (is_above past n && nat_lt n 100000) ≡ passes → cond passes (Some n) None ≡ None → (is_above past n && nat_lt n 100000) ≡ false
is_refused past n true is e = absurd cc
is_refused past n false is e = is

pub stops : (past : List ℕ) (item : Option ℕ) (rest : List (Option ℕ)) → next_mark past item ≡ None → marks_behind past (item ∷ rest) ≡ Err (BadMarked (length past))
stops past None rest e = refl
stops past (Some n) rest e = rw (is_refused past n (is_above past n && nat_lt n 100000) refl e) refl

pub goes_on_at : (past : List ℕ) (items : List (Option ℕ)) (i x : ℕ) → i < length items → next_mark past (get_or items i None) ≡ Some x
    → marks_behind past (drop i items) ≡ marks_behind (past ++ x ∷ []) (drop (i + 1) items)
goes_on_at past items i x lt e =
    let next : suc i ≡ i + 1 = omega arith in
    let cut : drop i items ≡ get_or items i None ∷ drop (i + 1) items = drop-cons items i None lt ∙ ap (λ (k : ℕ). get_or items i None ∷ drop k items) next in
    ap (marks_behind past) cut ∙ goes_on past (get_or items i None) x (drop (i + 1) items) e

pub stops_at : (past : List ℕ) (items : List (Option ℕ)) (i n : ℕ) → i < length items → next_mark past (get_or items i None) ≡ None → length past ≡ n
    → marks_behind past (drop i items) ≡ Err (BadMarked n)
stops_at past items i n lt e long =
    ap (marks_behind past) (drop-cons items i None lt) ∙ stops past (get_or items i None) (drop (suc i) items) e ∙ rw long refl
