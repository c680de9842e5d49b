-- Lists that get one more element.
use Rattle.std.proofs.Common.{◌≡◌, ◌⊎◌, inl, inr, ℕ, ◌+◌, ◌<◌, ◌≤◌, List, [], ◌∷◌, ◌++◌, length, get_or, refl, ◌∙◌, sym, subst, arith}
use Rattle.std.proofs.lemmas.Bool.{cases_lt}
use Rattle.std.proofs.lemmas.List.{get_or_append_left, length-append}
use Rattle.std.proofs.Math.Seq.{get_or-append_seam}
use Rattle.term_lists.specs.Extended.{IsExtended}

pub not_extended : {X : Type 0} (each : ℕ → X → Type 0) (d : X) (old : List X) → IsExtended each d old 0 old
not_extended each d old = record { count = omega arith; before = λ k l. refl; after = λ i l. absurd (omega (arith, l)) }

pub pushed_count : {X : Type 0} (xs : List X) (x : X) → length (xs ++ x ∷ []) ≡ length xs + 1
pushed_count xs x = length-append xs (x ∷ [])

pub extended_push : {X : Type 0} (each : ℕ → X → Type 0) (d : X) (old : List X) (n : ℕ) (new : List X) (x : X) → IsExtended each d old n new → each n x
    → IsExtended each d old (n + 1) (new ++ x ∷ [])
extended_push each d old n new x h is = record {
  count = omega (arith, pushed_count new x, h.count);
  before = λ k l. get_or_append_left new (x ∷ []) d k (omega (arith, h.count, l)) ∙ h.before k l;
  after = λ i l. by_order i (cases_lt i n) l;
}
  where
    by_order : (i : ℕ) → (i < n) ⊎ (n ≤ i) → i < n + 1 → each i (get_or (new ++ x ∷ []) (length old + i) d)
    by_order i (inl less) l = subst (each i) (sym (get_or_append_left new (x ∷ []) d (length old + i) (omega (arith, h.count, less)))) (h.after i less)
    by_order i (inr most) l =
        let same : n ≡ i = omega (arith, l, most) in
        let at_end : length new ≡ length old + i = omega (arith, h.count, same) in
        subst (λ m. each m (get_or (new ++ x ∷ []) (length old + i) d)) same
        (subst (λ m. each n (get_or (new ++ x ∷ []) m d)) at_end (subst (each n) (sym (get_or-append_seam new x [] d)) is))
