-- Where no two of so many variants have one digest, they are told apart by their digests.
use Rattle.std.proofs.Common.{◌≡◌, ◌≢◌, ◌∙◌, sym, ap, refl, ℕ, zero, suc, ◌+◌, ◌<◌, ◌≤◌, Bool, true, false, cond, Option, Some, None, arith, inl, inr}
use Rattle.std.specs.List.{find, range_with_len}
use Rattle.std.specs.Option.{option_map}
use Rattle.std.specs.Str.{bytes_eq}
use Rattle.std.proofs.lemmas.Bool.{cases_lt}
use Rattle.std.proofs.lemmas.Slice.Eq.{bytes_eq-Decides}
use Rattle.sample_terms.specs.Inputs.{digest_of, twin_of, twins, first_or}

both_none : (n : ℕ) (a : Option (ℕ × ℕ)) (b : Option ℕ) → first_or a (option_map (λ earlier. (earlier, n)) b) ≡ None → (a ≡ None) × (b ≡ None)
both_none n None None e = (refl, refl)
both_none n None (Some x) e = absurd cc
both_none n (Some p) b e = absurd cc

found_none : (p : ℕ → Bool) (a n u : ℕ) → find p (range_with_len a n) ≡ None → a ≤ u → u < a + n → p u ≡ false
found_none p a zero u e low high = absurd (omega arith)
found_none p a (suc n) u e low high = by (p a) refl e (λ rest above. found_none p (a + 1) n u rest above (omega (arith, high)))
  where
    by : (b : Bool) → p a ≡ b → cond b (Some a) (find p (range_with_len (a + 1) n)) ≡ None → (find p (range_with_len (a + 1) n) ≡ None → a + 1 ≤ u → p u ≡ false) → p u ≡ false
    by true is some later = absurd cc
    by false is rest later = elim (cases_lt a u) [
      | inl lt ↦ later rest (omega (arith, lt))
      | inr le ↦ let same : u ≡ a = omega (arith, low, le) in ap p same ∙ is
    ]

pub told_apart : (number n : ℕ) → twins number n ≡ None → (u v : ℕ) → u < v → v < n → digest_of number u ≢ digest_of number v
unfolding twins
told_apart number zero none u v lt inside same = absurd (omega (arith, inside))
told_apart number (suc n) none u v lt inside same =
    let halves = both_none n (twins number n) (twin_of number n) none in
    elim (cases_lt v n) [
      | inl before ↦ told_apart number n halves.0 u v lt before same
      | inr le ↦
          let last : v ≡ n = omega (arith, le, inside) in
          let differs : bytes_eq (digest_of number n) (digest_of number u) ≡ false =
          found_none (λ earlier. bytes_eq (digest_of number n) (digest_of number earlier)) 0 n u halves.1 (omega arith) (omega (arith, lt, last)) in
          let equal : bytes_eq (digest_of number n) (digest_of number u) ≡ true =
          (bytes_eq-Decides (digest_of number n) (digest_of number u)).1 (sym (same ∙ ap (digest_of number) last)) in
          absurd cc
    ]

-- so a digest tells the variant
pub one_variant : (number n : ℕ) → twins number n ≡ None → (u v : ℕ) → u < n → v < n → digest_of number u ≡ digest_of number v → u ≡ v
one_variant number n none u v u_in v_in same = elim (cases_lt u v) [
  | inl lt ↦ absurd (told_apart number n none u v lt v_in same)
  | inr le ↦ elim (cases_lt v u) [
    | inl gt ↦ absurd (told_apart number n none v u gt u_in (sym same))
    | inr ge ↦ omega (arith, le, ge)
  ]
]
