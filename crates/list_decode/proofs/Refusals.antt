-- What the decoder answers where there are no parameters, and where there are.
use Rattle.std.proofs.Common.{◌≡◌, ℕ, ◌-◌, ◌*◌, ◌<◌, ◌≤◌, Bool, true, false, nat_lt, if◌then◌else◌, List, Option, None, Some, Ok, Err, length, refl, sym, ◌∙◌, ap, arith}
use Rattle.std.proofs.lemmas.Bool.Decides.{nat_tests}
use Rattle.code_terms.specs.Words.{readable}
use Rattle.pair_terms.specs.Pairs.{Pair, pairs_of}
use Rattle.pair_terms.specs.Recovery.{recovered}
use Rattle.pair_terms.proofs.WordPairs.{count_of, same_messages}
use Rattle.decoding_terms.specs.Parameters.{AreEnough, is_allowed_bound}
use Rattle.decoder_terms.specs.Decoding.{not_enough}
use Rattle.gs_params.specs.declared.parameters.ParamError.{ParamError}
use Rattle.gs_params.specs.declared.parameters.ParamError.TheVariants as chosen
use Rattle.gs_params.specs.Refusals.{refusal_of}
use Rattle.list_decode.specs.Refusals.{refused_as}
use Rattle.list_decode.specs.declared.decode_error.DecodeError.TheVariants as decoder
use Rattle.list_decode.specs.Answers.{decoding, recovering}

pub allowed_bound : (k c : ℕ) → is_allowed_bound k c ≡ true → (1 ≤ c) × (c ≤ 8) × (c * (k - 1) ≤ 12)
allowed_bound k c h = (first h, second h, third h)
  where
    first : is_allowed_bound k c ≡ true → 1 ≤ c
    first e = grind (arith, nat_tests)

    second : is_allowed_bound k c ≡ true → c ≤ 8
    second e = grind (arith, nat_tests)

    third : is_allowed_bound k c ≡ true → c * (k - 1) ≤ 12
    third e = grind (arith, nat_tests)

module _ (m k c : ℕ) (pairs : List Pair) where
  -- parameters were refused
  pub refused : (why : ParamError) → Some why ≡ refusal_of k c (length pairs) → recovering m k pairs c ≡ Err (refused_as why)
  refused why h =
      elim (is_allowed_bound k c) as (λ (a : Bool).
      Some why ≡ (if a then (if nat_lt (c * c * (k - 1)) (length pairs) then None else Some (chosen.TooFew (length pairs))) else Some chosen.BadBound)
      → (if a then (if nat_lt (not_enough k c) (length pairs) then Ok (recovered m k pairs c) else Err (refused_as (chosen.TooFew (length pairs)))) else Err (refused_as chosen.BadBound)) ≡ Err (refused_as why)) [
        | true ↦
            elim (nat_lt (c * c * (k - 1)) (length pairs)) as (λ (b : Bool). Some why ≡ (if b then None else Some (chosen.TooFew (length pairs)))
            → (if b then Ok (recovered m k pairs c) else Err (refused_as (chosen.TooFew (length pairs)))) ≡ Err (refused_as why)) [
              | true ↦ λ e. absurd (some_none e)
              | false ↦ λ e. ap (λ t. Err (refused_as t)) (sym (same why (chosen.TooFew (length pairs)) e))
            ]
        | false ↦ λ e. ap (λ t. Err (refused_as t)) (sym (same why chosen.BadBound e))
      ] h
    where
      some_none : Some why ≡ None → ⊥
      some_none e = cc

      same : (x y : ParamError) → Some x ≡ Some y → x ≡ y
      same x y e = cc

  -- parameters were chosen
  pub granted : None ≡ refusal_of k c (length pairs) → (is_allowed_bound k c ≡ true) × (nat_lt (c * c * (k - 1)) (length pairs) ≡ true)
  granted h =
      elim (is_allowed_bound k c) as (λ (a : Bool).
      None ≡ (if a then (if nat_lt (c * c * (k - 1)) (length pairs) then None else Some (chosen.TooFew (length pairs))) else Some chosen.BadBound)
      → (a ≡ true) × (nat_lt (c * c * (k - 1)) (length pairs) ≡ true)) [
        | true ↦
            elim (nat_lt (c * c * (k - 1)) (length pairs)) as (λ (b : Bool). None ≡ (if b then None else Some (chosen.TooFew (length pairs))) → (true ≡ true) × (b ≡ true)) [
              | true ↦ λ e. (refl, refl)
              | false ↦ λ e. absurd (none_some (chosen.TooFew (length pairs)) e)
            ]
        | false ↦ λ e. absurd (none_some chosen.BadBound e)
      ] h
    where
      none_some : (x : ParamError) → None ≡ Some x → ⊥
      none_some x e = cc

  pub answered : None ≡ refusal_of k c (length pairs) → recovering m k pairs c ≡ Ok (recovered m k pairs c)
  answered h =
      let both = granted h in
      ap (λ (a : Bool). if a then (if nat_lt (not_enough k c) (length pairs) then Ok (recovered m k pairs c) else Err (refused_as (chosen.TooFew (length pairs)))) else Err (refused_as chosen.BadBound)) both.0
      ∙ ap (λ (b : Bool). if b then Ok (recovered m k pairs c) else Err (refused_as (chosen.TooFew (length pairs)))) both.1

  pub some_readable : None ≡ refusal_of k c (length pairs) → 1 ≤ length pairs
  some_readable h = above (c * c * (k - 1)) (length pairs) (granted h).1
    where
      above : (a b : ℕ) → nat_lt a b ≡ true → 1 ≤ b
      above a b e = grind (arith, nat_tests)

  -- and there are enough readable places
  pub are_enough : 2 ≤ k → None ≡ refusal_of k c (length pairs) → AreEnough (k - 1) c (length pairs)
  are_enough least h =
      let both = granted h in
      record { some_weight = omega arith; some_bound = (allowed_bound k c both.0).0; many = above (c * c * (k - 1)) (length pairs) both.1 }
    where
      above : (a b : ℕ) → nat_lt a b ≡ true → a < b
      above a b e = grind (arith, nat_tests)

-- a word is the case of its pairs
pub word_answer : (m k c : ℕ) (word : List (Option ℕ)) → recovering m k (pairs_of word) c ≡ decoding m k word c
word_answer m k c word =
    ap (λ r. if is_allowed_bound k c then (if nat_lt (not_enough k c) r then Ok (recovered m k (pairs_of word) c) else Err (decoder.TooFew r)) else Err decoder.BadBound) (count_of word)
    ∙ ap (λ (us : List ℕ). if is_allowed_bound k c then (if nat_lt (not_enough k c) (readable word) then Ok us else Err (decoder.TooFew (readable word))) else Err decoder.BadBound) (same_messages word m k c)
