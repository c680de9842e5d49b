-- The findings over a word are the case of its pairs.
use Rattle.std.proofs.Common.{◌≡◌, ℕ, List, Option, Bool, map, filter, ap, ap₂}
use mathlib.Core.Path.{fun_ext}
use Rattle.desk_terms.specs.declared.findings.Accused.{Accused}
use Rattle.desk_terms.specs.Findings.{findings, is_accused, accusation, serials}
use Rattle.desk_terms.specs.Roll.{Roll, entry_at, message_at}
use Rattle.pair_terms.specs.Pairs.{pairs_of}
use Rattle.pair_terms.proofs.WordPairs.{places_fit, same_test}
use Rattle.merge_terms.specs.Merged.{is_accused_by, accusation_by, accused_by}

same_accusation : (roll : Roll) (word : List (Option ℕ)) (serial : ℕ) → accusation_by roll (pairs_of word) serial ≡ accusation roll word serial
same_accusation roll word serial =
    let by : List ℕ → Accused = λ ps. record { serial = serial; name = (entry_at roll serial).name; places = ps } in
    ap by (places_fit word roll.bits roll.dimension (message_at roll serial))

same_accused : (roll : Roll) (word : List (Option ℕ)) (c serial : ℕ) → is_accused_by roll (pairs_of word) c serial ≡ is_accused roll word c serial
same_accused roll word c serial = same_test word roll.bits roll.dimension c (message_at roll serial)

pub merged_word : (roll : Roll) (word : List (Option ℕ)) (c : ℕ) → accused_by roll (pairs_of word) c ≡ (findings roll word c).accused
unfolding accused_by findings
merged_word roll word c =
    ap₂ (λ (f : ℕ → Accused) (p : ℕ → Bool). map f (filter p (serials roll))) (fun_ext (same_accusation roll word)) (fun_ext (same_accused roll word c))
