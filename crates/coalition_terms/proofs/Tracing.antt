-- A copy that a coalition made accuses members alone, and one of them: the case of its word's pairs.
use Rattle.std.proofs.Common.{ℕ, ◌^◌, ◌<◌, ◌≤◌, List, length, get_or, All, Option, ap, subst, arith}
use Rattle.std.specs.Prelude.{Contains}
use Rattle.std.proofs.lemmas.List.Elements.{Contains-get_or}
use Rattle.code_terms.specs.Words.{readable}
use Rattle.decoder_terms.specs.Decoding.{not_enough}
use Rattle.desk_terms.specs.declared.findings.Accused.{Accused}
use Rattle.desk_terms.specs.Roll.{Roll, IsRoll}
use Rattle.pair_terms.specs.Pairs.{pairs_of}
use Rattle.pair_terms.proofs.WordPairs.{in_order, places_within, count_of, slot_of_pair}
use Rattle.merge_terms.proofs.Words.{merged_word}
use Rattle.coalition_terms.specs.Coalition.{IsCoalition, Explains, IsTraced}
use Rattle.coalition_terms.specs.Merged.{ExplainsPairs, AreTraced}
use Rattle.coalition_terms.proofs.MergedTracing.{traced as merged_traced}

explains_pairs : (roll : Roll) (members : List ℕ) (word : List (Option ℕ)) → Explains roll members word → ExplainsPairs roll members (pairs_of word)
explains_pairs roll members word explains k d l =
    explains (get_or (pairs_of word) k d).0 (get_or (pairs_of word) k d).1
    (slot_of_pair word (length word) (get_or (pairs_of word) k d).0 (get_or (pairs_of word) k d).1 (Contains-get_or (pairs_of word) k d l))

pub traced : (roll : Roll) (word : List (Option ℕ)) (c : ℕ) (members : List ℕ) → IsRoll roll → 4 ≤ roll.bits → roll.bits ≤ 8 → length word ≤ 2 ^ roll.bits → 1 ≤ c
    → not_enough roll.dimension c < readable word → IsCoalition roll c members → Explains roll members word → IsTraced roll word c members
traced roll word c members kept low high short some enough coalition explains =
    let found : AreTraced roll (pairs_of word) c members =
    merged_traced roll (pairs_of word) c members kept low high (record { ascending = in_order word (length word); places = λ k d l. omega (arith, places_within word (length word) k d l) }) some (omega (arith, enough, count_of word)) coalition (explains_pairs roll members word explains) in
    record {
      members = subst (All (λ (a : Accused). Contains members a.serial)) (merged_word roll word c) found.members;
      some = omega (arith, found.some, ap length (merged_word roll word c));
    }
