-- What the desk finds has plain names.
use Rattle.std.proofs.Common.{◌≡◌, ℕ, ◌<◌, List, length, filter, true, All, arith, ◌≤◌, ◌^◌, get_or}
use Rattle.std.specs.Prelude.{Option, is_some}
use Rattle.std.proofs.lemmas.List.Elements.{All-map, All-filter}
use Rattle.std.proofs.lemmas.List.Sums.{count_by-le-length}
use Rattle.std.proofs.lemmas.List.FromFn.{length-range_with_len, get_or-range_with_len}
use Rattle.text_terms.specs.Names.{is_plain}
use Rattle.desk_terms.specs.declared.findings.Accused.{Accused}
use Rattle.desk_terms.specs.Findings.{accusation, is_accused, serials, findings}
use Rattle.desk_terms.specs.Roll.{Roll, IsRoll, entry_at, message_at, no_entry}
use Rattle.code_terms.specs.Words.{places_of}
use Rattle.code_terms.proofs.PlaceLaws.{places_of-within}
use Rattle.report_terms.specs.Values.{HasPlainNames, IsAccusation, AreReportable}

pub serials_enrolled : (roll : Roll) → All (λ serial. serial < length roll.entries) (serials roll)
serials_enrolled roll k d within =
    let n = length roll.entries in
    let inside : k < n = omega (arith, within, length-range_with_len 0 n) in
    omega (arith, inside, get_or-range_with_len 0 n k d inside)

pub findings_plain : (roll : Roll) (word : List (Option ℕ)) (c : ℕ) → IsRoll roll → HasPlainNames (findings roll word c)
unfolding findings
findings_plain roll word c kept =
    let named : All (λ serial. is_plain (entry_at roll serial).name ≡ true) (serials roll) = λ k d within. kept.plain _ no_entry (serials_enrolled roll k d within) in
    All-map (λ (a : Accused). is_plain a.name ≡ true) (accusation roll word) (filter (is_accused roll word c) (serials roll))
    (All-filter (is_accused roll word c) (λ serial. is_plain (entry_at roll serial).name ≡ true) (serials roll) named)

-- ---- and can be said in a report

accusation_reportable : (roll : Roll) (word : List (Option ℕ)) (serial : ℕ) → IsRoll roll → length word ≤ 2 ^ 16 → serial < length roll.entries → IsAccusation (accusation roll word serial)
accusation_reportable roll word serial kept short enrolled = record {
  plain = kept.plain serial no_entry enrolled;
  serial = omega (arith, enrolled, kept.few);
  places = λ k d within.
      let below : get_or (places_of roll.bits roll.dimension (message_at roll serial) word) k d < length word = places_of-within roll.bits roll.dimension (message_at roll serial) word k d within in
      omega (arith, below, short);
}

pub findings_reportable : (roll : Roll) (word : List (Option ℕ)) (c : ℕ) → IsRoll roll → length word ≤ 2 ^ 16 → c < 2 ^ 32 → AreReportable (findings roll word c)
unfolding findings
findings_reportable roll word c kept short small = record {
  readable = omega (arith, count_by-le-length is_some word, short);
  bound = small;
  accused =
      All-map IsAccusation (accusation roll word) (filter (is_accused roll word c) (serials roll))
      (All-filter (is_accused roll word c) (λ serial. IsAccusation (accusation roll word serial)) (serials roll)
      (λ k d within. accusation_reportable roll word _ kept short (serials_enrolled roll k d within)));
}
