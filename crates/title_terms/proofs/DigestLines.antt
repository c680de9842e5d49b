-- The lines of the digests: what is written is read, and what is read was written.
use Rattle.std.proofs.Common.{◌≡◌, ◌≢◌, ◌∙◌, sym, ap, subst, ℕ, ◌+◌, ◌<◌, true, false, not, List, [], ◌∷◌, ◌++◌, length, length-append, get_or, map, Ok, All, arith}
use Rattle.std.specs.List.{AllPairs, list_any}
use Rattle.std.specs.Str.{bytes_eq}
use Rattle.std.proofs.Math.ListN.{get_or-append}
use Rattle.std.proofs.Math.Seq.{get_or-append_seam}
use Rattle.std.proofs.lemmas.Bool.{not-true, not_from_false, false_from_ne_true}
use Rattle.std.proofs.lemmas.List.{get_or_default}
use Rattle.std.proofs.lemmas.List.Elements.{All-nil, All-push}
use Rattle.std.proofs.lemmas.List.Folds.{list_any-from_Any, list_any_none}
use Rattle.std.proofs.lemmas.List.Quantifiers.{all_pairs_push}
use Rattle.std.proofs.lemmas.Slice.Eq.{bytes_eq-Decides}
use Rattle.hex.specs.Hex.{encode_lower}
use Rattle.form_terms.specs.Forms.{Place, place, row, rows_after, require}
use Rattle.form_terms.proofs.FormLaws.{Took, Grows, split, join, gave, given, met, meets, line_read, line_again, rows_read, rows_again}
use Rattle.title_terms.specs.declared.fault.TitleKind.{TitleKind}
use Rattle.title_terms.specs.declared.fault.TitleKind.TheVariants as kinds
use Rattle.title_terms.specs.Titles.{IsDigest}
use Rattle.title_terms.specs.TitleText.{digest_said, kinds_of_rows, digest_form}
use Rattle.title_terms.proofs.SayLaws.{digest_is, digest_valid, digest_again}

-- what the digests of a title keep
pub record AreDigests (digests : List (List ℕ)) : Type 0 where
  pub valid : All IsDigest digests
  pub distinct : AllPairs (λ x y. x ≢ y) digests

-- ---- the same digest

pub new_differs : (digest : List ℕ) (past : List (List ℕ)) → list_any (bytes_eq digest) past ≡ false → (k : ℕ) (d : List ℕ) → k < length past → get_or past k d ≢ digest
new_differs digest past none k d lt =
    λ same.
    let passes : bytes_eq digest (get_or past k d) ≡ true = (bytes_eq-Decides digest (get_or past k d)).1 (sym same) in
    let some = list_any-from_Any (bytes_eq digest) past (k, get_or past k d, lt, get_or_default past k (get_or past k d) d lt, passes) in
    absurd (cc (none, some))

pub different_is_new : (digest : List ℕ) (past : List (List ℕ)) → ((k : ℕ) (d : List ℕ) → k < length past → get_or past k d ≢ digest) → list_any (bytes_eq digest) past ≡ false
different_is_new digest past differ =
    list_any_none (bytes_eq digest) past (λ k d lt. false_from_ne_true (bytes_eq digest (get_or past k d)) (λ same. differ k d lt (sym ((bytes_eq-Decides digest (get_or past k d)).0 same))))

-- ---- a digest

row_read : (past : List (List ℕ)) (digest : List ℕ) (at after : Place) → AreDigests past → digest_form past at ≡ Ok (digest, after) → Grows encode_lower AreDigests past digest at after
unfolding digest_form
row_read past digest at after keeps is =
    let r = split is in
    let l = line_read kinds_of_rows r.first in
    let t = split r.next in
    let m = met kinds.Duplicate t.first in
    let g = gave {K = TitleKind} t.next in
    let new : list_any (bytes_eq r.x) past ≡ false = not-true (list_any (bytes_eq r.x) past) m.is in
    let took : Took at (encode_lower r.x ∷ []) r.between = subst (λ (line : List ℕ). Took at (line ∷ []) r.between) (digest_is l.text r.x l.says) l.took in
    let here : Grows encode_lower AreDigests past r.x at after = record {
      took = subst (λ (p : Place). Took at (encode_lower r.x ∷ []) p) (m.same ∙ g.same) took;
      keeps = record {
        valid = All-push IsDigest past r.x keeps.valid (digest_valid l.text r.x l.says);
        distinct = all_pairs_push (λ x y. x ≢ y) past r.x keeps.distinct (new_differs r.x past new);
      };
    } in
    subst (λ (x : List ℕ). Grows encode_lower AreDigests past x at after) g.is here

row_again : (past : List (List ℕ)) (digest : List ℕ) (more : List (List ℕ)) → AreDigests (past ++ digest ∷ more) → (number : ℕ) (lines : List (List ℕ)) (tail : List ℕ)
    → digest_form past (place number (encode_lower digest ∷ lines) tail) ≡ Ok (digest, place (number + 1) lines tail)
unfolding digest_form
row_again past digest more keeps number lines tail =
    let inside : length past < length (past ++ digest ∷ more) = omega (arith, length-append past (digest ∷ more)) in
    let valid : IsDigest digest = subst IsDigest (get_or-append_seam past digest more digest) (keeps.valid (length past) digest inside) in
    let differ : (k : ℕ) (d : List ℕ) → k < length past → get_or past k d ≢ digest =
    λ k d lt same. keeps.distinct k (length past) d lt inside (get_or-append past (digest ∷ more) d k lt ∙ same ∙ sym (get_or-append_seam past digest more d)) in
    let new : not (list_any (bytes_eq digest) past) ≡ true = not_from_false (list_any (bytes_eq digest) past) (different_is_new digest past differ) in
    join (row kinds_of_rows digest_said) _ (line_again kinds_of_rows digest_said (encode_lower digest) digest number lines tail (digest_again digest valid))
    (join {K = TitleKind} (require (not (list_any (bytes_eq digest) past)) kinds.Duplicate) _ (meets kinds.Duplicate (place (number + 1) lines tail) new) (given digest (place (number + 1) lines tail)))

-- ---- all of them

no_digests : AreDigests []
no_digests = record { valid = All-nil IsDigest; distinct = λ i j d lt within. absurd (omega arith) }

pub record AreDigestsRead (count : ℕ) (digests : List (List ℕ)) (at after : Place) : Type 0 where
  pub keeps : AreDigests digests
  pub full : length digests ≡ count
  pub took : Took at (map encode_lower digests) after

pub digests_read : (count : ℕ) (at after : Place) (found : List (List ℕ)) → rows_after [] count digest_form at ≡ Ok (found, after) → AreDigestsRead count found at after
digests_read count at after found is =
    let rows = rows_read digest_form encode_lower AreDigests row_read [] count found at after no_digests is in
    record {
      keeps = rows.keeps;
      full = ap length rows.are ∙ rows.long;
      took = subst (λ (digests : List (List ℕ)). Took at (map encode_lower digests) after) (sym rows.are) rows.took;
    }

pub digests_again : (digests : List (List ℕ)) (number : ℕ) (lines : List (List ℕ)) → AreDigests digests
    → rows_after [] (length digests) digest_form (place number (map encode_lower digests ++ lines) []) ≡ Ok (digests, place (number + length digests) lines [])
digests_again digests number lines keeps = rows_again digest_form encode_lower AreDigests row_again [] digests number lines [] keeps
