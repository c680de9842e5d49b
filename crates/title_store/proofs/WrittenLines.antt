-- The lines of a title, written one after the other.
use Rattle.std.proofs.Common.{◌≡◌, ℕ, suc, ◌+◌, ◌<◌, true, List, [], ◌∷◌, ◌++◌, length, map, take, append-nil, append_assoc, Option, Some, is_some, refl, ap, ◌∙◌, arith}
use Rattle.std.specs.Prelude.{slice_get}
use Rattle.std.specs.List.{flat_map, list_all}
use Rattle.std.proofs.Math.Seq.{take-suc}
use Rattle.std.proofs.lemmas.Grind.{flat_map-append}
use Rattle.std.proofs.lemmas.List.{map_push}
use Rattle.std.proofs.lemmas.Option.{slice_get_within, get_or_from_slice_get}
use Rattle.hex.specs.Hex.{encode_lower}
use Rattle.form_terms.specs.TextLines.{line}
use Rattle.title_terms.specs.Titles.{Title}
use Rattle.title_terms.specs.TitleText.{design_lines, list_lines, marked_lines, title_text}
use Rattle.title_store.specs.Cells.{held_at, filled}
use Rattle.title_store.proofs.Wholes.{slice_filled}

-- a line, one more, three at once and two more
pub seven_lines : (out a b m k c p s : List ℕ) → ((((out ++ line a) ++ line b) ++ (line m ++ (line k ++ line c))) ++ line p) ++ line s ≡ out ++ flat_map line (a ∷ b ∷ m ∷ k ∷ c ∷ p ∷ s ∷ [])
seven_lines out a b m k c p s = by (line a) (line b) (line m) (line k) (line c) (line p) (line s)
  where
    by : (a b m k c p s : List ℕ) → ((((out ++ a) ++ b) ++ (m ++ (k ++ c))) ++ p) ++ s ≡ out ++ (a ++ (b ++ (m ++ (k ++ (c ++ (p ++ (s ++ [])))))))
    by a b m k c p s = simp (append_assoc, append-nil) refl

pub title_text-parts : (t : Title) → title_text t ≡ flat_map line (design_lines t.design) ++ (flat_map line (list_lines t.list) ++ (flat_map line (marked_lines t.design.marked) ++ flat_map line (map encode_lower t.digests)))
unfolding title_text
title_text-parts t =
    let last = flat_map-append line (marked_lines t.design.marked) (map encode_lower t.digests) in
    let more = flat_map-append line (list_lines t.list) (marked_lines t.design.marked ++ map encode_lower t.digests) in
    flat_map-append line (design_lines t.design) (list_lines t.list ++ (marked_lines t.design.marked ++ map encode_lower t.digests))
    ∙ ap (λ (text : List ℕ). flat_map line (design_lines t.design) ++ text) (more ∙ ap (λ (text : List ℕ). flat_map line (list_lines t.list) ++ text) last)

-- four parts, one behind the other
pub four_parts : (none a b c d : List ℕ) → none ≡ [] → (((none ++ a) ++ b) ++ c) ++ d ≡ a ++ (b ++ (c ++ d))
four_parts none a b c d is = rw is (append_assoc (a ++ b) c d ∙ append_assoc a b (c ++ d))

pub one_more_digest : (cells : List (Option (List ℕ))) (i : ℕ) (d : List ℕ) → list_all is_some cells ≡ true → held_at cells i ≡ Some d
    → flat_map line (map encode_lower (take (i + 1) (filled cells))) ≡ flat_map line (map encode_lower (take i (filled cells))) ++ line (encode_lower d)
one_more_digest cells i d full holds =
    let there : slice_get (filled cells) i ≡ Some d = slice_filled cells i full ∙ holds in
    let within : i < length (filled cells) = slice_get_within (filled cells) i d there in
    let next : i + 1 ≡ suc i = omega arith in
    let one : take (i + 1) (filled cells) ≡ take i (filled cells) ++ d ∷ [] = ap (λ n. take n (filled cells)) next ∙ take-suc (filled cells) i d within ∙ ap (λ e. take i (filled cells) ++ e ∷ []) (get_or_from_slice_get (filled cells) i d d there) in
    ap (λ ds. flat_map line (map encode_lower ds)) one
    ∙ ap (flat_map line) (map_push encode_lower (take i (filled cells)) d)
    ∙ flat_map-append line (map encode_lower (take i (filled cells))) (encode_lower d ∷ [])
    ∙ ap (λ text. flat_map line (map encode_lower (take i (filled cells))) ++ text) (append-nil (line (encode_lower d)))
