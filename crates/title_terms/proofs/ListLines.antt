-- The lines of the media playlist in a title: what is written is read, and what is read was written.
use Rattle.std.proofs.Common.{◌≡◌, ◌∙◌, sym, ap, subst, ℕ, ◌+◌, ◌^◌, ◌<◌, Bool, true, ◌&&◌, nat_le, List, [], ◌∷◌, ◌++◌, length, map, codes, Ok, All, arith}
use Rattle.std.specs.Prelude.{nat_lt}
use Rattle.std.specs.Fmt.{decimal}
use Rattle.std.proofs.Math.Seq.{get_or-append_seam}
use Rattle.std.proofs.lemmas.Bool.{and_parts, and_from, leb-true, le-leb, ltb-true, lt-ltb}
use Rattle.std.proofs.lemmas.List.Elements.{All-nil, All-push}
use Rattle.std.proofs.lemmas.Str.{IsUtf8-from_is_utf8, is_utf8-from_IsUtf8}
use Rattle.std.proofs.Common.{length-append}
use Rattle.form_terms.specs.Forms.{Place, place, row, number_row, rows_after, require}
use Rattle.form_terms.proofs.FormLaws.{Took, took_then, Grows, split, join, gave, given, met, meets, line_read, line_again, number_read, number_again, rows_read, rows_again}
use Rattle.playlist_terms.specs.Playlists.{PlaylistSegment, Playlist, IsSegment, IsPlaylist, is_segment_uri}
use Rattle.title_terms.specs.declared.fault.TitleKind.{TitleKind}
use Rattle.title_terms.specs.declared.fault.TitleKind.TheVariants as kinds
use Rattle.title_terms.specs.TitleText.{segment_text, list_lines, segment_said, kinds_of_rows, is_segment, segment_form, list_form}
use Rattle.title_terms.proofs.SayLaws.{segment_is, segment_again}

-- ---- a segment

row_read : (past : List PlaylistSegment) (s : PlaylistSegment) (at after : Place) → All IsSegment past → segment_form past at ≡ Ok (s, after) → Grows segment_text (All IsSegment) past s at after
unfolding segment_form
row_read past s at after keeps is =
    let r = split is in
    let l = line_read kinds_of_rows r.first in
    let said = segment_is l.text r.x l.says in
    let t = split r.next in
    let m = met kinds.Rule t.first in
    let g = gave {K = TitleKind} t.next in
    let rules = and_parts (is_segment_uri r.x.uri) (nat_lt r.x.micros (10 ^ 16)) m.is in
    let valid : IsSegment r.x = record { uri = rules.0; utf8 = IsUtf8-from_is_utf8 r.x.uri said.utf8; micros = ltb-true r.x.micros (10 ^ 16) rules.1 } in
    let took : Took at (segment_text r.x ∷ []) r.between = subst (λ (line : List ℕ). Took at (line ∷ []) r.between) said.is l.took in
    let here : Grows segment_text (All IsSegment) past r.x at after = record {
      took = subst (λ (p : Place). Took at (segment_text r.x ∷ []) p) (m.same ∙ g.same) took;
      keeps = All-push IsSegment past r.x keeps valid;
    } in
    subst (λ (x : PlaylistSegment). Grows segment_text (All IsSegment) past x at after) g.is here

row_again : (past : List PlaylistSegment) (s : PlaylistSegment) (more : List PlaylistSegment) → All IsSegment (past ++ s ∷ more) → (number : ℕ) (lines : List (List ℕ)) (tail : List ℕ)
    → segment_form past (place number (segment_text s ∷ lines) tail) ≡ Ok (s, place (number + 1) lines tail)
unfolding segment_form
row_again past s more keeps number lines tail =
    let inside : length past < length (past ++ s ∷ more) = omega (arith, length-append past (s ∷ more)) in
    let valid : IsSegment s = subst IsSegment (get_or-append_seam past s more s) (keeps (length past) s inside) in
    let rules : is_segment s ≡ true = and_from (is_segment_uri s.uri) (nat_lt s.micros (10 ^ 16)) valid.uri (lt-ltb s.micros (10 ^ 16) valid.micros) in
    let small : s.micros < 2 ^ 128 = omega (arith, valid.micros) in
    join (row kinds_of_rows segment_said) _ (line_again kinds_of_rows segment_said (segment_text s) s number lines tail (segment_again s small (is_utf8-from_IsUtf8 s.uri valid.utf8)))
    (join {K = TitleKind} (require (is_segment s) kinds.Rule) _ (meets kinds.Rule (place (number + 1) lines tail) rules) (given s (place (number + 1) lines tail)))

-- ---- the list

pub record IsListRead (p : Playlist) (at after : Place) : Type 0 where
  pub valid : IsPlaylist p
  pub took : Took at (list_lines p) after

pub list_read : (at after : Place) (found : Playlist) → list_form at ≡ Ok (found, after) → IsListRead found at after
unfolding list_form
list_read at after found is =
    let version = split is in
    let version_line = number_read kinds_of_rows kinds.Rule version.first in
    let target = split version.next in
    let target_line = number_read kinds_of_rows kinds.Rule target.first in
    let sequence = split target.next in
    let sequence_line = number_read kinds_of_rows kinds.Rule sequence.first in
    let count = split sequence.next in
    let count_line = number_read kinds_of_rows kinds.Rule count.first in
    let segments = split count.next in
    let g = gave {K = TitleKind} segments.next in
    let rows = rows_read segment_form segment_text (All IsSegment) row_read [] count.x segments.x count.between segments.between (All-nil IsSegment) segments.first in
    let long : count.x ≡ length segments.x = sym rows.long ∙ ap length (sym rows.are) in
    let made : Playlist = record { version = version.x; target = target.x; sequence = sequence.x; segments = segments.x } in
    let counted : Took sequence.between ((codes "segments " ++ decimal (length segments.x)) ∷ []) count.between = subst (λ (n : ℕ). Took sequence.between ((codes "segments " ++ decimal n) ∷ []) count.between) long count_line.took in
    let spelled : Took count.between (map segment_text segments.x) segments.between = subst (λ (ss : List PlaylistSegment). Took count.between (map segment_text ss) segments.between) (sym rows.are) rows.took in
    let took : Took at (list_lines made) segments.between = took_then version_line.took (took_then target_line.took (took_then sequence_line.took (took_then counted spelled))) in
    let range = and_parts (nat_le 1 version.x) (nat_le version.x 65535) version_line.allows in
    let here : IsListRead made at after = record {
      valid = record {
        version_low = leb-true 1 version.x range.0;
        version_high = leb-true version.x 65535 range.1;
        target = ltb-true target.x (2 ^ 64) target_line.allows;
        sequence = ltb-true sequence.x (2 ^ 64) sequence_line.allows;
        segments = rows.keeps;
        room = omega (arith, leb-true count.x 100000 count_line.allows, long);
      };
      took = subst (λ (p : Place). Took at (list_lines made) p) g.same took;
    } in
    subst (λ (p : Playlist). IsListRead p at after) g.is here

pub list_again : (p : Playlist) (number : ℕ) (lines : List (List ℕ)) → IsPlaylist p → list_form (place number (list_lines p ++ lines) []) ≡ Ok (p, place (number + 1 + 1 + 1 + 1 + length p.segments) lines [])
unfolding list_form
list_again p number lines valid =
    let version_high = valid.version_high in
    let target_below = valid.target in
    let sequence_below = valid.sequence in
    let room = valid.room in
    let version_rule : ℕ → Bool = λ n. nat_le 1 n && nat_le n 65535 in
    let number_rule : ℕ → Bool = λ n. nat_lt n (2 ^ 64) in
    let count_rule : ℕ → Bool = λ n. nat_le n 100000 in
    let segments_lines : List (List ℕ) = map segment_text p.segments ++ lines in
    let count_lines : List (List ℕ) = (codes "segments " ++ decimal (length p.segments)) ∷ segments_lines in
    let sequence_lines : List (List ℕ) = (codes "sequence " ++ decimal p.sequence) ∷ count_lines in
    let target_lines : List (List ℕ) = (codes "target " ++ decimal p.target) ∷ sequence_lines in
    let behind : ℕ = number + 1 + 1 + 1 + 1 in
    join (number_row kinds_of_rows (codes "version ") version_rule kinds.Rule) _ (number_again kinds_of_rows (codes "version ") version_rule kinds.Rule p.version number target_lines [] (omega arith) (and_from (nat_le 1 p.version) (nat_le p.version 65535) (le-leb 1 p.version valid.version_low) (le-leb p.version 65535 valid.version_high)))
    (join (number_row kinds_of_rows (codes "target ") number_rule kinds.Rule) _ (number_again kinds_of_rows (codes "target ") number_rule kinds.Rule p.target (number + 1) sequence_lines [] (omega arith) (lt-ltb p.target (2 ^ 64) valid.target))
    (join (number_row kinds_of_rows (codes "sequence ") number_rule kinds.Rule) _ (number_again kinds_of_rows (codes "sequence ") number_rule kinds.Rule p.sequence (number + 1 + 1) count_lines [] (omega arith) (lt-ltb p.sequence (2 ^ 64) valid.sequence))
    (join (number_row kinds_of_rows (codes "segments ") count_rule kinds.Rule) _ (number_again kinds_of_rows (codes "segments ") count_rule kinds.Rule (length p.segments) (number + 1 + 1 + 1) segments_lines [] (omega arith) (le-leb (length p.segments) 100000 valid.room))
    (join (rows_after [] (length p.segments) segment_form) _ (rows_again segment_form segment_text (All IsSegment) row_again [] p.segments behind lines [] valid.segments)
    (given p (place (behind + length p.segments) lines []))))))
