-- The two directions: the text of a valid title is read as that title, and what is read was the text of a valid one.
use Rattle.std.proofs.Common.{◌≡◌, ◌≢◌, ◌∙◌, ap, subst, ℕ, ◌+◌, ◌*◌, ◌^◌, ◌<◌, ◌≤◌, Bool, true, false, not, eqb, nat_le, codes, List, [], ◌∷◌, ◌++◌, length, map, Ok, All, refl, append-nil, arith}
use Rattle.std.specs.Fmt.{decimal}
use Rattle.std.specs.List.{flat_map, list_all}
use Rattle.std.proofs.Math.Pow.{pow_mono}
use Rattle.std.proofs.lemmas.Bool.{and_parts, leb-true}
use Rattle.std.proofs.lemmas.List.Elements.{All-nil, All-cons, All-map, All-append, All-weaker}
use Rattle.text_terms.proofs.NameLaws.{plain_no_line_feed, name_no_line_feed}
use Rattle.text_terms.specs.Names.{is_name}
use Rattle.hex.specs.Hex.{encode_lower, is_hex_digit}
use Rattle.hex.proofs.HexLemmas.{decode_of-ok, decode_of-encode_lower}
use Rattle.form_terms.specs.TextLines.{line}
use Rattle.form_terms.specs.Forms.{Place, place, before, rows_after, the_end, found_in}
use Rattle.form_terms.proofs.LineLaws.{OneLine, OneLine-decimal, OneLine_from, OneLine-append}
use Rattle.form_terms.proofs.FormLaws.{Took, took_then, split, join, gave, given, ended, ends, text_read, whole_text, before_lines}
use Rattle.playlist_terms.specs.Lines.{stands_as_uri}
use Rattle.playlist_terms.specs.Playlists.{PlaylistSegment, Playlist, IsSegment, IsPlaylist}
use Rattle.title_terms.specs.declared.fault.TitleKind.{TitleKind}
use Rattle.title_terms.specs.declared.fault.TitleKind.TheVariants as kinds
use Rattle.decoding_terms.specs.Parameters.{is_bound, is_light}
use Rattle.register_terms.specs.Rules.{are_bits}
use Rattle.title_terms.specs.Designs.{Design, have_room, places}
use Rattle.title_terms.specs.Titles.{Title, IsTitle, IsDigest}
use Rattle.title_terms.specs.TitleText.{cut_text, segment_text, design_lines, list_lines, marked_lines, title_lines, title_text, design_form, list_form, marked_form, digest_form, title_form, title_of}
use Rattle.title_terms.proofs.DesignLines.{IsSketch, sketch_of, affix_one_line, design_read, design_again}
use Rattle.title_terms.proofs.ListLines.{list_read, list_again}
use Rattle.title_terms.proofs.MarkLines.{AreMarks, marks_read, marks_again}
use Rattle.title_terms.proofs.DigestLines.{digests_read, digests_again}

-- ---- what is read was written

pub record IsText (t : Title) (bytes : List ℕ) : Type 0 where
  pub valid : IsTitle t
  pub text : bytes ≡ title_text t

pub read_was_written : (bytes : List ℕ) (t : Title) → title_of bytes ≡ Ok t → IsText t bytes
unfolding title_of title_form title_text
read_was_written bytes t is =
    let whole = text_read title_form bytes is in
    let d = split whole.is in
    let design = design_read (before 0 bytes) d.between d.x d.first in
    let p = split d.next in
    let list = list_read d.between p.between p.x p.first in
    let n = split p.next in
    let marks = marks_read d.x (length p.x.segments) p.between n.between n.x n.first in
    let h = split n.next in
    let digests = digests_read (length n.x * 2 ^ d.x.bits) n.between h.between h.x h.first in
    let e = split h.next in
    let over = ended kinds.Form e.first in
    let g = gave {K = TitleKind} e.next in
    let same_end : h.between ≡ whole.after = over.same ∙ g.same in
    let made : Title = record { design = record d.x { marked = n.x }; list = p.x; digests = h.x } in
    let took : Took (before 0 bytes) (title_lines made) h.between = took_then design.took (took_then list.took (took_then marks.took digests.took)) in
    let text : bytes ≡ flat_map line (title_lines made) = whole_text bytes (title_lines made) h.between took over.lines over.tail in
    let bound = and_parts (is_bound d.x.bound) (is_light d.x.dimension d.x.bound) design.sketch.bound in
    let few = list.valid.room in
    let valid : IsTitle made = record {
      design = record {
        name = design.sketch.name;
        bits = design.sketch.bits;
        dimension = design.sketch.dimension;
        bound = bound.0;
        light = bound.1;
        prefix = design.sketch.prefix;
        suffix = design.sketch.suffix;
        enough = marks.enough;
        room = marks.room;
        ascending = marks.keeps.rise;
        small = All-weaker (λ segment. segment < length p.x.segments) (λ segment. segment < 100000) (λ segment lt. omega (arith, lt, few)) n.x marks.keeps.below;
      };
      list = list.valid;
      marked = marks.keeps.below;
      full = digests.full;
      digests = digests.keeps.valid;
      distinct = digests.keeps.distinct;
    } in
    let here : IsText made bytes = record { valid = valid; text = text } in
    subst (λ (t : Title). IsText t bytes) g.is here

-- ---- no line has a line feed in it

data OneLines : List (List ℕ) → Type 0 where
  none : OneLines []
  first : {text : List ℕ} {texts : List (List ℕ)} → OneLine text → OneLines texts → OneLines (text ∷ texts)

all_from : {texts : List (List ℕ)} → OneLines texts → All OneLine texts
all_from none = All-nil OneLine
all_from (first {text} {texts} one others) = All-cons OneLine text texts one (all_from others)

word_one : (word text : List ℕ) → list_all (λ b. not (eqb b 10)) word ≡ true → OneLine text → OneLine (word ++ text)
word_one word text one rest = OneLine-append word text (OneLine_from word one) rest

design_one : (d : Design) → IsSketch d → All OneLine (design_lines d)
design_one d sketch =
    let m_high = (and_parts (nat_le 4 d.bits) (nat_le d.bits 8) sketch.bits).1 in
    let k_high = (and_parts (nat_le 2 d.dimension) (nat_le d.dimension 13) sketch.dimension).1 in
    let bound = (and_parts (is_bound d.bound) (is_light d.dimension d.bound) sketch.bound).0 in
    let c_high = (and_parts (nat_le 1 d.bound) (nat_le d.bound 8) bound).1 in
    let m_small : d.bits < 2 ^ 128 = omega (arith, leb-true d.bits 8 m_high) in
    let k_small : d.dimension < 2 ^ 128 = omega (arith, leb-true d.dimension 13 k_high) in
    let c_small : d.bound < 2 ^ 128 = omega (arith, leb-true d.bound 8 c_high) in
    let lines : OneLines (design_lines d) =
    first (OneLine_from (codes "title 1") refl)
    (first (word_one (codes "name ") d.name refl (plain_no_line_feed d.name sketch.name))
    (first (word_one (codes "m ") (decimal d.bits) refl (OneLine-decimal d.bits m_small))
    (first (word_one (codes "k ") (decimal d.dimension) refl (OneLine-decimal d.dimension k_small))
    (first (word_one (codes "c ") (decimal d.bound) refl (OneLine-decimal d.bound c_small))
    (first (word_one (codes "prefix ") d.prefix refl (affix_one_line d.prefix sketch.prefix))
    (first (word_one (codes "suffix ") d.suffix refl (affix_one_line d.suffix sketch.suffix)) none)))))) in
    all_from lines

cut_one : (cut : Bool) → OneLine (cut_text cut)
cut_one true = OneLine_from (codes "1") refl
cut_one false = OneLine_from (codes "0") refl

segment_one : (s : PlaylistSegment) → IsSegment s → OneLine (segment_text s)
segment_one s valid =
    let name = (and_parts (is_name s.uri) (stands_as_uri s.uri) valid.uri).0 in
    let micros = valid.micros in
    let small : s.micros < 2 ^ 128 = omega (arith, micros) in
    OneLine-append (cut_text s.cut) (codes " " ++ (decimal s.micros ++ (codes " " ++ s.uri))) (cut_one s.cut)
    (word_one (codes " ") (decimal s.micros ++ (codes " " ++ s.uri)) refl
    (OneLine-append (decimal s.micros) (codes " " ++ s.uri) (OneLine-decimal s.micros small)
    (word_one (codes " ") s.uri refl (name_no_line_feed s.uri name))))

list_one : (p : Playlist) → IsPlaylist p → All OneLine (list_lines p)
list_one p valid =
    let version_high = valid.version_high in
    let target_below = valid.target in
    let sequence_below = valid.sequence in
    let room = valid.room in
    let version_small : p.version < 2 ^ 128 = omega (arith, version_high) in
    let target_small : p.target < 2 ^ 128 = omega (arith, target_below) in
    let sequence_small : p.sequence < 2 ^ 128 = omega (arith, sequence_below) in
    let count_small : length p.segments < 2 ^ 128 = omega (arith, room) in
    let segments : All OneLine (map segment_text p.segments) = All-map OneLine segment_text p.segments (All-weaker IsSegment (λ s. OneLine (segment_text s)) segment_one p.segments valid.segments) in
    let heads : List (List ℕ) = (codes "version " ++ decimal p.version) ∷ (codes "target " ++ decimal p.target) ∷ (codes "sequence " ++ decimal p.sequence) ∷ (codes "segments " ++ decimal (length p.segments)) ∷ [] in
    let lines : OneLines heads =
    first (word_one (codes "version ") (decimal p.version) refl (OneLine-decimal p.version version_small))
    (first (word_one (codes "target ") (decimal p.target) refl (OneLine-decimal p.target target_small))
    (first (word_one (codes "sequence ") (decimal p.sequence) refl (OneLine-decimal p.sequence sequence_small))
    (first (word_one (codes "segments ") (decimal (length p.segments)) refl (OneLine-decimal (length p.segments) count_small)) none))) in
    All-append OneLine heads (map segment_text p.segments) (all_from lines) segments

marks_one : (segments : ℕ) (marks : List ℕ) → segments ≤ 100000 → length marks < 2 ^ 128 → AreMarks segments marks → All OneLine (marked_lines marks)
marks_one segments marks few short keeps =
    let each : All OneLine (map decimal marks) = All-map OneLine decimal marks (All-weaker (λ segment. segment < segments) (λ segment. OneLine (decimal segment)) (λ segment lt. OneLine-decimal segment (omega (arith, lt, few))) marks keeps.below) in
    All-cons OneLine (codes "marked " ++ decimal (length marks)) (map decimal marks) (word_one (codes "marked ") (decimal (length marks)) refl (OneLine-decimal (length marks) short)) each

hex_one : (b : ℕ) → is_hex_digit b ≡ true → b ≢ 10
hex_one b is = λ same. let ten : is_hex_digit 10 ≡ true = subst (λ (x : ℕ). is_hex_digit x ≡ true) same is in absurd cc

digest_one : (digest : List ℕ) → IsDigest digest → OneLine (encode_lower digest)
digest_one digest valid =
    let digits = (decode_of-ok (encode_lower digest) digest (decode_of-encode_lower digest valid.bytes)).1 in
    All-weaker (λ b. is_hex_digit b ≡ true) (λ b. b ≢ 10) hex_one (encode_lower digest) digits

few_marks : (m n : ℕ) → are_bits m ≡ true → have_room m n ≡ true → n < 2 ^ 128
few_marks m n bits room =
    let high : m ≤ 8 = leb-true m 8 (and_parts (nat_le 4 m) (nat_le m 8) bits).1 in
    let most : 2 ^ m ≤ 2 ^ 8 = pow_mono high in
    omega (arith, most, leb-true n (2 ^ m) room)

lines_one : (t : Title) → IsTitle t → All OneLine (title_lines t)
lines_one t valid =
    let digests : All OneLine (map encode_lower t.digests) = All-map OneLine encode_lower t.digests (All-weaker IsDigest (λ digest. OneLine (encode_lower digest)) digest_one t.digests valid.digests) in
    let marks : All OneLine (marked_lines t.design.marked) = marks_one (length t.list.segments) t.design.marked valid.list.room (few_marks t.design.bits (places t.design) valid.design.bits valid.design.room) (record { below = valid.marked; rise = valid.design.ascending }) in
    let behind : List (List ℕ) = marked_lines t.design.marked ++ map encode_lower t.digests in
    All-append OneLine (design_lines t.design) (list_lines t.list ++ behind) (design_one t.design (sketch_of t.design valid.design))
    (All-append OneLine (list_lines t.list) behind (list_one t.list valid.list)
    (All-append OneLine (marked_lines t.design.marked) (map encode_lower t.digests) marks digests))

-- ---- what is written is read

pub written_is_read : (bytes : List ℕ) (t : Title) → IsTitle t → bytes ≡ title_text t → title_of bytes ≡ Ok t
unfolding title_of title_form title_text
written_is_read bytes t valid is =
    let bare : Design = record t.design { marked = [] } in
    let marks : List ℕ = t.design.marked in
    let segments : ℕ = length t.list.segments in
    let digest_lines : List (List ℕ) = map encode_lower t.digests in
    let mark_lines : List (List ℕ) = marked_lines marks ++ digest_lines in
    let at_marks : ℕ = 7 + 1 + 1 + 1 + 1 + segments in
    let at_digests : ℕ = at_marks + 1 + length marks in
    let few = few_marks t.design.bits (places t.design) valid.design.bits valid.design.room in
    let nothing_more : digest_lines ++ [] ≡ digest_lines = append-nil digest_lines in
    let taken : rows_after [] (length t.digests) digest_form (place at_digests (digest_lines ++ []) []) ≡ Ok (t.digests, place (at_digests + length t.digests) [] []) =
    digests_again t.digests at_digests [] (record { valid = valid.digests; distinct = valid.distinct }) in
    let read : rows_after [] (length marks * 2 ^ t.design.bits) digest_form (place at_digests digest_lines []) ≡ Ok (t.digests, place (at_digests + length t.digests) [] []) = rw (← valid.full, ← nothing_more) taken in
    let whole : title_form (place 0 (title_lines t) []) ≡ Ok (t, place (at_digests + length t.digests) [] []) =
    join design_form _ (design_again t.design (list_lines t.list ++ mark_lines) (sketch_of t.design valid.design))
    (join list_form _ (list_again t.list 7 mark_lines valid.list)
    (join (marked_form bare segments) _ (marks_again bare segments marks at_marks digest_lines valid.list.room few valid.design.enough valid.design.room (record { below = valid.marked; rise = valid.design.ascending }))
    (join (rows_after [] (length marks * 2 ^ t.design.bits) digest_form) _ read
    (join (the_end kinds.Form) _ (ends kinds.Form (at_digests + length t.digests)) (given t (place (at_digests + length t.digests) [] [])))))) in
    ap (λ (b : List ℕ). found_in (title_form (before 0 b))) is
    ∙ ap (λ (p : Place). found_in (title_form p)) (before_lines (title_lines t) (lines_one t valid))
    ∙ ap found_in whole
