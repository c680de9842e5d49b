-- The text that a title is kept as, and the first line that breaks the form of any other text. Each valid title has one text.
-- This project's own.
use Rattle.std.specs.Prelude.{ℕ, ◌+◌, ◌*◌, ◌^◌, Bool, true, false, ◌&&◌, ◌==◌, not, nat_le, nat_lt, if◌then◌else◌, List, [], ◌∷◌, ◌++◌, length, map, take, drop, codes, Option, Some, None, Result, Ok, Err}
use Rattle.std.specs.Fmt.{decimal}
use Rattle.std.specs.List.{flat_map, list_any, position}
use Rattle.std.specs.Str.{bytes_eq, is_utf8}
use Rattle.hex.specs.Hex.{encode_lower, decode_sized}
use Rattle.text_terms.specs.Names.{is_plain}
use Rattle.text_terms.specs.Numbers.{number_of}
use Rattle.form_terms.specs.declared.fault.LineFault.{LineFault}
use Rattle.form_terms.specs.declared.fault.RowKinds.{RowKinds}
use Rattle.form_terms.specs.TextLines.{line, number_text, after_word}
use Rattle.form_terms.specs.Forms.{Form, ◌>>=◌, ◌>>◌, give, require, row, number_row, rows, the_end, read_by}
use Rattle.playlist_terms.specs.Playlists.{PlaylistSegment, Playlist, is_segment_uri}
use Rattle.title_terms.specs.declared.fault.TitleKind.{TitleKind}
use Rattle.title_terms.specs.declared.fault.TitleKind.TheVariants as kinds
use Rattle.decoding_terms.specs.Parameters.{is_bound, is_light}
use Rattle.register_terms.specs.Rules.{are_bits, is_dimension}
use Rattle.title_terms.specs.Designs.{Design, is_affix, are_enough, have_room, is_above}
use Rattle.title_terms.specs.Titles.{Title}

abbrev pub TitleFault : Type 0
TitleFault = LineFault TitleKind

-- ---- the text

abbrev pub cut_text : Bool → List ℕ
cut_text cut = if cut then codes "1" else codes "0"

abbrev pub segment_text : PlaylistSegment → List ℕ
segment_text s = cut_text s.cut ++ (codes " " ++ (decimal s.micros ++ (codes " " ++ s.uri)))

abbrev pub design_lines : Design → List (List ℕ)
design_lines d =
    codes "title 1"
    ∷ (codes "name " ++ d.name)
    ∷ number_text (codes "m ") d.bits
    ∷ number_text (codes "k ") d.dimension
    ∷ number_text (codes "c ") d.bound
    ∷ (codes "prefix " ++ d.prefix)
    ∷ (codes "suffix " ++ d.suffix)
    ∷ []

abbrev pub list_lines : Playlist → List (List ℕ)
list_lines p =
    number_text (codes "version ") p.version
    ∷ number_text (codes "target ") p.target
    ∷ number_text (codes "sequence ") p.sequence
    ∷ number_text (codes "segments ") (length p.segments)
    ∷ map segment_text p.segments

abbrev pub marked_lines : List ℕ → List (List ℕ)
marked_lines marked = number_text (codes "marked ") (length marked) ∷ map decimal marked

abbrev pub title_lines : Title → List (List ℕ)
title_lines t = design_lines t.design ++ (list_lines t.list ++ (marked_lines t.design.marked ++ map encode_lower t.digests))

unfoldable pub title_text : Title → List ℕ
title_text t = flat_map line (title_lines t)

-- ---- what single lines say

abbrev pub exactly : List ℕ → List ℕ → Option (Unit {0})
exactly wanted text = if bytes_eq text wanted then Some tt else None

abbrev pub if_text : Option (List ℕ) → Option (List ℕ)
if_text None = None
if_text (Some bytes) = if is_utf8 bytes then Some bytes else None

-- the text behind a word
abbrev pub text_after : List ℕ → List ℕ → Option (List ℕ)
text_after word text = if_text (after_word word text)

-- what stands in front of the first space, and behind it
abbrev pub parted_at : List ℕ → Option ℕ → Option (List ℕ × List ℕ)
parted_at text None = None
parted_at text (Some space) = Some (take space text, drop (space + 1) text)

abbrev pub parted : List ℕ → Option (List ℕ × List ℕ)
parted text = parted_at text (position (λ b. b == 32) text)

abbrev pub cut_said : List ℕ → Option Bool
cut_said text = if bytes_eq text (codes "0") then Some false else (if bytes_eq text (codes "1") then Some true else None)

abbrev pub segment_of_parts : Option Bool → Option ℕ → List ℕ → Option PlaylistSegment
segment_of_parts (Some cut) (Some micros) uri = if is_utf8 uri then Some (record { micros = micros; uri = uri; cut = cut }) else None
segment_of_parts cut micros uri = None

abbrev pub timed_said : List ℕ → Option (List ℕ × List ℕ) → Option PlaylistSegment
timed_said cut None = None
timed_said cut (Some timed) = segment_of_parts (cut_said cut) (number_of timed.0) timed.1

abbrev pub cut_and_timed : Option (List ℕ × List ℕ) → Option PlaylistSegment
cut_and_timed None = None
cut_and_timed (Some parts) = timed_said parts.0 (parted parts.1)

-- a digit for the cut, a space, the microseconds, a space and the URI
unfoldable pub segment_said : List ℕ → Option PlaylistSegment
segment_said text = cut_and_timed (parted text)

abbrev pub spelled_so : {E : Type 0} → List ℕ → Result (List ℕ) E → Option (List ℕ)
spelled_so text (Ok digest) = if bytes_eq (encode_lower digest) text then Some digest else None
spelled_so text (Err e) = None

-- the 32 bytes that 64 digits spell, all of them in lower case
unfoldable pub digest_said : List ℕ → Option (List ℕ)
digest_said text = spelled_so text (decode_sized text 32)

-- ---- the form, line by line

abbrev pub kinds_of_rows : RowKinds TitleKind
kinds_of_rows = record { missing = kinds.Form; unended = kinds.Form; wrong = kinds.Form }

abbrev pub TitleForm : Type 0 → Type 0
TitleForm A = Form TitleKind A

abbrev pub number_line : List ℕ → (ℕ → Bool) → TitleForm ℕ
number_line word allowed = number_row kinds_of_rows word allowed kinds.Rule

-- a line of a word and a text that is allowed
unfoldable pub text_line : List ℕ → (List ℕ → Bool) → TitleForm (List ℕ)
text_line word allowed = do
  text ← row kinds_of_rows (text_after word)
  require (allowed text) kinds.Rule
  give text

-- lines 1 to 7: a design whose marks are still to come
unfoldable pub design_form : TitleForm Design
design_form = do
  row kinds_of_rows (exactly (codes "title 1"))
  name ← text_line (codes "name ") is_plain
  m ← number_line (codes "m ") are_bits
  k ← number_line (codes "k ") is_dimension
  c ← number_line (codes "c ") (λ c. is_bound c && is_light k c)
  prefix ← text_line (codes "prefix ") is_affix
  suffix ← text_line (codes "suffix ") is_affix
  give (record { name = name; bits = m; dimension = k; bound = c; prefix = prefix; suffix = suffix; marked = [] })

abbrev pub is_segment : PlaylistSegment → Bool
is_segment s = is_segment_uri s.uri && nat_lt s.micros (10 ^ 16)

unfoldable pub segment_form : List PlaylistSegment → TitleForm PlaylistSegment
segment_form past = do
  s ← row kinds_of_rows segment_said
  require (is_segment s) kinds.Rule
  give s

unfoldable pub list_form : TitleForm Playlist
list_form = do
  version ← number_line (codes "version ") (λ n. nat_le 1 n && nat_le n 65535)
  target ← number_line (codes "target ") (λ n. nat_lt n (2 ^ 64))
  sequence ← number_line (codes "sequence ") (λ n. nat_lt n (2 ^ 64))
  count ← number_line (codes "segments ") (λ n. nat_le n 100000)
  segments ← rows count segment_form
  give (record { version = version; target = target; sequence = sequence; segments = segments })

unfoldable pub mark_form : ℕ → List ℕ → TitleForm ℕ
mark_form segments past = do
  segment ← row kinds_of_rows number_of
  require (is_above past segment && nat_lt segment segments) kinds.Rule
  give segment

unfoldable pub marked_form : Design → ℕ → TitleForm (List ℕ)
marked_form d segments = do
  n ← number_line (codes "marked ") (λ n. are_enough d.dimension d.bound n && have_room d.bits n)
  rows n (mark_form segments)

-- a digest that no line in front has
unfoldable pub digest_form : List (List ℕ) → TitleForm (List ℕ)
digest_form past = do
  digest ← row kinds_of_rows digest_said
  require (not (list_any (bytes_eq digest) past)) kinds.Duplicate
  give digest

unfoldable pub title_form : TitleForm Title
title_form = do
  d ← design_form
  list ← list_form
  marked ← marked_form d (length list.segments)
  digests ← rows (length marked * 2 ^ d.bits) digest_form
  the_end kinds.Form
  give (record { design = record d { marked = marked }; list = list; digests = digests })

-- the title that a text spells, or the first line that breaks the form and what is wrong with it
unfoldable pub title_of : List ℕ → Result Title TitleFault
title_of bytes = read_by title_form bytes
