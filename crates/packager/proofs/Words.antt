-- The word of a licensee's symbols marks the list that the licensee gets.
use Rattle.std.proofs.Common.{◌≡◌, ◌∙◌, sym, ap, ap₂, refl, subst, ℕ, ◌+◌, ◌<◌, max, true, eqb, List, [], ◌∷◌, map, Option, Some, None, arith}
use Rattle.std.specs.List.{enumerate_from}
use Rattle.std.specs.Option.{unwrap_or}
use Rattle.std.proofs.lemmas.Bool.{and_parts, eqb-true}
use Rattle.std.proofs.lemmas.List.FromFn.{get_or-map-range_with_len}
use Rattle.std.proofs.lemmas.List.Quantifiers.{position-Some}
use Rattle.code_terms.specs.Symbols.{symbol_of}
use Rattle.code_terms.specs.Words.{codeword_of}
use Rattle.register_terms.specs.Enrolment.{Enrolment, message_of}
use Rattle.playlist_terms.specs.Playlists.{PlaylistSegment}
use Rattle.title_terms.specs.Designs.{places, symbols, variant_name}
use Rattle.title_terms.specs.Titles.{Title, IsTitle}
use Rattle.packaging_terms.specs.Licensees.{fits, place_of, symbol_at, uri_at, licensed_segment, licensed_list, raised_target}
use Rattle.packaging_terms.proofs.Lists.{licensable, symbol_below}
use Rattle.packager.specs.Marking.{AreSymbols, symbol_in, uri_by, marked_at, marked_list}

-- the word of the licensee's symbols
abbrev pub word_for : Title → Enrolment → ℕ → List (Option ℕ)
word_for t e serial = codeword_of e.bits e.dimension (message_of e serial) (places t.design)

slot : (t : Title) (e : Enrolment) (serial place : ℕ) → place < places t.design → symbol_in (word_for t e serial) place ≡ symbol_at e serial place
unfolding codeword_of
slot t e serial place lt =
    ap (λ (o : Option ℕ). unwrap_or o 0)
    (get_or-map-range_with_len (λ i. Some (symbol_of e.bits e.dimension (message_of e serial) i)) 0 (places t.design) place place None lt (omega arith))

segment_by : (t : Title) (e : Enrolment) (serial n : ℕ) (s : PlaylistSegment) (place : Option ℕ) → place_of t.design n ≡ place
    → record s { uri = uri_by t (word_for t e serial) s.uri place } ≡ record s { uri = uri_at t e serial s.uri place }
segment_by t e serial n s None is = refl
segment_by t e serial n s (Some place) is =
    let at = position-Some (λ marked. eqb marked n) t.design.marked place 0 is in
    ap (λ (symbol : ℕ). record s { uri = variant_name t.design place symbol }) (slot t e serial place at.0)

segments_by : (t : Title) (e : Enrolment) (serial n : ℕ) (segments : List PlaylistSegment)
    → map (marked_at t (word_for t e serial)) (enumerate_from n segments) ≡ map (licensed_segment t e serial) (enumerate_from n segments)
segments_by t e serial n [] = refl
segments_by t e serial n (s ∷ segments) = ap₂ (λ (x : PlaylistSegment) (xs : List PlaylistSegment). x ∷ xs) (segment_by t e serial n s (place_of t.design n) refl) (segments_by t e serial (n + 1) segments)

list_by : (t : Title) (e : Enrolment) (serial : ℕ) → marked_list t (word_for t e serial) ≡ licensed_list t e serial
unfolding marked_list licensed_list
list_by t e serial =
    ap (λ (segments : List PlaylistSegment). record { version = max 3 t.list.version; target = raised_target t.list; sequence = t.list.sequence; segments = segments })
    (segments_by t e serial 0 t.list.segments)

-- what a word of symbols is of
pub record IsWordFor (t : Title) (e : Enrolment) (serial : ℕ) (word : List (Option ℕ)) : Type 0 where
  pub list : marked_list t word ≡ licensed_list t e serial
  pub symbols : AreSymbols t word

pub is_word_for : (t : Title) (e : Enrolment) (serial bits message : ℕ) (word : List (Option ℕ)) → IsTitle t → fits t e ≡ true → bits ≡ t.design.bits → message ≡ message_of e serial
    → word ≡ codeword_of bits t.design.dimension message (places t.design) → IsWordFor t e serial word
is_word_for t e serial bits message word valid fit same sent is =
    let both = and_parts (eqb t.design.bits e.bits) (eqb t.design.dimension e.dimension) fit in
    let bits_same : bits ≡ e.bits = same ∙ eqb-true t.design.bits e.bits both.0 in
    let dimension_same : t.design.dimension ≡ e.dimension = eqb-true t.design.dimension e.dimension both.1 in
    let here : word ≡ word_for t e serial =
    is ∙ ap (λ (m : ℕ). codeword_of m t.design.dimension message (places t.design)) bits_same
    ∙ ap₂ (λ (k u : ℕ). codeword_of e.bits k u (places t.design)) dimension_same sent in
    record {
      list = ap (marked_list t) here ∙ list_by t e serial;
      symbols = subst (AreSymbols t) (sym here) (record {
        below = λ place lt.
            let below = symbol_below t e serial place (licensable t e valid fit) lt in
            subst (λ (v : ℕ). v < symbols t.design) (sym (slot t e serial place lt)) below;
      });
    }
