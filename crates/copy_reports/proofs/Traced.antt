-- A report on a copy that is done traces coalitions.
use Rattle.std.proofs.Common.{◌≡◌, ◌∙◌, ℕ, ◌<◌, ◌≤◌, ◌^◌, List, length, true, Option, Some, Result, Ok, All, Contains, ap, sym, subst, arith}
use Rattle.std.specs.Prelude.{nat_le}
use Rattle.std.specs.List.{range_with_len}
use Rattle.std.proofs.lemmas.Bool.Decides.{nat_tests}
use Rattle.std.proofs.lemmas.List.Elements.{All-contains}
use Rattle.std.proofs.lemmas.List.FromFn.{length-map-range_with_len}
use Rattle.shelf_terms.specs.Blobs.{Blobs, blob_at}
use Rattle.code_terms.specs.Symbols.{symbol_of}
use Rattle.code_terms.specs.Words.{slot_at, readable}
use Rattle.register_terms.specs.Enrolment.{Enrolment}
use Rattle.register_terms.specs.RegisterText.{register_of}
use Rattle.register_terms.proofs.Texts.{read_was_written}
use Rattle.decoder_terms.specs.Decoding.{not_enough}
use Rattle.desk_terms.specs.Roll.{roll_of, message_at}
use Rattle.desk_terms.proofs.Rolls.{roll_of-is_roll, roll_of-length, roll_of-message}
use Rattle.playlist_terms.specs.Playlists.{Playlist}
use Rattle.playlist_terms.specs.Reading.{playlist_of}
use Rattle.title_terms.specs.Designs.{places, have_room}
use Rattle.title_terms.specs.Titles.{Title, IsTitle}
use Rattle.title_terms.specs.TitleText.{title_of}
use Rattle.packaging_terms.specs.Licensees.{fits, symbol_at}
use Rattle.copy_terms.specs.Copies.{word_of_copy, digests_of}
use Rattle.copy_terms.specs.Kept.{IsKept, IsFrom}
use Rattle.copy_terms.proofs.Explained.{explained}
use Rattle.coalition_terms.specs.Coalition.{IsCoalition, Explains, IsTraced}
use Rattle.coalition_terms.proofs.Tracing.{traced}
use Rattle.outcome_terms.specs.Reports.{HoldsRegister}
use Rattle.outcome_terms.specs.PackagingReports.{HoldsTitle, HoldsPlaylist}
use Rattle.outcome_terms.specs.TraceCommand.{is_served, segment_names}
use Rattle.outcome_terms.specs.TraceReports.{IsTraceReport, word_held}
use Rattle.copy_reports.specs.TracedCopies.{TracesExplained, TracesPackaged}

-- what two readings of one blob give is the same
one_reading : {A F : Type 0} (read : List ℕ → Result A F) (found : Option (List ℕ)) (bytes other : List ℕ) (x y : A) → found ≡ Some bytes → found ≡ Some other → read bytes ≡ Ok x → read other ≡ Ok y → x ≡ y
one_reading read found bytes other x y first second got given =
    let same : bytes ≡ other = cc in
    let both : read bytes ≡ read other = ap read same in
    cc

at_least_one : (t : Title) (c : ℕ) → is_served t c ≡ true → 1 ≤ c
at_least_one t c h = grind (arith, nat_tests)

-- ---- the word of a copy

-- it has a place for each marked segment
pub word-length : (t : Title) (digests : List (List ℕ)) → length (word_of_copy t digests) ≡ places t.design
unfolding word_of_copy
word-length t digests = length-map-range_with_len _ 0 (places t.design)

few_places : (n m : ℕ) → have_room m n ≡ true → n ≤ 2 ^ m
few_places n m h = grind (arith, nat_tests)

same_bits : (t : Title) (e : Enrolment) → fits t e ≡ true → t.design.bits ≡ e.bits
same_bits t e h = grind (arith, nat_tests)

pub word-short : (t : Title) (e : Enrolment) (digests : List (List ℕ)) → IsTitle t → fits t e ≡ true → length (word_of_copy t digests) ≤ 2 ^ e.bits
word-short t e digests valid fit =
    let few : places t.design ≤ 2 ^ t.design.bits = few_places (places t.design) t.design.bits valid.design.room in
    let long : length (word_of_copy t digests) ≤ 2 ^ t.design.bits = subst (λ (n : ℕ). n ≤ 2 ^ t.design.bits) (sym (word-length t digests)) few in
    subst (λ (m : ℕ). length (word_of_copy t digests) ≤ 2 ^ m) (same_bits t e fit) long

-- ---- the same title, register and copy

module _ (blobs : Blobs) (title register copy : List ℕ) (c : ℕ) (text : List ℕ) (report : IsTraceReport blobs title register copy c text) (t : Title) (e : Enrolment) (p : Playlist)
    (holds_title : HoldsTitle blobs title t) (holds_register : HoldsRegister blobs register e) (holds_copy : HoldsPlaylist blobs copy p) where
  same_title : report.t ≡ t
  same_title = one_reading title_of (blob_at blobs title) report.holds_title.bytes holds_title.bytes report.t t report.holds_title.held holds_title.held report.holds_title.read holds_title.read

  same_register : report.e ≡ e
  same_register = one_reading register_of (blob_at blobs register) report.holds_register.bytes holds_register.bytes report.e e report.holds_register.held holds_register.held report.holds_register.read holds_register.read

  same_copy : report.p ≡ p
  same_copy = one_reading playlist_of (blob_at blobs copy) report.holds_copy.bytes holds_copy.bytes report.p p report.holds_copy.held holds_copy.held report.holds_copy.read holds_copy.read

  pub valid_title : IsTitle t
  valid_title = subst IsTitle same_title report.valid

  pub same_code : fits t e ≡ true
  same_code = subst (λ (u : Title). fits u e ≡ true) same_title (subst (λ (f : Enrolment). fits report.t f ≡ true) same_register report.same_code)

  served : is_served t c ≡ true
  served = subst (λ (u : Title). is_served u c ≡ true) same_title report.bound_served

  enough : not_enough e.dimension c < readable (word_held blobs t p)
  enough =
      subst (λ (q : Playlist). not_enough e.dimension c < readable (word_held blobs t q)) same_copy
      (subst (λ (u : Title). not_enough e.dimension c < readable (word_held blobs u report.p)) same_title
      (subst (λ (f : Enrolment). not_enough f.dimension c < readable (word_held blobs report.t report.p)) same_register report.enough))

  pub is_traced : (members : List ℕ) → IsCoalition (roll_of e) c members → Explains (roll_of e) members (word_held blobs t p) → IsTraced (roll_of e) (word_held blobs t p) c members
  is_traced members is_coalition explains =
      let valid = (read_was_written holds_register.bytes e holds_register.read).valid in
      traced (roll_of e) (word_held blobs t p) c members (roll_of-is_roll e valid) valid.bits_low valid.bits_high (word-short t e (digests_of blobs (segment_names p)) valid_title same_code)
      (at_least_one t c served) enough is_coalition explains

-- everyone whom the report names is a member of each coalition that explains the word of the copy, and somebody is named
pub explained_traced : (blobs : Blobs) (title register copy : List ℕ) (c : ℕ) (text : List ℕ) → IsTraceReport blobs title register copy c text → TracesExplained (Some blobs) title register copy c
explained_traced blobs title register copy c text report t e p members holds_title holds_register holds_copy is_coalition explains =
    is_traced blobs title register copy c text report t e p holds_title holds_register holds_copy members is_coalition explains

-- ---- from playlists to words

-- members whose playlists have all segments of the copy explain its word
packaged_explains : (blobs : Blobs) (t : Title) (e : Enrolment) (p : Playlist) (c : ℕ) (members : List ℕ) → IsTitle t → fits t e ≡ true → IsCoalition (roll_of e) c members → IsKept blobs t
    → All (IsFrom blobs t e members) (segment_names p) → Explains (roll_of e) members (word_held blobs t p)
packaged_explains blobs t e p c members valid fit is_coalition kept from place symbol is =
    let found = explained blobs t e members (segment_names p) valid fit kept from place symbol is in
    let entered : found.0 < length (roll_of e).entries = All-contains (λ (j : ℕ). j < length (roll_of e).entries) members found.0 is_coalition.enrolled found.1 in
    let enrolled : found.0 < length e.licensees = subst (λ (n : ℕ). found.0 < n) (roll_of-length e) entered in
    let as_message : symbol_of e.bits e.dimension (message_at (roll_of e) found.0) place ≡ symbol_at e found.0 place =
    ap (λ (u : ℕ). symbol_of e.bits e.dimension u place) (roll_of-message e found.0 enrolled) in
    (found.0, found.1, as_message ∙ found.2)

pub packaged_traced : (blobs : Blobs) (title register copy : List ℕ) (c : ℕ) (text : List ℕ) → IsTraceReport blobs title register copy c text → TracesPackaged (Some blobs) title register copy c
packaged_traced blobs title register copy c text report t e p members holds_title holds_register holds_copy is_coalition kept from =
    is_traced blobs title register copy c text report t e p holds_title holds_register holds_copy members is_coalition
    (packaged_explains blobs t e p c members (valid_title blobs title register copy c text report t e p holds_title holds_register holds_copy)
    (same_code blobs title register copy c text report t e p holds_title holds_register holds_copy) is_coalition kept from)
