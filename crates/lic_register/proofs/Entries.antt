-- Entries of the index, and the licensees that they stand for.
use Rattle.std.proofs.Common.{◌≡◌, ◌≢◌, ℕ, zero, suc, ◌+◌, ◌<◌, Bool, true, false, cond, not, ltb, List, [], ◌∷◌, ◌++◌, length, map, take, append-nil, Option, Some, None, refl, sym, ap, ◌∙◌, subst, arith}
use Rattle.std.specs.Prelude.{slice_get}
use Rattle.std.specs.List.{position, position_or_len, flat_map}
use Rattle.std.specs.Map.{keys_of, lookup}
use Rattle.std.specs.HashMap.{HashMap}
use Rattle.std.proofs.Math.Seq.{take-suc}
use Rattle.std.proofs.lemmas.Grind.{flat_map-append}
use Rattle.std.proofs.lemmas.List.{map_push}
use Rattle.std.proofs.lemmas.Option.{slice_get_within, get_or_from_slice_get}
use Rattle.form_terms.specs.TextLines.{line}
use Rattle.register_terms.specs.RegisterText.{header_lines, licensee_line, register_text}
use Rattle.register_terms.specs.declared.edition.Edition.TheVariants.{Newer}
use Rattle.lic_register.specs.declared.rule.Rule.{Rule}
use Rattle.lic_register.specs.Parts.{register_by}
use Rattle.std.specs.Option.{option_map_or}
use Rattle.std.specs.Str.{bytes_eq}
use Rattle.std.specs.String.{string_bytes, string_eq}
use Rattle.std.specs.declared.string.String.{String}
use Rattle.indexmap.specs.IndexMap.{insert_entry}
use Rattle.indexmap.proofs.CallerLemmas.{insert_entry-new}
use Rattle.register_terms.proofs.Places.{no_place}
use Rattle.indexmap.specs.Layout.{set_value_at}
use Rattle.register_terms.specs.Enrolment.{Licensee, names_of, serial_of}
use Rattle.register_terms.specs.Rules.{withdrawn_at}
use Rattle.lic_register.specs.Index.{entry_licensee, entry_licensees, register_with}

-- the names of the licensees are the keys of the entries
pub names_are_keys : {Y : Type 0} (entries : List (String Y × Bool)) → names_of (entry_licensees entries) ≡ map string_bytes (keys_of entries)
names_are_keys [] = refl
names_are_keys (entry ∷ entries) = ap (λ (names : List (List ℕ)). string_bytes entry.0 ∷ names) (names_are_keys entries)

first_of_map : {X Y : Type 0} (f : X → Y) (p : Y → Bool) (xs : List X) → position_or_len p (map f xs) ≡ position_or_len (λ x. p (f x)) xs
first_of_map f p [] = refl
first_of_map f p (x ∷ xs) = ap (λ (n : ℕ). cond (not (p (f x))) (1 + n) 0) (first_of_map f p xs)

length_of_map : {X Y : Type 0} (f : X → Y) (xs : List X) → length (map f xs) ≡ length xs
length_of_map f [] = refl
length_of_map f (x ∷ xs) = ap suc (length_of_map f xs)

-- the place of a name among the keys is its serial
pub place_of_name : {Y : Type 0} (entries : List (String Y × Bool)) (name : List ℕ) → position (λ key. bytes_eq name (string_bytes key)) (keys_of entries) ≡ serial_of (names_of (entry_licensees entries)) name
place_of_name entries name =
    let names = names_are_keys entries in
    let first = first_of_map string_bytes (bytes_eq name) (keys_of entries) in
    let long = length_of_map string_bytes (keys_of entries) in
    rw (names, first, long) refl

-- a state that is taken away withdraws the licensee
pub withdrawn_entry : {Y : Type 0} (entries : List (String Y × Bool)) (serial : ℕ) → entry_licensees (set_value_at entries serial false) ≡ withdrawn_at (entry_licensees entries) serial
withdrawn_entry [] serial = refl
withdrawn_entry (entry ∷ entries) zero = refl
withdrawn_entry (entry ∷ entries) (suc serial) = ap (λ (xs : List Licensee). entry_licensee entry ∷ xs) (withdrawn_entry entries serial)

-- ---- a name that no entry has

missing : {K X : Type 0} (test : K → Bool) (entries : List (K × X)) → position_or_len test (keys_of entries) ≡ length (keys_of entries) → lookup test entries ≡ None
missing test [] none = refl
missing {K} {X} test (entry ∷ entries) none = by (test entry.0) refl (λ rest. missing test entries rest)
  where
    by : (passes : Bool) → test entry.0 ≡ passes → (position_or_len test (keys_of entries) ≡ length (keys_of entries) → lookup test entries ≡ None) → lookup test (entry ∷ entries) ≡ None
    by true is others = absurd (omega (arith, sym (ap (λ (b : Bool). cond (not b) (1 + position_or_len test (keys_of entries)) 0) is) ∙ none))
    by false is others =
        let rest : 1 + position_or_len test (keys_of entries) ≡ suc (length (keys_of entries)) = sym (ap (λ (b : Bool). cond (not b) (1 + position_or_len test (keys_of entries)) 0) is) ∙ none in
        rw is (others (omega (arith, rest)))

-- a name without a serial has no entry
pub absent_entry : {Y : Type 0} (entries : List (String Y × Bool)) (name : List ℕ) → serial_of (names_of (entry_licensees entries)) name ≡ None → lookup (λ key. bytes_eq name (string_bytes key)) entries ≡ None
absent_entry entries name none =
    missing (λ key. bytes_eq name (string_bytes key)) entries (no_place (λ key. bytes_eq name (string_bytes key)) (keys_of entries) (place_of_name entries name ∙ none))

-- a new name goes last
pub one_more_entry : {Y S : Type 0} (index : HashMap (String Y) Bool S) (key : String Y) (active : Bool) (name : List ℕ) → string_bytes key ≡ name → serial_of (names_of (entry_licensees index.entries)) name ≡ None
    → entry_licensees (insert_entry string_eq index.entries key active) ≡ entry_licensees index.entries ++ record { name = name; active = active } ∷ []
one_more_entry index key active name is none =
    let absent : lookup (string_eq key) index.entries ≡ None = absent_entry index.entries (string_bytes key) (ap (serial_of (names_of (entry_licensees index.entries))) is ∙ none) in
    ap entry_licensees (insert_entry-new string_eq index key active absent)
    ∙ map_push entry_licensee index.entries (key, active)
    ∙ ap (λ (bytes : List ℕ). entry_licensees index.entries ++ record { name = bytes; active = active } ∷ []) is

-- ---- one entry more of those that were written

pub one_more_line : {Y : Type 0} (entries : List (String Y × Bool)) (serial : ℕ) (entry : String Y × Bool) → slice_get entries serial ≡ Some entry
    → flat_map line (map (licensee_line Newer) (entry_licensees (take (serial + 1) entries))) ≡ flat_map line (map (licensee_line Newer) (entry_licensees (take serial entries))) ++ line (licensee_line Newer (entry_licensee entry))
one_more_line entries serial entry is =
    let within : serial < length entries = slice_get_within entries serial entry is in
    let next : serial + 1 ≡ suc serial = omega arith in
    let one : take (serial + 1) entries ≡ take serial entries ++ entry ∷ [] = ap (λ n. take n entries) next ∙ take-suc entries serial entry within ∙ ap (λ e. take serial entries ++ e ∷ []) (get_or_from_slice_get entries serial entry entry is) in
    ap (λ es. flat_map line (map (licensee_line Newer) (entry_licensees es))) one
    ∙ ap (λ ls. flat_map line (map (licensee_line Newer) ls)) (map_push entry_licensee (take serial entries) entry)
    ∙ ap (flat_map line) (map_push (licensee_line Newer) (entry_licensees (take serial entries)) (entry_licensee entry))
    ∙ flat_map-append line (map (licensee_line Newer) (entry_licensees (take serial entries))) (licensee_line Newer (entry_licensee entry) ∷ [])
    ∙ ap (λ text. flat_map line (map (licensee_line Newer) (entry_licensees (take serial entries))) ++ text) (append-nil (line (licensee_line Newer (entry_licensee entry))))

pub text_of_parts : (rule : Rule) (licensees : List Licensee) → register_text (register_with rule licensees) ≡ flat_map line (header_lines Newer (register_by rule)) ++ flat_map line (map (licensee_line Newer) licensees)
unfolding register_text
text_of_parts rule licensees = flat_map-append line (header_lines Newer (register_by rule)) (map (licensee_line Newer) licensees)
