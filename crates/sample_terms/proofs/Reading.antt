-- Where no two variants have one digest, the title sees in the copy's digests the symbols that were copied.
use Rattle.std.proofs.Common.{◌≡◌, ◌≢◌, ◌∙◌, sym, ap, subst, refl, ℕ, zero, suc, ◌+◌, ◌-◌, ◌*◌, ◌/◌, ◌<◌, ◌≤◌, Bool, true, false, cond, List, [], ◌∷◌, map, length, get_or, Option, Some, None, arith, inl, inr}
use Rattle.std.specs.Prelude.{nat_lt, slice_get, filter}
use Rattle.std.specs.List.{list_any, range_with_len}
use Rattle.std.specs.Option.{option_map_or}
use Rattle.std.specs.Str.{bytes_eq}
use Rattle.std.proofs.lemmas.Bool.{cases_lt, lt-ltb, le-ltb}
use Rattle.std.proofs.lemmas.List.Folds.{Any-from_list_any, list_any_at}
use Rattle.std.proofs.lemmas.List.FromFn.{length-map-range_with_len, get_or-map-range_with_len, fill_by_all}
use Rattle.std.proofs.lemmas.Nat.{div-mul-add}
use Rattle.std.proofs.lemmas.Option.{slice_get-get_or}
use Rattle.std.proofs.lemmas.Slice.Eq.{bytes_eq-Decides}
use Rattle.code_terms.specs.Symbols.{symbol_of}
use Rattle.code_terms.proofs.Evaluation.{symbol_of-below}
use Rattle.register_terms.specs.Enrolment.{Enrolment, message_of}
use Rattle.title_terms.specs.Designs.{places, symbols}
use Rattle.title_terms.specs.Titles.{digest_at}
use Rattle.copy_terms.specs.Copies.{only, shown, shows, word_of_copy}
use Rattle.sample_terms.specs.Numbers.{member_at}
use Rattle.sample_terms.specs.Inputs.{register_with, register_of, title_of, design, digest_of, twins, variants}
use Rattle.sample_terms.specs.Copies.{copied_symbol, copied_digest, copied_digests, copied_word, slot_of, word_of}
use Rattle.sample_terms.proofs.Apart.{one_variant}

-- ---- numbers

bits_is : (count number : ℕ) → (register_with count number).bits ≡ 8
unfolding register_with
bits_is count number = refl

symbol_low : (number place : ℕ) → place < 256 → copied_symbol number place < 256
unfolding copied_symbol
symbol_low number place low =
    let e : Enrolment = register_of number in
    let u : ℕ = message_of e (member_at number place) in
    subst (λ (m : ℕ). symbol_of m e.dimension u place < 256) (sym (bits_is 1000 number)) (symbol_of-below 8 (omega arith) (omega arith) u place e.dimension low)

design_is : (number : ℕ) → (title_of number).design ≡ design
unfolding title_of
design_is number = refl

places_are : places design ≡ 64
unfolding design
places_are = refl

symbols_are : symbols design ≡ 256
unfolding design
symbols_are = refl

inside_variants : (place symbol : ℕ) → place < 64 → symbol < 256 → place * 256 + symbol < variants
unfolding variants
inside_variants place symbol low below = omega (arith, low, below)

digests_are : (number cell : ℕ) → cell < variants → slice_get (title_of number).digests cell ≡ Some (digest_of number cell)
unfolding title_of
digests_are number cell low =
    let long : length (map (digest_of number) (range_with_len 0 variants)) ≡ variants = length-map-range_with_len (digest_of number) 0 variants in
    slice_get-get_or (map (digest_of number) (range_with_len 0 variants)) cell [] (omega (arith, low, long))
    ∙ ap Some (get_or-map-range_with_len (digest_of number) 0 variants cell cell [] low (omega arith))

-- ---- what is shown at a place

shows_is : (number place symbol : ℕ) → place < 64 → symbol < 256 → shows (title_of number) (copied_digests number) place symbol ≡ list_any (bytes_eq (digest_of number (place * 256 + symbol))) (copied_digests number)
shows_is number place symbol low below =
    let count : symbols (title_of number).design ≡ 256 = ap symbols (design_is number) ∙ symbols_are in
    let at : digest_at (title_of number) place symbol ≡ Some (digest_of number (place * 256 + symbol)) =
    ap (λ (q : ℕ). cond (nat_lt symbol q) (slice_get (title_of number).digests (place * q + symbol)) None) count
    ∙ ap (λ (b : Bool). cond b (slice_get (title_of number).digests (place * 256 + symbol)) None) (lt-ltb symbol 256 below)
    ∙ digests_are number (place * 256 + symbol) (inside_variants place symbol low below) in
    ap (λ (o : Option (List ℕ)). option_map_or (λ digest. list_any (bytes_eq digest) (copied_digests number)) o false) at

copied_long : (number : ℕ) → length (copied_digests number) ≡ 30
unfolding copied_digests
copied_long number = length-map-range_with_len (λ i. copied_digest number (29 - i)) 0 30

copied_is : (number i : ℕ) (d : List ℕ) → i < 30 → get_or (copied_digests number) i d ≡ copied_digest number (29 - i)
unfolding copied_digests
copied_is number i d low = get_or-map-range_with_len (λ i. copied_digest number (29 - i)) 0 30 i i d low (omega arith)

-- ---- one symbol or none

none_pass : (p : ℕ → Bool) (a n : ℕ) → ((v : ℕ) → a ≤ v → v < a + n → p v ≡ false) → filter p (range_with_len a n) ≡ []
none_pass p a zero none = refl
none_pass p a (suc n) none =
    ap (λ (b : Bool). cond b (a ∷ filter p (range_with_len (a + 1) n)) (filter p (range_with_len (a + 1) n))) (none a (omega arith) (omega arith))
    ∙ none_pass p (a + 1) n (λ v low high. none v (omega (arith, low)) (omega (arith, high)))

one_passes : (p : ℕ → Bool) (a n s : ℕ) → a ≤ s → s < a + n → p s ≡ true → ((v : ℕ) → a ≤ v → v < a + n → v ≢ s → p v ≡ false) → filter p (range_with_len a n) ≡ s ∷ []
one_passes p a zero s low high is others = absurd (omega (arith, low, high))
one_passes p a (suc n) s low high is others = elim (cases_lt a s) [
  | inl lt ↦
      ap (λ (b : Bool). cond b (a ∷ filter p (range_with_len (a + 1) n)) (filter p (range_with_len (a + 1) n))) (others a (omega arith) (omega arith) (λ same. omega (arith, same, lt)))
      ∙ one_passes p (a + 1) n s (omega (arith, lt)) (omega (arith, high)) is (λ v more less. others v (omega (arith, more)) (omega (arith, less)))
  | inr le ↦
      let same : a ≡ s = omega (arith, low, le) in
      ap (λ (b : Bool). cond b (a ∷ filter p (range_with_len (a + 1) n)) (filter p (range_with_len (a + 1) n))) (ap p same ∙ is)
      ∙ ap (λ (rest : List ℕ). a ∷ rest) (none_pass p (a + 1) n (λ v more less. others v (omega (arith, more)) (omega (arith, less)) (λ other. omega (arith, other, same, more))))
      ∙ ap (λ (x : ℕ). x ∷ []) same
]

module _ (number : ℕ) (none : twins number variants ≡ None) where
  -- a variant whose digest the copy has was copied
  record Copied (place symbol : ℕ) : Type 0 where
    inside : place < 30
    is : symbol ≡ copied_symbol number place

  same_variant : (place symbol p v : ℕ) → symbol < 256 → v < 256 → place * 256 + symbol ≡ p * 256 + v → (place ≡ p) × (symbol ≡ v)
  same_variant place symbol p v below under same =
      let one : place ≡ p = sym (div-mul-add place 256 symbol below) ∙ ap (λ (cell : ℕ). cell / 256) same ∙ div-mul-add p 256 v under in
      (one, omega (arith, same, one))

  was_copied : (place symbol : ℕ) → place < 64 → symbol < 256 → list_any (bytes_eq (digest_of number (place * 256 + symbol))) (copied_digests number) ≡ true → Copied place symbol
  was_copied place symbol low below is =
      let some = Any-from_list_any (bytes_eq (digest_of number (place * 256 + symbol))) (copied_digests number) is in
      let i : ℕ = some.0 in
      let i_low : i < 30 = omega (arith, some.2, copied_long number) in
      let p : ℕ = 29 - i in
      let p_low : p < 30 = omega arith in
      let v : ℕ = copied_symbol number p in
      let v_low : v < 256 = symbol_low number p (omega (arith, p_low)) in
      let equal : digest_of number (place * 256 + symbol) ≡ some.1 = (bytes_eq-Decides (digest_of number (place * 256 + symbol)) some.1).0 some.4 in
      let cells = one_variant number variants none (place * 256 + symbol) (p * 256 + v) (inside_variants place symbol low below) (inside_variants p v (omega (arith, p_low)) v_low) (equal ∙ sym some.3 ∙ copied_is number i some.1 i_low) in
      let both = same_variant place symbol p v below v_low cells in
      record { inside = omega (arith, both.0, p_low); is = both.1 ∙ ap (copied_symbol number) (sym both.0) }

  is_shown : (place : ℕ) → place < 30 → list_any (bytes_eq (digest_of number (place * 256 + copied_symbol number place))) (copied_digests number) ≡ true
  is_shown place low =
      let i : ℕ = 29 - place in
      let i_low : i < 30 = omega arith in
      let back : 29 - i ≡ place = omega (arith, low) in
      let here : copied_digest number place ≡ get_or (copied_digests number) i [] = sym (copied_is number i [] i_low ∙ ap (copied_digest number) back) in
      list_any_at (bytes_eq (copied_digest number place)) (copied_digests number) i [] (omega (arith, i_low, copied_long number)) ((bytes_eq-Decides (copied_digest number place) (get_or (copied_digests number) i [])).1 here)

  not_shown : (place symbol : ℕ) (b : Bool) → place < 64 → symbol < 256 → (Copied place symbol → ⊥)
      → list_any (bytes_eq (digest_of number (place * 256 + symbol))) (copied_digests number) ≡ b → list_any (bytes_eq (digest_of number (place * 256 + symbol))) (copied_digests number) ≡ false
  not_shown place symbol true low below never is = absurd (never (was_copied place symbol low below is))
  not_shown place symbol false low below never is = is

  hidden : (place symbol : ℕ) → place < 64 → symbol < 256 → (Copied place symbol → ⊥) → shows (title_of number) (copied_digests number) place symbol ≡ false
  hidden place symbol low below never =
      shows_is number place symbol low below ∙ not_shown place symbol (list_any (bytes_eq (digest_of number (place * 256 + symbol))) (copied_digests number)) low below never refl

  count_is : symbols (title_of number).design ≡ 256
  count_is = ap symbols (design_is number) ∙ symbols_are

  seen : ℕ → ℕ → List ℕ
  seen place count = filter (shows (title_of number) (copied_digests number) place) (range_with_len 0 count)

  slot_is : (place : ℕ) → place < 64 → only (shown (title_of number) (copied_digests number) place) ≡ slot_of number place
  unfolding seen
  slot_is place low = elim (cases_lt place 30) [
    | inl lt ↦
        let symbol : ℕ = copied_symbol number place in
        let below : symbol < 256 = symbol_low number place (omega (arith, low)) in
        let one : seen place 256 ≡ symbol ∷ [] =
        one_passes (shows (title_of number) (copied_digests number) place) 0 256 symbol (omega arith) (omega (arith, below)) (shows_is number place symbol low below ∙ is_shown place lt)
        (λ v _ v_low other. hidden place v low (omega (arith, v_low)) (λ copied. other copied.is)) in
        ap (λ (count : ℕ). only (seen place count)) count_is ∙ ap only one ∙ sym (ap (λ (b : Bool). cond b (Some symbol) None) (lt-ltb place 30 lt))
    | inr le ↦
        let nothing : seen place 256 ≡ [] = none_pass (shows (title_of number) (copied_digests number) place) 0 256 (λ v _ v_low. hidden place v low (omega (arith, v_low)) (λ copied. omega (arith, copied.inside, le))) in
        ap (λ (count : ℕ). only (seen place count)) count_is ∙ ap only nothing ∙ sym (ap (λ (b : Bool). cond b (Some (copied_symbol number place)) None) (le-ltb place 30 le))
  ]

  read_by : (count : ℕ) → count ≡ 64 → map (λ place. only (shown (title_of number) (copied_digests number) place)) (range_with_len 0 count) ≡ map (slot_of number) (range_with_len 0 count)
  read_by count is =
      let slot : ℕ → Option ℕ = λ place. only (shown (title_of number) (copied_digests number) place) in
      fill_by_all (slot_of number) (map slot (range_with_len 0 count)) count None (length-map-range_with_len slot 0 count)
      (λ k low. get_or-map-range_with_len slot 0 count k k None low (omega arith) ∙ slot_is k (omega (arith, low, is)))

  pub word_is : word_of number ≡ copied_word number
  unfolding word_of word_of_copy copied_word
  word_is =
      let count : places (title_of number).design ≡ 64 = ap places (design_is number) ∙ places_are in
      read_by (places (title_of number).design) count ∙ ap (λ (n : ℕ). map (slot_of number) (range_with_len 0 n)) count
