-- What is made of a store that holds all variants of a sample: its title, or the first two variants with one digest.
use Rattle.std.proofs.Common.{◌≡◌, ◌∙◌, sym, ap, ap₂, subst, refl, ℕ, zero, suc, ◌+◌, ◌*◌, ◌/◌, ◌%◌, ◌^◌, ◌<◌, ◌≤◌, Bool, true, cond, List, [], ◌∷◌, ◌++◌, length, map, Option, Some, None, Result, Ok, Err, arith}
use Rattle.std.specs.Prelude.{nat_le}
use Rattle.std.specs.List.{range_with_len}
use Rattle.std.specs.Option.{option_map, option_or, unwrap_or}
use Rattle.std.specs.Str.{bytes_eq}
use Rattle.std.proofs.lemmas.Bool.{le-leb}
use Rattle.std.proofs.lemmas.List.{map-append}
use Rattle.sha2.specs.Sha256.{sha256}
use Rattle.text_terms.specs.Answers.{RefusesAs}
use Rattle.shelf_terms.specs.declared.limit.TheConstants.{BLOB_LIMIT}
use Rattle.shelf_terms.specs.Blobs.{Blobs}
use Rattle.playlist_terms.specs.Playlists.{Playlist}
use Rattle.title_terms.specs.Designs.{Design, places, symbols}
use Rattle.title_terms.specs.Titles.{Title}
use Rattle.packaging_terms.specs.Variants.{blob_of, unmarkable}
use Rattle.packaging_terms.specs.Making.{Hindrance, NoSegment, Same, held_digest, twin, TooLong, hindrance_of, hindrance, first_of, title_with, unless_hindered, made}
use Rattle.outcome_terms.specs.declared.refusal.Refusal.{Refusal}
use Rattle.outcome_terms.specs.Stores.{Answers}
use Rattle.outcome_terms.specs.TitleCommand.{told_title}
use Rattle.packager.specs.declared.errors.PackError.{PackError}
use Rattle.packager.specs.declared.errors.PackError.TheVariants as pack
use Rattle.packager.specs.Refusals.{told_by}
use Rattle.sample_terms.specs.Inputs.{design, list, digest_of, title_of, twin_of, twins, first_or, variants}
use Rattle.sample_maker.specs.Answers.{title_unless, told_twins, IsFree}
use Rattle.sample_maker.specs.Holding.{HoldsVariants, bytes_of}
use Rattle.sample_maker.proofs.Held.{places_are, symbols_are, variants_are, short}
use Rattle.sample_maker.proofs.Ranges.{range_suc, mapped_alike, found_alike}

all_marked : unmarkable design list ≡ None
unfolding design list
all_marked = refl

count_is : places design * symbols design ≡ variants
unfolding variants
count_is = ap₂ (λ (a b : ℕ). a * b) places_are symbols_are

abbrev same_in : ℕ × ℕ → Hindrance
same_in pair = Same pair.0 pair.1

-- what is made, by the twins that there are
abbrev pub made_unless : Option (ℕ × ℕ) → Title → Result Title Hindrance
made_unless pair title = unless_hindered (option_map same_in pair) title

-- what is told of it
abbrev pub told : Option (ℕ × ℕ) → Title → Result Title Refusal
told pair title = told_title design (made_unless pair title)

first_more : (found : List (Option Hindrance)) (last : Option Hindrance) → first_of (found ++ last ∷ []) ≡ option_or (first_of found) last
first_more [] None = refl
first_more [] (Some h) = refl
first_more (None ∷ found) last = first_more found last
first_more (Some h ∷ found) last = refl

joined : (n : ℕ) (earlier : Option (ℕ × ℕ)) (twin : Option ℕ) → option_or (option_map same_in earlier) (option_map (λ e. Same e n) twin) ≡ option_map same_in (first_or earlier (option_map (λ e. (e, n)) twin))
joined n None None = refl
joined n None (Some e) = refl
joined n (Some pair) twin = refl

module _ (number : ℕ) (blobs : Blobs) (fits : number < 2 ^ 64) (holds : HoldsVariants number blobs variants) where
  digest_is : (variant : ℕ) → variant < variants → held_digest blobs design variant ≡ digest_of number variant
  unfolding digest_of
  digest_is variant low = ap (λ (o : Option (List ℕ)). sha256 (unwrap_or o [])) (holds.each variant low)

  twin_is : (variant : ℕ) → variant < variants → twin blobs design variant ≡ twin_of number variant
  twin_is variant low =
      found_alike (λ earlier. bytes_eq (held_digest blobs design variant) (held_digest blobs design earlier)) (λ earlier. bytes_eq (digest_of number variant) (digest_of number earlier)) 0 variant
      (λ k _ high. ap₂ bytes_eq (digest_is variant low) (digest_is k (omega (arith, high, low))))

  hindrance_is : (variant : ℕ) → variant < variants → hindrance BLOB_LIMIT blobs design variant ≡ option_map (λ earlier. Same earlier variant) (twin_of number variant)
  hindrance_is variant low =
      let few = short number variant fits (omega (arith, low, variants_are)) in
      let within : nat_le (length (bytes_of number variant)) BLOB_LIMIT ≡ true = le-leb (length (bytes_of number variant)) BLOB_LIMIT (omega (arith, few)) in
      ap (λ (o : Option (List ℕ)). hindrance_of BLOB_LIMIT (blob_of design variant) o (option_map (λ earlier. Same earlier variant) (twin blobs design variant))) (holds.each variant low)
      ∙ ap (λ (b : Bool). cond b (option_map (λ (earlier : ℕ). Same earlier variant) (twin blobs design variant)) (Some (TooLong (blob_of design variant)))) within
      ∙ ap (λ (o : Option ℕ). option_map (λ (earlier : ℕ). Same earlier variant) o) (twin_is variant low)

  first_is : (n : ℕ) → n ≤ variants → first_of (map (hindrance BLOB_LIMIT blobs design) (range_with_len 0 n)) ≡ option_map same_in (twins number n)
  unfolding twins
  first_is zero low = refl
  first_is (suc n) low =
      let h : ℕ → Option Hindrance = hindrance BLOB_LIMIT blobs design in
      let last : 0 + n ≡ n = omega arith in
      ap (λ (xs : List ℕ). first_of (map h xs)) (range_suc 0 n ∙ ap (λ (x : ℕ). range_with_len 0 n ++ x ∷ []) last)
      ∙ ap first_of (map-append h (range_with_len 0 n) (n ∷ []))
      ∙ first_more (map h (range_with_len 0 n)) (h n)
      ∙ ap₂ option_or (first_is n (omega (arith, low))) (hindrance_is n (omega (arith, low)))
      ∙ joined n (twins number n) (twin_of number n)

  digests_are : map (held_digest blobs design) (range_with_len 0 variants) ≡ map (digest_of number) (range_with_len 0 variants)
  digests_are = mapped_alike (held_digest blobs design) (digest_of number) 0 variants (λ k _ high. digest_is k (omega (arith, high)))

  pub made_is : made BLOB_LIMIT blobs design list ≡ made_unless (twins number variants) (title_of number)
  unfolding made title_of
  made_is =
      let h : ℕ → Option Hindrance = hindrance BLOB_LIMIT blobs design in
      let digest : ℕ → List ℕ = held_digest blobs design in
      ap (λ (o : Option ℕ). unless_hindered (first_of (option_map NoSegment o ∷ map h (range_with_len 0 (places design * symbols design)))) (title_with design list (map digest (range_with_len 0 (places design * symbols design))))) all_marked
      ∙ ap (λ (count : ℕ). unless_hindered (first_of (map h (range_with_len 0 count))) (title_with design list (map digest (range_with_len 0 count)))) count_is
      ∙ ap₂ unless_hindered (first_is variants (omega arith)) (ap (title_with design list) digests_are)

  pub made_then : (d : Design) (p : Playlist) (answer : Result Title Refusal) → d ≡ design → p ≡ list → Answers answer (told_title d (made BLOB_LIMIT blobs d p)) → Answers answer (told (twins number variants) (title_of number))
  made_then d p answer design_is list_is is =
      let wanted : told_title d (made BLOB_LIMIT blobs d p) ≡ told (twins number variants) (title_of number) =
      ap₂ (λ (d : Design) (p : Playlist). told_title d (made BLOB_LIMIT blobs d p)) design_is list_is ∙ ap (told_title design) made_is in
      subst (λ (w : Result Title Refusal). Answers answer w) wanted is

-- ---- what is answered

pub title_given : (pair : Option (ℕ × ℕ)) (title found : Title) → Answers (told_by (λ t. t) (Ok found)) (told pair title) → title_unless pair title ≡ Ok found
title_given None title found is = let same : title ≡ found = cc in ap Ok same
title_given (Some pair) title found is = absurd cc

pub twins_given : (pair : Option (ℕ × ℕ)) (title : Title) (e : PackError) → Answers (told_by (λ (t : Title). t) (Err e)) (told pair title) → RefusesAs (told_twins e) (title_unless pair title)
twins_given pair title (pack.NoSegment segment) is = tt
twins_given pair title (pack.Missing name) is = tt
twins_given pair title (pack.Fault name) is = tt
twins_given pair title (pack.TooLong name) is = tt
twins_given pair title pack.Memory is = tt
twins_given None title (pack.Duplicate p s q r) is = absurd cc
twins_given (Some pair) title (pack.Duplicate p s q r) is =
    let one : pair.0 / symbols design ≡ p = cc in
    let two : pair.0 % symbols design ≡ s = cc in
    let three : pair.1 / symbols design ≡ q = cc in
    let four : pair.1 % symbols design ≡ r = cc in
    let earlier : pair.0 ≡ p * 256 + s = number_of pair.0 p s one two in
    let later : pair.1 ≡ q * 256 + r = number_of pair.1 q r three four in
    let both : pair ≡ (p * 256 + s, q * 256 + r) = ap₂ (λ (a b : ℕ). (a, b)) earlier later in
    ap Err both
  where
    number_of : (variant p s : ℕ) → variant / symbols design ≡ p → variant % symbols design ≡ s → variant ≡ p * 256 + s
    number_of variant p s at of =
        let place : variant / 256 ≡ p = ap (λ (count : ℕ). variant / count) (sym symbols_are) ∙ at in
        let symbol : variant % 256 ≡ s = ap (λ (count : ℕ). variant % count) (sym symbols_are) ∙ of in
        omega (arith, place, symbol)

pub free_given : (pair : Option (ℕ × ℕ)) (title : Title) (e : PackError) → Answers (told_by (λ (t : Title). t) (Err e)) (told pair title) → IsFree e
free_given pair title (pack.Duplicate p s q r) is = tt
free_given pair title (pack.Fault name) is = tt
free_given pair title pack.Memory is = tt
free_given None title (pack.NoSegment segment) is = cc
free_given None title (pack.Missing name) is = cc
free_given None title (pack.TooLong name) is = cc
free_given (Some pair) title (pack.NoSegment segment) is = cc
free_given (Some pair) title (pack.Missing name) is = cc
free_given (Some pair) title (pack.TooLong name) is = cc
