-- The word by flags is the word by digests.
use Rattle.std.proofs.Common.{◌≡◌, ◌∙◌, ℕ, zero, suc, ◌+◌, ◌-◌, ◌*◌, ◌<◌, ◌≤◌, Bool, true, false, cond, List, [], ◌∷◌, length, map, filter, get_or, take, drop, Option, Some, None, All, IfSome, refl, sym, ap, arith, inl, inr}
use Rattle.std.specs.Prelude.{slice_get, nat_lt}
use Rattle.std.specs.List.{list_any, range_with_len, slice_range}
use Rattle.std.specs.Option.{option_map_or}
use Rattle.std.specs.Str.{bytes_eq}
use Rattle.std.proofs.Math.Nat.{mul-le-mul_right}
use Rattle.std.proofs.lemmas.Bool.{lt-ltb}
use Rattle.std.proofs.lemmas.List.{get_or-take, get_or-drop, length-drop, length-take-le}
use Rattle.std.proofs.lemmas.List.Elements.{All-nil, All-cons}
use Rattle.std.proofs.lemmas.List.FromFn.{length-map-range_with_len}
use Rattle.code_terms.specs.Words.{HasSymbolsBelow}
use Rattle.title_terms.specs.Designs.{places, symbols}
use Rattle.title_terms.specs.Titles.{Title, IsTitle, cell_of, digest_at}
use Rattle.copy_terms.specs.Copies.{shows, shown, only, word_of_copy}
use Rattle.copy_match.specs.Readers.{Reader, IsReader, HasSeen, flags_of, set_flags, only_flag, flags_at, word_of_flags}

map_below : {X : Type 0} (f g : ℕ → X) (a n : ℕ) → ((v : ℕ) → v < a + n → f v ≡ g v) → map f (range_with_len a n) ≡ map g (range_with_len a n)
map_below f g a zero same = refl
map_below f g a (suc n) same =
    ap (λ x. x ∷ map f (range_with_len (a + 1) n)) (same a (omega arith))
    ∙ ap (λ xs. g a ∷ xs) (map_below f g (a + 1) n (λ v lt. same v (omega (arith, lt))))

filter_below : (p q : ℕ → Bool) (a n : ℕ) → ((v : ℕ) → v < a + n → p v ≡ q v) → filter p (range_with_len a n) ≡ filter q (range_with_len a n)
filter_below p q a zero same = refl
filter_below p q a (suc n) same =
    let later : filter p (range_with_len (a + 1) n) ≡ filter q (range_with_len (a + 1) n) = filter_below p q (a + 1) n (λ v lt. same v (omega (arith, lt))) in
    ap (λ (b : Bool). cond b (a ∷ filter p (range_with_len (a + 1) n)) (filter p (range_with_len (a + 1) n))) (same a (omega arith))
    ∙ ap (λ (ks : List ℕ). cond (q a) (a ∷ ks) ks) later

-- the flag of a digest, if it is in the list
flag_at : (f : List ℕ → Bool) (ds : List (List ℕ)) (i : ℕ) → get_or (map f ds) i false ≡ option_map_or f (slice_get ds i) false
flag_at f [] i = refl
flag_at f (d ∷ ds) zero = refl
flag_at f (d ∷ ds) (suc i) = flag_at f ds i

module _ (r : Reader) (is : IsReader r) where
  place_in : (place : ℕ) → place < places r.title.design → place * symbols r.title.design + symbols r.title.design ≤ length r.flags
  place_in place lt =
      let most : (place + 1) * symbols r.title.design ≤ places r.title.design * symbols r.title.design = mul-le-mul_right (symbols r.title.design) (omega (arith, lt)) in
      omega (arith, most, is.long)

  pub long_flags : (place : ℕ) → place < places r.title.design → length (flags_at r place) ≡ symbols r.title.design
  long_flags place lt =
      let from : ℕ = place * symbols r.title.design in
      let most = place_in place lt in
      let enough : from + symbols r.title.design - from ≤ length (drop from r.flags) = omega (arith, most, length-drop from r.flags) in
      length-take-le (from + symbols r.title.design - from) (drop from r.flags) enough ∙ omega arith

  flag_there : (place v : ℕ) → v < symbols r.title.design → get_or (flags_at r place) v false ≡ get_or r.flags (cell_of r.title.design place v) false
  flag_there place v lt =
      let from : ℕ = place * symbols r.title.design in
      get_or-take (from + symbols r.title.design - from) (drop from r.flags) v false (omega (arith, lt)) ∙ get_or-drop from r.flags v false

  shown_by : (digests : List (List ℕ)) → HasSeen r digests → (place v : ℕ) → v < symbols r.title.design → get_or (flags_at r place) v false ≡ shows r.title digests place v
  shown_by digests seen place v lt =
      let f : List ℕ → Bool = λ variant. list_any (bytes_eq variant) digests in
      let cell : ℕ = cell_of r.title.design place v in
      let inside : nat_lt v (symbols r.title.design) ≡ true = lt-ltb v (symbols r.title.design) lt in
      flag_there place v lt
      ∙ ap (λ (bs : List Bool). get_or bs cell false) seen
      ∙ flag_at f r.title.digests cell
      ∙ ap (λ (b : Bool). option_map_or f (cond b (slice_get r.title.digests cell) None) false) (sym inside)

  slot_by : (digests : List (List ℕ)) → HasSeen r digests → (place : ℕ) → place < places r.title.design → only_flag (flags_at r place) ≡ only (shown r.title digests place)
  slot_by digests seen place lt =
      ap (λ (n : ℕ). only (filter (λ v. get_or (flags_at r place) v false) (range_with_len 0 n))) (long_flags place lt)
      ∙ ap only (filter_below (λ v. get_or (flags_at r place) v false) (shows r.title digests place) 0 (symbols r.title.design) (λ v below. shown_by digests seen place v (omega (arith, below))))

  pub same_word : (digests : List (List ℕ)) → HasSeen r digests → word_of_flags r ≡ word_of_copy r.title digests
  unfolding word_of_flags word_of_copy
  same_word digests seen = map_below (λ place. only_flag (flags_at r place)) (λ place. only (shown r.title digests place)) 0 (places r.title.design) (λ place lt. slot_by digests seen place (omega (arith, lt)))

-- the slots of all places
pub all_slots : (r : Reader) (slots : List (Option ℕ)) (place count : ℕ) → slots ≡ map (λ p. only_flag (flags_at r p)) (range_with_len 0 place) → place ≡ count → count ≡ places r.title.design → slots ≡ word_of_flags r
unfolding word_of_flags
all_slots r slots place count are last all = are ∙ ap (λ (n : ℕ). map (λ p. only_flag (flags_at r p)) (range_with_len 0 n)) (last ∙ all)

-- ---- the shape of a word

pub long_word : (t : Title) (digests : List (List ℕ)) → length (word_of_copy t digests) ≡ places t.design
unfolding word_of_copy
long_word t digests = length-map-range_with_len (λ place. only (shown t digests place)) 0 (places t.design)

filter_small : (p : ℕ → Bool) (a n limit : ℕ) → a + n ≤ limit → All (λ v. v < limit) (filter p (range_with_len a n))
filter_small p a zero limit below = All-nil (λ v. v < limit)
filter_small p a (suc n) limit below = by (p a) (filter_small p (a + 1) n limit (omega (arith, below)))
  where
    by : (b : Bool) → All (λ v. v < limit) (filter p (range_with_len (a + 1) n)) → All (λ v. v < limit) (cond b (a ∷ filter p (range_with_len (a + 1) n)) (filter p (range_with_len (a + 1) n)))
    by true later = All-cons (λ v. v < limit) a (filter p (range_with_len (a + 1) n)) (omega (arith, below)) later
    by false later = later

only_small : (limit : ℕ) (vs : List ℕ) → All (λ v. v < limit) vs → IfSome (only vs) (λ v. v < limit)
only_small limit [] all = tt
only_small limit (v ∷ []) all = all 0 v (omega arith)
only_small limit (v ∷ w ∷ more) all = tt

all_map : {X : Type 0} (P : X → Type 0) (f : ℕ → X) (ks : List ℕ) → ((k : ℕ) → P (f k)) → All P (map f ks)
all_map P f [] each = All-nil P
all_map P f (k ∷ ks) each = All-cons P (f k) (map f ks) (each k) (all_map P f ks each)

pub small_word : (t : Title) (digests : List (List ℕ)) → HasSymbolsBelow (symbols t.design) (word_of_copy t digests)
unfolding word_of_copy
small_word t digests =
    all_map (λ (slot : Option ℕ). IfSome slot (λ v. v < symbols t.design)) (λ place. only (shown t digests place)) (range_with_len 0 (places t.design))
    (λ place. only_small (symbols t.design) (shown t digests place) (filter_small (shows t digests place) 0 (symbols t.design) (symbols t.design) (omega arith)))
