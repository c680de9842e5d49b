-- Full cells, and the digests that they hold.
use Rattle.std.proofs.Common.{◌≡◌, ◌≢◌, ℕ, zero, suc, ◌+◌, ◌*◌, ◌/◌, ◌%◌, ◌<◌, Bool, true, false, cond, List, [], ◌∷◌, length, get_or, Option, Some, None, is_some, refl, sym, ap, ◌∙◌, subst, arith}
use Rattle.std.specs.Prelude.{slice_get, nat_lt, nat_le}
use Rattle.std.specs.List.{All, AllPairs, find, list_all}
use Rattle.std.proofs.Math.Nat.{mod-lt}
use Rattle.std.proofs.lemmas.Bool.{false≢true, lt-ltb, leb-false}
use Rattle.std.proofs.lemmas.Nat.{div-add-mod'}
use Rattle.std.proofs.lemmas.Option.{slice_get-get_or}
use Rattle.title_terms.specs.Designs.{symbols}
use Rattle.title_terms.specs.Titles.{IsDigest, cell_of, digest_at}
use Rattle.title_store.specs.Cells.{held_at, HoldsDigest, IsAbsent, AreDistinct, filled}
use Rattle.title_store.specs.Builds.{Build, IsBuild, IsWhole, is_full, title_by, added}

pub slice_filled : (cells : List (Option (List ℕ))) (i : ℕ) → list_all is_some cells ≡ true → slice_get (filled cells) i ≡ held_at cells i
slice_filled [] i full = refl
slice_filled (None ∷ cells) i full = absurd (false≢true full)
slice_filled (Some d ∷ cells) zero full = refl
slice_filled (Some d ∷ cells) (suc i) full = slice_filled cells i full

pub length_filled : (cells : List (Option (List ℕ))) → length (filled cells) ≡ length cells
length_filled [] = refl
length_filled (cell ∷ cells) = ap suc (length_filled cells)

held_there : (cells : List (Option (List ℕ))) (i : ℕ) (d : List ℕ) → list_all is_some cells ≡ true → i < length (filled cells) → HoldsDigest cells i (get_or (filled cells) i d)
held_there cells i d full lt = sym (slice_filled cells i full) ∙ slice_get-get_or (filled cells) i d lt

all_digests : (cells : List (Option (List ℕ))) → list_all is_some cells ≡ true → AreDistinct cells → All IsDigest (filled cells)
all_digests cells full are i d lt = are.digests i (get_or (filled cells) i d) (held_there cells i d full lt)

all_differ : (cells : List (Option (List ℕ))) → list_all is_some cells ≡ true → AreDistinct cells → AllPairs (λ x y. x ≢ y) (filled cells)
all_differ cells full are i j d lt within same =
    let one : HoldsDigest cells i (get_or (filled cells) i d) = held_there cells i d full (omega (arith, lt, within)) in
    let two : HoldsDigest cells j (get_or (filled cells) i d) = held_there cells j d full within ∙ ap Some (sym same) in
    absurd (omega (arith, lt, are.once i j (get_or (filled cells) i d) one two))

pub whole : (b : Build) → IsBuild b → is_full b ≡ true → AreDistinct b.cells → IsWhole b
whole b is full are = record {
  title = record {
    design = is.design;
    list = is.list;
    marked = is.marked;
    full = length_filled b.cells ∙ is.cells;
    digests = all_digests b.cells full are;
    distinct = all_differ b.cells full are;
  };
  full = full;
}

-- ---- what a variant has

pub digest_is : (b : Build) → is_full b ≡ true → (place symbol : ℕ) → digest_at (title_by b) place symbol ≡ added b place symbol
digest_is b full place symbol = ap (λ (found : Option (List ℕ)). cond (nat_lt symbol (symbols b.design)) found None) (slice_filled b.cells (cell_of b.design place symbol) full)

by_symbol : (inside : Bool) (held : Option (List ℕ)) (d : List ℕ) → cond inside held None ≡ Some d → held ≡ Some d
by_symbol true held d e = e
by_symbol false held d e = absurd cc

pub not_added : (b : Build) (d : List ℕ) → IsAbsent b.cells d → (place symbol : ℕ) → added b place symbol ≡ Some d → ⊥
not_added b d absent place symbol e = absent (cell_of b.design place symbol) (by_symbol (nat_lt symbol (symbols b.design)) (held_at b.cells (cell_of b.design place symbol)) d e)

pub added_at : (b : Build) (cell : ℕ) (d : List ℕ) (size : ℕ) → symbols b.design ≡ size → 0 < size → HoldsDigest b.cells cell d → added b (cell / size) (cell % size) ≡ Some d
added_at b cell d size is some holds =
    let inside : nat_lt (cell % size) size ≡ true = lt-ltb (cell % size) size (mod-lt cell some) in
    let there : held_at b.cells (cell / size * size + cell % size) ≡ Some d = ap (held_at b.cells) (div-add-mod' cell size) ∙ holds in
    subst (λ (s : ℕ). cond (nat_lt (cell % size) s) (held_at b.cells (cell / size * s + cell % size)) None ≡ Some d) (sym is) (rw inside there)

cell_by : (inside : Bool) (cell i : ℕ) (held : ℕ → Option (List ℕ)) → cond inside (Some cell) None ≡ Some i → cond inside (held cell) None ≡ held i
cell_by true cell i held e = ap held cc
cell_by false cell i held e = absurd cc

no_cell : (inside : Bool) (cell : ℕ) (held : Option (List ℕ)) → cond inside (Some cell) None ≡ None → cond inside held None ≡ None
no_cell true cell held e = absurd cc
no_cell false cell held e = refl

pub digest_in : (b : Build) → is_full b ≡ true → (place symbol i : ℕ) → cond (nat_lt symbol (symbols b.design)) (Some (cell_of b.design place symbol)) None ≡ Some i → digest_at (title_by b) place symbol ≡ held_at b.cells i
digest_in b full place symbol i e = digest_is b full place symbol ∙ cell_by (nat_lt symbol (symbols b.design)) (cell_of b.design place symbol) i (held_at b.cells) e

pub digest_out : (b : Build) → is_full b ≡ true → (place symbol : ℕ) → cond (nat_lt symbol (symbols b.design)) (Some (cell_of b.design place symbol)) None ≡ None → digest_at (title_by b) place symbol ≡ None
digest_out b full place symbol e = digest_is b full place symbol ∙ no_cell (nat_lt symbol (symbols b.design)) (cell_of b.design place symbol) (held_at b.cells (cell_of b.design place symbol)) e

-- ---- marks within the list

later : (mark : ℕ) (marks : List ℕ) (test : ℕ → Bool) → test mark ≡ false → find test (mark ∷ marks) ≡ find test marks
later mark marks test is = rw is refl

first_within : (mark count : ℕ) (marks : List ℕ) (passes : Bool) → nat_le count mark ≡ passes → find (λ segment. nat_le count segment) (mark ∷ marks) ≡ None
    → (find (λ segment. nat_le count segment) marks ≡ None → All (λ segment. segment < count) marks) → All (λ segment. segment < count) (mark ∷ marks)
first_within mark count marks true is none more =
    absurd (let found : find (λ segment. nat_le count segment) (mark ∷ marks) ≡ Some mark = rw is refl in cc)
first_within mark count marks false is none more =
    λ i d lt. nth i d lt
  where
    nth : (i d : ℕ) → i < length (mark ∷ marks) → get_or (mark ∷ marks) i d < count
    nth zero d lt = leb-false count mark is
    nth (suc i) d lt = more (sym (later mark marks (λ segment. nat_le count segment) is) ∙ none) i d (omega (arith, lt))

pub none_beyond : (marks : List ℕ) (count : ℕ) → find (λ segment. nat_le count segment) marks ≡ None → All (λ segment. segment < count) marks
none_beyond [] count none = λ i d lt. absurd (omega (arith, lt))
none_beyond (mark ∷ marks) count none = first_within mark count marks (nat_le count mark) refl none (none_beyond marks count)

pub none_from : {A : Type 0} (found : Option A) → ((x : A) → found ≡ Some x → ⊥) → found ≡ None
none_from None never = refl
none_from (Some x) never = absurd (never x refl)
