-- One more digest of a title that is begun.
use Rattle.std.proofs.Common.{◌≡◌, ◌≢◌, ◌∙◌, sym, ap, ap₂, subst, ℕ, zero, suc, ◌+◌, ◌*◌, ◌<◌, ◌≤◌, Bool, false, cond, ltb, List, [], ◌∷◌, ◌++◌, length, length-append, take, get_or, set, Option, Some, None, inl, inr, arith}
use Rattle.std.specs.List.{position}
use Rattle.std.specs.Str.{bytes_eq}
use Rattle.std.specs.Option.{option_map}
use Rattle.std.proofs.Math.Nat.{mul-le-mul_right}
use Rattle.std.proofs.lemmas.Bool.{cases_lt, lt-ltb}
use Rattle.std.proofs.lemmas.Nat.{div-mul-add, mod-mul-add, div-add-mod'}
use Rattle.title_terms.specs.Designs.{Design, places, symbols}
use Rattle.title_terms.specs.Titles.{cell_of}
use Rattle.title_store.specs.Cells.{held_at, filled}
use Rattle.title_store.specs.Builds as store
use Rattle.title_store.specs.Builds.{Build, added}
use Rattle.packaging_terms.specs.Variants.{place_in, symbol_in}
use Rattle.outcome_terms.specs.declared.fault.Fault.TheVariants.{Duplicate}
use Rattle.outcome_terms.specs.Reading.{Give, Refuse, ◌>>◌}
use Rattle.outcome_terms.specs.TitleCommand.{same_digest, with_digest}
use Rattle.packager.specs.Builds.{so_far, IsBegun, IsSame, Puts}
use Rattle.packager.proofs.Cells.{cells_of, held_below, held_past, front, put_next, position_none, position_is, distinct_more}

-- ---- cells and variants

pub place_back : (d : Design) (place symbol : ℕ) → symbol < symbols d → place_in d (cell_of d place symbol) ≡ place
place_back d place symbol lt = div-mul-add place (symbols d) symbol lt

pub symbol_back : (d : Design) (place symbol : ℕ) → symbol < symbols d → symbol_in d (cell_of d place symbol) ≡ symbol
symbol_back d place symbol lt = mod-mul-add place (symbols d) symbol lt

pub cell_back : (d : Design) (variant : ℕ) → cell_of d (place_in d variant) (symbol_in d variant) ≡ variant
cell_back d variant = div-add-mod' variant (symbols d)

pub symbol_small : (d : Design) (variant : ℕ) → 0 < symbols d → symbol_in d variant < symbols d
symbol_small d variant some = omega arith

-- ---- what a build has

at : (b : Build) (i j : ℕ) → IsBegun b i → j < i → held_at b.cells j ≡ Some (get_or (so_far b i) j [])
at b i j begun lt = ap (λ (cells : List (Option (List ℕ))). held_at cells j) begun.cells ∙ held_below (so_far b i) begun.rest j (omega (arith, lt, begun.long))

past : (b : Build) (i j : ℕ) → IsBegun b i → i ≤ j → held_at b.cells j ≡ None
past b i j begun le = ap (λ (cells : List (Option (List ℕ))). held_at cells j) begun.cells ∙ held_past (so_far b i) begun.rest j (omega (arith, le, begun.long))

-- a digest that was added stands among those so far
pub record StandsAt (b : Build) (i place symbol : ℕ) (digest : List ℕ) : Type 0 where
  pub below : symbol < symbols b.design
  pub before : cell_of b.design place symbol < i
  pub is : get_or (so_far b i) (cell_of b.design place symbol) [] ≡ digest

some_same : (x y : List ℕ) → Some x ≡ Some y → x ≡ y
some_same x y is = cc

pub stands : (b : Build) (i place symbol : ℕ) (digest : List ℕ) → IsBegun b i → added b place symbol ≡ Some digest → StandsAt b i place symbol digest
stands b i place symbol digest begun is =
    elim (cases_lt symbol (symbols b.design)) [
      | inl lt ↦ within lt (subst (λ (t : Bool). cond t (held_at b.cells (cell_of b.design place symbol)) None ≡ Some digest) (lt-ltb symbol (symbols b.design) lt) is)
      | inr le ↦ absurd (no_digest (subst (λ (t : Bool). cond t (held_at b.cells (cell_of b.design place symbol)) None ≡ Some digest) (past_symbols le) is))
    ]
  where
    no_digest : (let o : Option (List ℕ) = None in o) ≡ Some digest → ⊥
    no_digest none = cc

    past_symbols : symbols b.design ≤ symbol → ltb symbol (symbols b.design) ≡ false
    past_symbols le = grind (arith)

    within : symbol < symbols b.design → held_at b.cells (cell_of b.design place symbol) ≡ Some digest → StandsAt b i place symbol digest
    within lt held = elim (cases_lt (cell_of b.design place symbol) i) [
      | inl before ↦ record { below = lt; before = before; is = some_same (get_or (so_far b i) (cell_of b.design place symbol) []) digest (sym (at b i (cell_of b.design place symbol) begun before) ∙ held) }
      | inr after ↦ absurd (no_digest (sym (past b i (cell_of b.design place symbol) begun after) ∙ held))
    ]

-- a digest so far was added
was_added : (b : Build) (i j : ℕ) → IsBegun b i → 0 < symbols b.design → j < i → added b (place_in b.design j) (symbol_in b.design j) ≡ Some (get_or (so_far b i) j [])
was_added b i j begun some lt =
    let d = b.design in
    ap (λ (t : Bool). cond t (held_at b.cells (cell_of d (place_in d j) (symbol_in d j))) None) (lt-ltb (symbol_in d j) (symbols d) (symbol_small d j some))
    ∙ ap (held_at b.cells) (cell_back d j) ∙ at b i j begun lt

-- ---- the next digest

-- another variant has the digest
pub was_same : (b : Build) (place symbol p v : ℕ) (digest : List ℕ) → symbol < symbols b.design → IsBegun b (cell_of b.design place symbol) → added b p v ≡ Some digest
    → with_digest b.design (so_far b (cell_of b.design place symbol)) (cell_of b.design place symbol) digest ≡ Refuse (Duplicate p v place symbol)
unfolding with_digest
was_same b place symbol p v digest below begun is =
    let d = b.design in
    let i : ℕ = cell_of d place symbol in
    let j : ℕ = cell_of d p v in
    let there = stands b i p v digest begun is in
    let before = there.before in
    let first : position (bytes_eq digest) (so_far b i) ≡ Some j =
    position_is digest (so_far b i) j (omega (arith, before, begun.long)) there.is (λ k lt. begun.distinct k j lt before) in
    let fault : same_digest d j i ≡ Duplicate p v place symbol =
    ap₂ (λ (p v : ℕ). Duplicate p v (place_in d i) (symbol_in d i)) (place_back d p v there.below) (symbol_back d p v there.below)
    ∙ ap₂ (λ (q w : ℕ). Duplicate p v q w) (place_back d place symbol below) (symbol_back d place symbol below) in
    ap (λ (o : Option ℕ). option_map (λ earlier. same_digest d earlier i) o >> Give (so_far b i ++ digest ∷ [])) first
    ∙ ap Refuse fault

-- ... or none has
pub was_put : (old new : Build) (place symbol : ℕ) (digest : List ℕ) → place < places old.design → symbol < symbols old.design → IsBegun old (cell_of old.design place symbol)
    → ((p v : ℕ) → added old p v ≡ Some digest → ⊥) → new ≡ store.with_digest old place symbol digest → Puts old new (cell_of old.design place symbol) digest
unfolding with_digest
was_put old new place symbol digest place_in_it below begun fresh is =
    let d = old.design in
    let i : ℕ = cell_of d place symbol in
    let digests : List (List ℕ) = so_far old i in
    let more : List (List ℕ) = digests ++ digest ∷ [] in
    let unlike : (j : ℕ) → j < i → get_or digests j [] ≢ digest = λ j lt same. fresh (place_in d j) (symbol_in d j) (was_added old i j begun (omega (arith, below)) lt ∙ ap Some same) in
    let none : position (bytes_eq digest) digests ≡ None = position_none digest digests (λ j lt. unlike j (omega (arith, lt, begun.long))) in
    let inside : i < places d * symbols d = inside_all (places d) (symbols d) place symbol place_in_it below in
    by begun.rest begun.cells begun.count unlike none inside
  where
    inside_all : (n s place symbol : ℕ) → place < n → symbol < s → place * s + symbol < n * s
    inside_all n s place symbol lt below = let whole : (place + 1) * s ≤ n * s = mul-le-mul_right s (omega (arith, lt)) in omega (arith, whole, below)

    by : (rest : ℕ) → old.cells ≡ cells_of (so_far old (cell_of old.design place symbol)) rest → cell_of old.design place symbol + rest ≡ places old.design * symbols old.design
        → ((j : ℕ) → j < cell_of old.design place symbol → get_or (so_far old (cell_of old.design place symbol)) j [] ≢ digest)
        → position (bytes_eq digest) (so_far old (cell_of old.design place symbol)) ≡ None
        → cell_of old.design place symbol < places old.design * symbols old.design → Puts old new (cell_of old.design place symbol) digest
    by zero cells count unlike none inside = absurd (omega (arith, count, inside))
    by (suc rest) cells count unlike none inside =
        let i : ℕ = cell_of old.design place symbol in
        let digests : List (List ℕ) = so_far old i in
        let more : List (List ℕ) = digests ++ digest ∷ [] in
        let same : IsSame old new = record { design = ap (λ (b : Build). b.design) is; list = ap (λ (b : Build). b.list) is } in
        let now : new.cells ≡ cells_of more rest = ap (λ (b : Build). b.cells) is ∙ ap (λ (cells : List (Option (List ℕ))). set cells i (Some digest)) cells ∙ put_next digests rest i digest begun.long in
        let grown : length more ≡ i + 1 = omega (arith, length-append digests (digest ∷ []), begun.long) in
        let so : so_far new (i + 1) ≡ more = ap (λ (cells : List (Option (List ℕ))). filled (take (i + 1) cells)) now ∙ front more rest (i + 1) grown in
        record {
          gives = ap (λ (o : Option ℕ). option_map (λ earlier. same_digest old.design earlier i) o >> Give more) none ∙ ap Give (sym so);
          begun = record {
            rest = rest;
            cells = now ∙ ap (λ (ds : List (List ℕ)). cells_of ds rest) (sym so);
            long = ap length so ∙ grown;
            count = subst (λ (d : Design). i + 1 + rest ≡ places d * symbols d) (sym same.design) (omega (arith, count));
            distinct = subst (λ (ds : List (List ℕ)). (j k : ℕ) → j < k → k < i + 1 → get_or ds j [] ≢ get_or ds k []) (sym so) (distinct_more digests digest i begun.long begun.distinct unlike);
          };
          same = same;
        }
