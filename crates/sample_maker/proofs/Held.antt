-- Variants of a sample that are held, one after the other.
use Rattle.std.proofs.Common.{◌≡◌, ◌≢◌, ◌∙◌, sym, ap, refl, ℕ, ◌+◌, ◌/◌, ◌%◌, ◌^◌, ◌<◌, ◌≤◌, Bool, true, false, cond, List, length, length-append, codes, ◌++◌, Some, arith, inl, inr}
use Rattle.std.specs.FinMap.{insert, get-insert}
use Rattle.std.specs.Fmt.{decimal}
use Rattle.std.specs.Str.{bytes_eq}
use Rattle.std.proofs.Math.Nat.{mod-lt}
use Rattle.std.proofs.lemmas.Bool.{cases_lt}
use Rattle.std.proofs.lemmas.Cmp.{nat_list_cmp_total}
use Rattle.std.proofs.lemmas.Fmt.{length-decimal-le}
use Rattle.std.proofs.lemmas.Map.Text.{is_eq-slice_cmp}
use Rattle.std.proofs.lemmas.Slice.Eq.{bytes_eq-Decides}
use Rattle.shelf_terms.specs.Blobs.{Blobs, blob_at}
use Rattle.title_terms.specs.Designs.{places, symbols, variant_name}
use Rattle.packaging_terms.specs.Variants.{blob_of}
use Rattle.packaging_terms.proofs.Apart.{apart}
use Rattle.sample_terms.specs.Inputs.{design, variants}
use Rattle.sample_maker.specs.Holding.{HoldsVariants, bytes_of}

pub places_are : places design ≡ 64
unfolding design
places_are = refl

pub symbols_are : symbols design ≡ 256
unfolding design
symbols_are = refl

pub variants_are : variants ≡ 16384
unfolding variants
variants_are = refl

-- ---- names

pub blob_is : (variant : ℕ) → blob_of design variant ≡ variant_name design (variant / 256) (variant % 256)
blob_is variant = ap (λ (count : ℕ). variant_name design (variant / count) (variant % count)) symbols_are

pub names_differ : (variant other : ℕ) → variant < 16384 → other < 16384 → variant ≢ other → blob_of design variant ≢ blob_of design other
names_differ variant other low small differ same =
    let names : variant_name design (variant / 256) (variant % 256) ≡ variant_name design (other / 256) (other % 256) = sym (blob_is variant) ∙ same ∙ blob_is other in
    let is = apart design (variant / 256) (other / 256) (variant % 256) (other % 256) (omega (arith, low)) (omega (arith, small)) (mod-lt variant (omega arith)) (mod-lt other (omega arith)) names in
    differ (omega (arith, is.place, is.symbol))

not_same : (x y : List ℕ) (b : Bool) → bytes_eq x y ≡ b → x ≢ y → bytes_eq x y ≡ false
not_same x y true is differ = absurd (differ ((bytes_eq-Decides x y).0 is))
not_same x y false is differ = is

-- ---- one more

pub held_more : (number count : ℕ) (old new : Blobs) → count < 16384 → HoldsVariants number old count → new ≡ insert old (blob_of design count) (bytes_of number count) → HoldsVariants number new (count + 1)
held_more number count old new small holds is = record { each = one }
  where
    at : (variant : ℕ) → blob_at new (blob_of design variant) ≡ cond (bytes_eq (blob_of design variant) (blob_of design count)) (Some (bytes_of number count)) (blob_at old (blob_of design variant))
    at variant =
        ap (λ (blobs : Blobs). blob_at blobs (blob_of design variant)) is
        ∙ get-insert nat_list_cmp_total old (blob_of design count) (bytes_of number count) (blob_of design variant)
        ∙ ap (λ (b : Bool). cond b (Some (bytes_of number count)) (blob_at old (blob_of design variant))) (is_eq-slice_cmp (blob_of design variant) (blob_of design count))

    one : (variant : ℕ) → variant < count + 1 → blob_at new (blob_of design variant) ≡ Some (bytes_of number variant)
    one variant low = elim (cases_lt variant count) [
      | inl lt ↦
          let differ : variant ≢ count = λ same. omega (arith, lt, same) in
          let apart = not_same (blob_of design variant) (blob_of design count) (bytes_eq (blob_of design variant) (blob_of design count)) refl (names_differ variant count (omega (arith, low, small)) small differ) in
          at variant ∙ ap (λ (b : Bool). cond b (Some (bytes_of number count)) (blob_at old (blob_of design variant))) apart ∙ holds.each variant lt
      | inr le ↦
          let same : variant ≡ count = omega (arith, low, le) in
          let equal = (bytes_eq-Decides (blob_of design variant) (blob_of design count)).1 (ap (blob_of design) same) in
          at variant ∙ ap (λ (b : Bool). cond b (Some (bytes_of number count)) (blob_at old (blob_of design variant))) equal ∙ ap (λ (v : ℕ). Some (bytes_of number v)) (sym same)
    ]

-- ---- what is held is short

pub short : (number variant : ℕ) → number < 2 ^ 64 → variant < 16384 → length (bytes_of number variant) ≤ 100
short number variant fits low =
    let place : ℕ = variant / 256 in
    let symbol : ℕ = variant % 256 in
    let below : symbol < 256 = mod-lt variant (omega arith) in
    let first = length-decimal-le 20 number (omega arith) (omega (arith, fits)) fits in
    let second = length-decimal-le 3 place (omega arith) (omega (arith, low)) (omega (arith, low)) in
    let third = length-decimal-le 3 symbol (omega arith) (omega (arith, below)) (omega (arith, below)) in
    let whole = length-append (decimal number) (codes "/" ++ (decimal place ++ (codes "/" ++ decimal symbol))) in
    let behind = length-append (codes "/") (decimal place ++ (codes "/" ++ decimal symbol)) in
    let later = length-append (decimal place) (codes "/" ++ decimal symbol) in
    let last = length-append (codes "/") (decimal symbol) in
    omega (arith, first, second, third, whole, behind, later, last)
