-- One element with a multiple added, from the product that was looked up.
use Rattle.std.proofs.Common.{◌≡◌, ℕ, ◌+◌, ◌^◌, ◌<◌, ◌≤◌, List, length, get_or, ap, ◌∙◌, sym, subst}
use Rattle.std.proofs.Math.ListN.{set}
use Rattle.std.specs.Prelude.{bit_xor}
use lib.Bits.{xor_lt}
use Rattle.gf_terms.specs.Arithmetic.{product}
use Rattle.gf_terms.proofs.Field.{closed}
use Rattle.gf2m.specs.Elements.{element, with_multiple, same_element}
use Rattle.gf2m.specs.Slices.{zipped_below}
use Rattle.gf2m.specs.declared.gf.Gf.{Gf}
use Rattle.gf2m.proofs.Zips.{zipped_more}

module _ (m : ℕ) (low : 4 ≤ m) (high : m ≤ 8) (factor x y : Gf m) (r : ℕ) (is : r ≡ product m factor.value y.value) where
  pub in_range : bit_xor x.value r < 2 ^ m
  in_range =
      let below : r < 2 ^ m = subst (λ t. t < 2 ^ m) (sym is) (closed m low high factor.value y.value factor.in_range y.in_range) in
      xor_lt m x.value r x.in_range below

  pub added : (h : bit_xor x.value r < 2 ^ m) → element m (bit_xor x.value r) h ≡ with_multiple m low high factor x y
  added h = same_element m (element m (bit_xor x.value r) h) (with_multiple m low high factor x y) (ap (bit_xor x.value) is)

-- the element at i is done, after those below it
pub next_done : (m : ℕ) (low : 4 ≤ m) (high : m ≤ 8) (factor : Gf m) (xs ys zs : List (Gf m)) (i : ℕ) (d e : Gf m) (r : ℕ) → i < length xs → i < length ys
    → r ≡ product m factor.value (get_or ys i e).value → (h : bit_xor (get_or zs i d).value r < 2 ^ m)
    → zs ≡ zipped_below (with_multiple m low high factor) i xs ys
    → set zs i (element m (bit_xor (get_or zs i d).value r) h) ≡ zipped_below (with_multiple m low high factor) (i + 1) xs ys
next_done m low high factor xs ys zs i d e r a b is h done =
    ap (set zs i) (added m low high factor (get_or zs i d) (get_or ys i e) r is h) ∙ zipped_more (with_multiple m low high factor) xs ys zs i d e a b done
