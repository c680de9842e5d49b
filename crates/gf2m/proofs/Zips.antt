-- A loop that replaces each element x of a list by f x y, with y from another list at the same place.
use Rattle.std.proofs.Common.{◌≡◌, ℕ, zero, suc, ◌+◌, ◌<◌, List, [], ◌∷◌, length, get_or, drop, refl, sym, ◌∙◌, ap, arith, add-one}
use Rattle.std.proofs.Math.ListN.{set}
use lib.Lanes.{zip2}
use Rattle.gf2m.specs.Slices.{zipped_below}

rest_none : {X : Type 0} (xs : List X) → drop (length xs) xs ≡ []
rest_none [] = refl
rest_none (x ∷ xs) = rest_none xs

module _ {X Y : Type 0} (f : X → Y → X) where
  zipped_step : (xs : List X) (ys : List Y) (i : ℕ) (d : X) (e : Y) → i < length xs → i < length ys
      → set (zipped_below f i xs ys) i (f (get_or (zipped_below f i xs ys) i d) (get_or ys i e)) ≡ zipped_below f (suc i) xs ys
  zipped_step [] ys i d e h k = absurd (omega arith)
  zipped_step (x ∷ xs) [] i d e h k = absurd (omega arith)
  zipped_step (x ∷ xs) (y ∷ ys) zero d e h k = refl
  zipped_step (x ∷ xs) (y ∷ ys) (suc i) d e h k = ap (λ (t : List X). f x y ∷ t) (zipped_step xs ys i d e (omega arith) (omega arith))

  pub zipped_more : (xs : List X) (ys : List Y) (zs : List X) (i : ℕ) (d : X) (e : Y) → i < length xs → i < length ys → zs ≡ zipped_below f i xs ys
      → set zs i (f (get_or zs i d) (get_or ys i e)) ≡ zipped_below f (i + 1) xs ys
  zipped_more xs ys zs i d e h k is = rw is (zipped_step xs ys i d e h k ∙ ap (λ (n : ℕ). zipped_below f n xs ys) (sym (add-one i)))

  pub zipped_none : (xs : List X) (ys : List Y) → xs ≡ zipped_below f 0 xs ys
  zipped_none xs ys = refl

  all : (xs : List X) (ys : List Y) → zipped_below f (length xs) xs ys ≡ zip2 f xs ys
  all [] ys = refl
  all (x ∷ xs) [] = rest_none xs
  all (x ∷ xs) (y ∷ ys) = ap (λ (t : List X). f x y ∷ t) (all xs ys)

  pub zipped_all : (xs : List X) (ys : List Y) (i : ℕ) → i ≡ length xs → zipped_below f i xs ys ≡ zip2 f xs ys
  zipped_all xs ys i h = rw h (all xs ys)
