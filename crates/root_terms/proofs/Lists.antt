-- Pairs and elements of lists that are put together from others.
use Rattle.std.proofs.Common.{◌≡◌, ◌≢◌, inl, inr, ℕ, ◌+◌, ◌-◌, ◌<◌, ◌≤◌, List, [], ◌∷◌, ◌++◌, map, length, get_or, AllPairs, Contains, sym, ◌∙◌, ap, arith}
use Rattle.std.proofs.lemmas.Bool.{cases_lt}
use Rattle.std.proofs.lemmas.List.{length-append, length-map, get_or-map, get_or_append_left, get_or-append-add, get_or_default}

pub Contains-map : {X Y : Type 0} (f : X → Y) (xs : List X) (x : X) → Contains xs x → Contains (map f xs) (f x)
Contains-map f xs x h = (h.0, omega (arith, length-map xs f, h.1), get_or-map f xs h.0 x (f x) h.1 ∙ ap f h.2)

pub AllPairs-map : {X Y : Type 0} (f : X → Y) → ((x y : X) → f x ≡ f y → x ≡ y) → (xs : List X) → AllPairs (λ x y. x ≢ y) xs → AllPairs (λ x y. x ≢ y) (map f xs)
AllPairs-map f exact [] h i j d l m = absurd (omega arith)
AllPairs-map f exact (x ∷ xs) h i j d l m =
    let within : j < length (x ∷ xs) = omega (arith, length-map (x ∷ xs) f) in
    λ e. h i j x l within (exact (get_or (x ∷ xs) i x) (get_or (x ∷ xs) j x)
    (sym (get_or-map f (x ∷ xs) i x d (omega arith)) ∙ e ∙ get_or-map f (x ∷ xs) j x d within))

-- the pairs within each of two lists, and those across
pub AllPairs-append : {X : Type 0} (R : X → X → Type 0) (xs ys : List X) → AllPairs R xs → AllPairs R ys → ((x y : X) → Contains xs x → Contains ys y → R x y) → AllPairs R (xs ++ ys)
AllPairs-append R xs ys left right across i j d l m =
    let long = length-append xs ys in
    elim (cases_lt j (length xs)) [
      | inl a ↦ rw (get_or_append_left xs ys d i (omega arith), get_or_append_left xs ys d j a) (left i j d l a)
      | inr a ↦ rw (later j a) (elim (cases_lt i (length xs)) [
        | inl b ↦ rw (get_or_append_left xs ys d i b)
            (across (get_or xs i d) (get_or ys (j - length xs) d) (i, b, get_or_default xs i (get_or xs i d) d b)
            (j - length xs, omega arith, get_or_default ys (j - length xs) (get_or ys (j - length xs) d) d (omega arith)))
        | inr b ↦ rw (later i b) (right (i - length xs) (j - length xs) d (omega arith) (omega arith))
      ])
    ]
  where
    later : (k : ℕ) → length xs ≤ k → get_or (xs ++ ys) k d ≡ get_or ys (k - length xs) d
    later k b = let place : k ≡ length xs + (k - length xs) = omega arith in ap (λ t. get_or (xs ++ ys) t d) place ∙ get_or-append-add xs ys (k - length xs) d
