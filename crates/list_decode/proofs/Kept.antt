-- What a filter keeps.
use Rattle.std.proofs.Common.{◌≡◌, ℕ, zero, suc, ◌<◌, Bool, true, false, cond, if◌then◌else◌, ◌+◌, List, [], ◌∷◌, ◌++◌, length, get_or, Contains, filter, map, take, refl, sym, ◌∙◌, ap, subst, arith}
use Rattle.std.proofs.lemmas.List.{take_more, map-append}
use Rattle.std.proofs.lemmas.List.Elements.{filter-append}

module _ {X : Type 0} (p : X → Bool) where
  at_front : (x : X) (xs : List X) → Contains (x ∷ xs) x
  at_front x xs = (0, omega arith, refl)

  behind : (x y : X) (xs : List X) → Contains xs y → Contains (x ∷ xs) y
  behind x y xs h = let inside : h.0 < length xs = h.1 in (suc h.0, omega arith, h.2)

  pub Contains-filter : (xs : List X) (x : X) → Contains xs x → p x ≡ true → Contains (filter p xs) x
  Contains-filter [] x h passes = absurd (omega (arith, h.1))
  Contains-filter (y ∷ xs) x h passes = by (Contains-filter xs x) h.0 h.1 h.2
    where
      by : (Contains xs x → p x ≡ true → Contains (filter p xs) x) → (k : ℕ) → k < length (y ∷ xs) → get_or (y ∷ xs) k x ≡ x → Contains (filter p (y ∷ xs)) x
      by later zero l e =
          let here : p y ≡ true = ap p e ∙ passes in
          subst (λ (b : Bool). Contains (cond b (y ∷ filter p xs) (filter p xs)) x) (sym here) (subst (λ t. Contains (t ∷ filter p xs) x) (sym e) (at_front x (filter p xs)))
      by later (suc k) l e =
          let rest : Contains (filter p xs) x = later (k, omega arith, e) passes in
          elim (p y) as (λ (b : Bool). Contains (cond b (y ∷ filter p xs) (filter p xs)) x) [
            | true ↦ behind y x (filter p xs) rest
            | false ↦ rest
          ]

-- one element more
module _ {X Y : Type 0} (f : Y → X) (p : X → Bool) where
  pub kept_more : (ys : List Y) (i : ℕ) (y : Y) (x : X) (before after : List X) (b : Bool) → i < length ys → y ≡ get_or ys i y → x ≡ f y → b ≡ p x
      → before ≡ filter p (map f (take i ys)) → after ≡ before ++ (if b then x ∷ [] else []) → after ≡ filter p (map f (take (i + 1) ys))
  kept_more ys i y x before after b inside read is test so_far added =
      let next : take (i + 1) ys ≡ take i ys ++ y ∷ [] = take_more ys i y inside ∙ ap (λ t. take i ys ++ t ∷ []) (sym read) in
      let whole : filter p (map f (take (i + 1) ys)) ≡ filter p (map f (take i ys)) ++ filter p (f y ∷ []) =
      ap (λ t. filter p (map f t)) next ∙ ap (filter p) (map-append f (take i ys) (y ∷ [])) ∙ filter-append p (map f (take i ys)) (f y ∷ []) in
      added
      ∙ ap (λ t. t ++ (if b then x ∷ [] else [])) so_far
      ∙ ap (λ (c : Bool). filter p (map f (take i ys)) ++ (if c then x ∷ [] else [])) (test ∙ ap p is)
      ∙ ap (λ t. filter p (map f (take i ys)) ++ (if p (f y) then t ∷ [] else [])) is
      ∙ sym whole
