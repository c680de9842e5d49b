-- One more text behind others with commas between them.
use Rattle.std.proofs.Common.{◌≡◌, ℕ, ◌+◌, ◌<◌, List, [], ◌∷◌, ◌++◌, length, get_or, take, map, refl, sym, ap, ◌∙◌, append_assoc, arith}
use Rattle.std.proofs.lemmas.List.{map_more, length-map, length-take-le}
use Rattle.desk_terms.specs.Report.{comma_separated, comma_before}

pub comma_separated-push : (texts : List (List ℕ)) (t : List ℕ) → comma_separated (texts ++ t ∷ []) ≡ comma_separated texts ++ (comma_before (length texts) ++ t)
comma_separated-push [] t = refl
comma_separated-push (x ∷ []) t = refl
comma_separated-push (x ∷ y ∷ more) t =
    ap (λ z. x ++ 44 ∷ z) (comma_separated-push (y ∷ more) t) ∙ sym (append_assoc x (44 ∷ comma_separated (y ∷ more)) (44 ∷ t))

-- a loop that writes f of each item, with a comma before all but the first
pub comma_separated_more : {X : Type 0} (f : X → List ℕ) (xs : List X) (i : ℕ) (d : X) → i < length xs
    → comma_separated (map f (take (i + 1) xs)) ≡ comma_separated (map f (take i xs)) ++ (comma_before i ++ f (get_or xs i d))
comma_separated_more f xs i d h =
    let n : length (map f (take i xs)) ≡ i = length-map (take i xs) f ∙ length-take-le i xs (omega arith)
    in ap comma_separated (map_more f xs i d h) ∙ comma_separated-push (map f (take i xs)) (f (get_or xs i d)) ∙ ap (λ k. comma_separated (map f (take i xs)) ++ (comma_before k ++ f (get_or xs i d))) n

-- the step of a loop that appends them to what stands there at its start
pub comma_separated_step : {X : Type 0} (f : X → List ℕ) (xs : List X) (i : ℕ) (d : X) (start before comma after : List ℕ) → i < length xs
    → before ≡ start ++ comma_separated (map f (take i xs)) → comma ≡ before ++ comma_before i → after ≡ comma ++ f (get_or xs i d)
    → after ≡ start ++ comma_separated (map f (take (i + 1) xs))
comma_separated_step f xs i d start before comma after h e1 e2 e3 =
    e3 ∙ ap (λ b. b ++ f (get_or xs i d)) (e2 ∙ ap (λ b. b ++ comma_before i) e1) ∙ rw (comma_separated_more f xs i d h) (simp append_assoc)
