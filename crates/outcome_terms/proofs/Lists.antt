-- Readings of each of a list, one after the other: what a loop over names follows.
use Rattle.std.proofs.Common.{◌≡◌, ℕ, zero, suc, ◌+◌, List, [], ◌∷◌, ◌++◌, take, drop, Some, Ok, Err, refl, sym, ap, subst, arith, add-one}
use Rattle.std.specs.List.{slice_get}
use Rattle.std.proofs.lemmas.Option.{slice_get_within}
use Rattle.outcome_terms.specs.declared.fault.Fault.{Fault}
use Rattle.outcome_terms.specs.declared.refusal.Refusal.{Refusal}
use Rattle.outcome_terms.specs.declared.refusal.Refusal.TheVariants as refusal
use Rattle.outcome_terms.specs.Reading.{Reading, Give, Refuse, Read, ◌>>=◌, each}
use Rattle.outcome_terms.specs.Stores.{Follows, gave, went_on, no_memory}
use Rattle.records.specs.Stores.{Store}
use Rattle.outcome_terms.proofs.Readings.{goes_on, stops}

-- the parts of a chain that gave a value
pub record Parts {A B : Type 0} (reading : Reading A) (f : A → Reading B) (s u : Store) (y : B) : Type 0 where
  pub value : A
  pub between : Store
  pub first : Follows reading s between (Ok value)
  pub then : Follows (f value) between u (Ok y)

never_refused : {A X : Type 0} {fault : Fault} {s u : Store} {y : A} → Follows (Refuse fault) s u (Ok y) → X
never_refused p = elim p [ ]

pub parts : {A B : Type 0} (reading : Reading A) (f : A → Reading B) {s u : Store} {y : B} → Follows (reading >>= f) s u (Ok y) → Parts reading f s u y
unfolding ◌>>=◌
parts (Give x) f {s} p = record { value = x; between = s; first = gave; then = p }
parts (Refuse fault) f p = never_refused p
parts (Read name next) f (went_on {bytes = bytes} r p) =
    let rest = parts (next bytes) f p in
    record { value = rest.value; between = rest.between; first = went_on r rest.first; then = rest.then }

pub record Over {A : Type 0} (x y : A) (s t : Store) : Type 0 where
  pub value : x ≡ y
  pub same : s ≡ t

pub over : {A : Type 0} {x y : A} {s t : Store} → Follows (Give x) s t (Ok y) → Over x y s t
over gave = record { value = refl; same = refl }

module _ {X A : Type 0} (step : X → Reading A) where
  -- one more behind those that were read
  pub each_more : (xs : List X) (ys : List A) (x : X) (y : A) {s t u : Store} → Follows (each step xs) s t (Ok ys) → Follows (step x) t u (Ok y) → Follows (each step (xs ++ x ∷ [])) s u (Ok (ys ++ y ∷ []))
  unfolding each
  each_more [] ys x y {s} {t} {u} first next =
      let o = over first in
      subst (λ ys. Follows (each step (x ∷ [])) s u (Ok (ys ++ y ∷ []))) o.value (subst (λ (r : Store). Follows (each step (x ∷ [])) r u (Ok (y ∷ []))) (sym o.same) (goes_on _ next (goes_on _ gave gave)))
  each_more (z ∷ zs) ys x y {s} {t} {u} first next =
      let head = parts (step z) _ first in
      let tail = parts (each step zs) _ head.then in
      let o = over tail.then in
      let later : Follows (each step (zs ++ x ∷ [])) head.between u (Ok (tail.value ++ y ∷ [])) =
      each_more zs tail.value x y (subst (λ (r : Store). Follows (each step zs) head.between r (Ok tail.value)) o.same tail.first) next in
      subst (λ ys. Follows (each step (z ∷ zs ++ x ∷ [])) s u (Ok (ys ++ y ∷ []))) o.value (goes_on _ head.first (goes_on _ later gave))

  -- a step that is refused ends the whole
  pub each_stops : (xs rest : List X) (ys : List A) (x : X) (e : Refusal) {s t u : Store} → Follows (each step xs) s t (Ok ys) → Follows (step x) t u (Err e) → Follows (each step (xs ++ x ∷ rest)) s u (Err e)
  unfolding each
  each_stops [] rest ys x e {s} {t} {u} first next = let o = over first in subst (λ (r : Store). Follows (each step (x ∷ rest)) r u (Err e)) (sym o.same) (stops _ next)
  each_stops (z ∷ zs) rest ys x e {s} {t} {u} first next =
      let head = parts (step z) _ first in
      let tail = parts (each step zs) _ head.then in
      let o = over tail.then in
      goes_on _ head.first (stops _ (each_stops zs rest tail.value x e (subst (λ (r : Store). Follows (each step zs) head.between r (Ok tail.value)) o.same tail.first) next))

-- ---- a loop over the indices of a list

pub take_more : {X : Type 0} (xs : List X) (i : ℕ) (x : X) → slice_get xs i ≡ Some x → take (suc i) xs ≡ take i xs ++ x ∷ []
take_more [] i x h = absurd (omega (arith, slice_get_within [] i x h))
take_more (y ∷ ys) zero x h = ap (λ z. z ∷ []) (let same : y ≡ x = cc in same)
take_more (y ∷ ys) (suc i) x h = ap (λ zs. y ∷ zs) (take_more ys i x h)

pub cut_at : {X : Type 0} (xs : List X) (i : ℕ) (x : X) → slice_get xs i ≡ Some x → take i xs ++ x ∷ drop (suc i) xs ≡ xs
cut_at [] i x h = absurd (omega (arith, slice_get_within [] i x h))
cut_at (y ∷ ys) zero x h = ap (λ z. z ∷ ys) (let same : x ≡ y = cc in same)
cut_at (y ∷ ys) (suc i) x h = ap (λ zs. y ∷ zs) (cut_at ys i x h)

module _ {X A : Type 0} (step : X → Reading A) where
  -- the i-th is read behind those before it
  pub each_to : (xs : List X) (i : ℕ) (x : X) (ys : List A) (y : A) {s t u : Store} → slice_get xs i ≡ Some x → Follows (each step (take i xs)) s t (Ok ys) → Follows (step x) t u (Ok y)
      → Follows (each step (take (i + 1) xs)) s u (Ok (ys ++ y ∷ []))
  each_to xs i x ys y {s} {t} {u} at first next =
      let more : take (i + 1) xs ≡ take i xs ++ x ∷ [] = rw add-one (take_more xs i x at) in
      subst (λ zs. Follows (each step zs) s u (Ok (ys ++ y ∷ []))) (sym more) (each_more step (take i xs) ys x y first next)

  -- the i-th is refused, and so is the whole
  pub each_fails : (xs : List X) (i : ℕ) (x : X) (ys : List A) (e : Refusal) {s t u : Store} → slice_get xs i ≡ Some x → Follows (each step (take i xs)) s t (Ok ys) → Follows (step x) t u (Err e)
      → Follows (each step xs) s u (Err e)
  each_fails xs i x ys e {s} {t} {u} at first next =
      subst (λ zs. Follows (each step zs) s u (Err e)) (cut_at xs i x at) (each_stops step (take i xs) (drop (suc i) xs) ys x e first next)

-- want of memory behind what was read
pub or_memory : {A : Type 0} {reading : Reading A} {s t : Store} {x : A} → Follows reading s t (Ok x) → Follows reading s t (Err refusal.Memory)
or_memory gave = no_memory
or_memory (went_on r p) = went_on r (or_memory p)
