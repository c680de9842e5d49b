-- Readings along a list, each given what the earlier ones made: what a loop over names follows.
use Rattle.std.proofs.Common.{◌≡◌, ℕ, suc, ◌+◌, List, [], ◌∷◌, ◌++◌, take, drop, Some, Ok, Err, sym, subst, add-one}
use Rattle.std.specs.List.{slice_get}
use Rattle.outcome_terms.specs.declared.refusal.Refusal.{Refusal}
use Rattle.outcome_terms.specs.Reading.{Reading}
use Rattle.outcome_terms.specs.Stores.{Follows, gave}
use Rattle.records.specs.Stores.{Store}
use Rattle.outcome_terms.specs.Along.{along}
use Rattle.outcome_terms.proofs.Readings.{goes_on, stops}
use Rattle.outcome_terms.proofs.Lists.{parts, over, take_more, cut_at}

module _ {X S : Type 0} (step : S → X → Reading S) where
  -- one more behind those that were read
  pub along_more : (made : S) (done : List X) (x : X) (so_far more : S) {s t u : Store} → Follows (along step made done) s t (Ok so_far) → Follows (step so_far x) t u (Ok more) → Follows (along step made (done ++ x ∷ [])) s u (Ok more)
  unfolding along
  along_more made [] x so_far more {s} {t} {u} first next =
      let o = over first in
      let from : Follows (step made x) t u (Ok more) = subst (λ (m : S). Follows (step m x) t u (Ok more)) (sym o.value) next in
      goes_on _ (subst (λ (r : Store). Follows (step made x) r u (Ok more)) (sym o.same) from) gave
  along_more made (y ∷ done) x so_far more first next =
      let head = parts (step made y) _ first in
      goes_on _ head.first (along_more head.value done x so_far more head.then next)

  -- a step that is refused ends the whole
  pub along_stops : (made : S) (done : List X) (x : X) (rest : List X) (so_far : S) {e : Refusal} {s t u : Store} → Follows (along step made done) s t (Ok so_far) → Follows (step so_far x) t u (Err e) → Follows (along step made (done ++ x ∷ rest)) s u (Err e)
  unfolding along
  along_stops made [] x rest so_far {e} {s} {t} {u} first next =
      let o = over first in
      let from : Follows (step made x) t u (Err e) = subst (λ (m : S). Follows (step m x) t u (Err e)) (sym o.value) next in
      stops _ (subst (λ (r : Store). Follows (step made x) r u (Err e)) (sym o.same) from)
  along_stops made (y ∷ done) x rest so_far first next =
      let head = parts (step made y) _ first in
      goes_on _ head.first (along_stops head.value done x rest so_far head.then next)

  -- the item at i is read behind those before it
  pub along_to : (made : S) (xs : List X) (i : ℕ) (x : X) (so_far more : S) {s t u : Store} → slice_get xs i ≡ Some x → Follows (along step made (take i xs)) s t (Ok so_far) → Follows (step so_far x) t u (Ok more)
      → Follows (along step made (take (i + 1) xs)) s u (Ok more)
  along_to made xs i x so_far more {s} {t} {u} at first next =
      let longer : take (i + 1) xs ≡ take i xs ++ x ∷ [] = rw add-one (take_more xs i x at) in
      subst (λ zs. Follows (along step made zs) s u (Ok more)) (sym longer) (along_more made (take i xs) x so_far more first next)

  pub along_fails : (made : S) (xs : List X) (i : ℕ) (x : X) (so_far : S) (e : Refusal) {s t u : Store} → slice_get xs i ≡ Some x → Follows (along step made (take i xs)) s t (Ok so_far) → Follows (step so_far x) t u (Err e)
      → Follows (along step made xs) s u (Err e)
  along_fails made xs i x so_far e {s} {t} {u} at first next =
      subst (λ zs. Follows (along step made zs) s u (Err e)) (cut_at xs i x at) (along_stops made (take i xs) x (drop (suc i) xs) so_far first next)
