-- How readings are followed, one after the other.
use Rattle.std.proofs.Common.{◌≡◌, ℕ, List, Bool, true, Option, Some, None, Result, Ok, Err, sym, subst}
use Rattle.outcome_terms.specs.declared.fault.Fault.{Fault}
use Rattle.outcome_terms.specs.declared.refusal.Refusal.{Refusal}
use Rattle.outcome_terms.specs.declared.refusal.Refusal.TheVariants as refusal
use Rattle.outcome_terms.specs.Reading.{Reading, Give, ◌>>=◌, ◌>>◌, require, blob}
use Rattle.outcome_terms.specs.Stores.{Settles, Reads, Follows, gave, refused, went_on, failed, no_memory, Writing, IsWriting, Writes}
use Rattle.records.specs.Stores.{Store}
use Rattle.outcome_terms.specs.Commands.{Put, Write}
use Rattle.outcome_terms.specs.Outcome.{Performs, unknown, made, not_made, wrote, stopped, lost}

-- a reading that gave a value, and then the next
pub goes_on : {A B : Type 0} {reading : Reading A} (f : A → Reading B) {s t u : Store} {x : A} {answer : Result B Refusal}
    → Follows reading s t (Ok x) → Follows (f x) t u answer → Follows (reading >>= f) s u answer
unfolding ◌>>=◌
goes_on f gave next = next
goes_on f (went_on r p) next = went_on r (goes_on f p next)

-- a reading that was refused ends the whole
pub stops : {A B : Type 0} {reading : Reading A} (f : A → Reading B) {s t : Store} {e : Refusal}
    → Follows reading s t (Err e) → Follows (reading >>= f) s t (Err e)
unfolding ◌>>=◌
stops f refused = refused
stops f (went_on r p) = went_on r (stops f p)
stops f (failed r) = failed r
stops f no_memory = no_memory

-- what takes no blob
pub settled : {A : Type 0} (reading : Reading A) (s : Store) (answer : Result A Refusal) → Settles answer reading → Follows reading s s answer
settled reading s (Ok x) is = subst (λ r. Follows r s s (Ok x)) (sym is) gave
settled reading s (Err (refusal.Content fault)) is = subst (λ r. Follows r s s (Err (refusal.Content fault))) (sym is) refused
settled reading s (Err refusal.Memory) is = no_memory
settled reading s (Err _) is = absurd is

pub settled_on : {A B : Type 0} {reading : Reading A} (f : A → Reading B) {s u : Store} (x : A) {answer : Result B Refusal}
    → reading ≡ Give x → Follows (f x) s u answer → Follows (reading >>= f) s u answer
unfolding ◌>>=◌
settled_on f {s} {u} x {answer} is next = subst (λ r. Follows (r >>= f) s u answer) (sym is) next

-- a demand that is met
pub met_on : {B : Type 0} (is_so : Bool) (fault : Fault) (next : Reading B) {s t : Store} {answer : Result B Refusal}
    → is_so ≡ true → Follows next s t answer → Follows (require is_so fault >> next) s t answer
met_on is_so fault next {s} {t} {answer} is h = subst (λ b. Follows (require b fault >> next) s t answer) (sym is) h

-- the bytes of a blob, or why there are none
pub read_follows : {name : List ℕ} {s t : Store} (answer : Result (List ℕ) Refusal) → Reads name s t answer → Follows (blob name) s t answer
read_follows (Ok bytes) r = went_on r gave
read_follows (Err e) r = failed r

pub ruleset reading_rules = (goes_on, stops, settled_on, settled, read_follows, no_memory)

-- ---- what commands perform

-- a text that is put out, or a refusal in place of it
abbrev pub left : {A : Type 0} → (A → Option (List ℕ)) → Result A Refusal → Result (Option (List ℕ)) Refusal
left view (Ok x) = Ok (view x)
left view (Err e) = Err e

pub put_performs : (reading : Reading (List ℕ)) (s t : Store) (answer : Result (List ℕ) Refusal) → Follows reading s t answer → Performs (Put reading) s t (left Some answer)
put_performs reading s t (Ok text) p = made p
put_performs reading s t (Err e) p = not_made p

abbrev pub left_none : Result (Unit {0}) Refusal → Result (Option (List ℕ)) Refusal
left_none (Ok done) = Ok None
left_none (Err e) = Err e

-- a text that was made, and then a write of it
pub write_performs : (reading : Reading Writing) (writing : Writing) (out text : List ℕ) (s t u : Store) (answer : Result (Unit {0}) Refusal)
    → Follows reading s t (Ok writing) → IsWriting writing text → Writes out text t u answer → Performs (Write out reading) s u (left_none answer)
write_performs reading writing out text s t u (Ok done) p is w = wrote p is w
write_performs reading writing out text s t u (Err e) p is w = lost p is w

pub ruleset performs_rules = (unknown, made, not_made, stopped)
