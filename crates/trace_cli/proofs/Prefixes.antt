-- What stands in an output after one put or two, from what each of them says.
use Rattle.std.proofs.Common.{◌≡◌, ℕ, ◌-◌, List, ◌++◌, length, Option, Some, None, Result, Ok, Err, refl, sym, ap, ◌∙◌, subst, inl, inr, arith, length-append}
use Rattle.std.proofs.lemmas.List.{take_all}
use Rattle.shelf_terms.specs.Puts.{Puts}
use Rattle.shelf_io.specs.declared.errors.SinkError.{SinkError}
use Rattle.shelf_io.specs.Puts.{PutGives}
use Rattle.outcome_terms.specs.declared.status.Status.TheVariants as status
use Rattle.outcome_terms.specs.declared.refusal.Refusal.{Refusal}
use Rattle.outcome_terms.specs.Statuses.{refusal_status, error_text}
use Rattle.outcome_terms.specs.Output.{TellsAnswer, TellsRefusal, TellsPrefix, memory_line}

-- all of a text is a prefix of it
pub puts_whole : (old new text : List ℕ) → new ≡ old ++ text → Puts old new text
puts_whole old new text h = h ∙ ap (λ t. old ++ t) (sym (take_all (length new - length old) text (omega (arith, length-append old text, ap length h))))

-- a put leaves a prefix of its text
pub prefix_told : (old new : Option (List ℕ)) (bytes text : List ℕ) (r : Result (Unit {0}) SinkError) → bytes ≡ text → PutGives old new bytes r → TellsPrefix text old new
prefix_told (Some old) (Some new) bytes text (Ok done) same h = puts_whole old new text (h ∙ ap (λ t. old ++ t) same)
prefix_told (Some old) (Some new) bytes text (Err e) same h = subst (λ t. Puts old new t) same h
prefix_told None None bytes text r same h = tt
prefix_told (Some old) None bytes text r same h = h
prefix_told None (Some new) bytes text r same h = h

-- ---- an answer

module _ (text : List ℕ) where
  pub answer_done : (old new : Option (List ℕ)) (done : Unit {0}) → PutGives old new text (Ok done) → TellsAnswer status.Ok text old new
  answer_done (Some old) (Some new) done h = record { whole = λ _. h; fault = λ e. cc; memory = λ e. cc }
  answer_done None None done h = tt
  answer_done (Some old) None done h = h
  answer_done None (Some new) done h = h

  pub answer_fault : (old new : Option (List ℕ)) (e : SinkError) → PutGives old new text (Err e) → TellsAnswer status.OutFault text old new
  answer_fault (Some old) (Some new) e h = record { whole = λ e. cc; fault = λ _. h; memory = λ e. cc }
  answer_fault None None e h = tt
  answer_fault (Some old) None e h = h
  answer_fault None (Some new) e h = h

  pub answer_memory : (old between new : Option (List ℕ)) (e : SinkError) → PutGives old between text (Err e) → TellsPrefix memory_line between new → TellsAnswer status.Memory text old new
  answer_memory (Some old) (Some between) (Some new) e h g =
      record { whole = λ e. cc; fault = λ e. cc; memory = λ _. record { between = between; first_put = h; second_put = g } }
  answer_memory None None None e h g = tt
  answer_memory None None (Some new) e h g = g
  answer_memory (Some old) None new e h g = absurd h
  answer_memory None (Some between) new e h g = absurd h
  answer_memory (Some old) (Some between) None e h g = g

-- ---- the error line of a refusal

module _ (e : Refusal) (rose : Type 0) where
  pub line_done : (old new : Option (List ℕ)) (line : List ℕ) (done : Unit {0}) → line ≡ error_text e → PutGives old new line (Ok done) → TellsRefusal (refusal_status e) e rose old new
  line_done (Some old) (Some new) line done same h =
      let all : new ≡ old ++ error_text e = h ∙ ap (λ t. old ++ t) same in
      record { prefix = λ _. puts_whole old new (error_text e) all; whole = λ _ _. all; memory = λ _. inl (puts_whole old new (error_text e) all) }
  line_done None None line done same h = tt
  line_done (Some old) None line done same h = h
  line_done None (Some new) line done same h = h

  pub line_fault : (old new : Option (List ℕ)) (line : List ℕ) (f : SinkError) → line ≡ error_text e → rose → PutGives old new line (Err f) → TellsRefusal (refusal_status e) e rose old new
  line_fault (Some old) (Some new) line f same up h =
      let prefix : Puts old new (error_text e) = subst (λ t. Puts old new t) same h in
      record { prefix = λ _. prefix; whole = λ _ calm. absurd (calm up); memory = λ _. inl prefix }
  line_fault None None line f same up h = tt
  line_fault (Some old) None line f same up h = h
  line_fault None (Some new) line f same up h = h

  pub line_memory : (old new : Option (List ℕ)) (line : List ℕ) (f : SinkError) → line ≡ error_text e → PutGives old new line (Err f) → TellsRefusal status.Memory e rose old new
  line_memory (Some old) (Some new) line f same h =
      let prefix : Puts old new (error_text e) = subst (λ t. Puts old new t) same h in
      record { prefix = λ not. absurd (not refl); whole = λ not _. absurd (not refl); memory = λ _. inl prefix }
  line_memory None None line f same h = tt
  line_memory (Some old) None line f same h = h
  line_memory None (Some new) line f same h = h

  -- no line could be made
  pub no_line : (old new : Option (List ℕ)) → TellsPrefix memory_line old new → TellsRefusal status.Memory e rose old new
  no_line (Some old) (Some new) h = record { prefix = λ not. absurd (not refl); whole = λ not _. absurd (not refl); memory = λ _. inr h }
  no_line None None h = tt
  no_line None (Some new) h = h
  no_line (Some old) None h = h
