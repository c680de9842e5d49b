use Rattle.std.proofs.Common.{◌≡◌, ◌∙◌, ℕ, List, [], ◌∷◌, ◌++◌, length, map, Option, sym, ap, subst, arith}
use Rattle.std.specs.List.{range_with_len}
use Rattle.std.proofs.lemmas.List.FromFn.{length-map-range_with_len, map-range_with_len_more}
use Rattle.std.proofs.lemmas.Result.{IfOk-weaker}
use Rattle.title_terms.specs.Designs.{places}
use Rattle.copy_terms.specs.Copies.{word_of_copy}
use Rattle.copy_match.specs.Readers.{Reader, IsReader, only_flag, flags_at, word_of_flags}
use Rattle.copy_match.proofs.Shown.{all_slots, same_word}
use Rattle.copy_match.proofs.reader.CopyReader.word.Goals as goal

pub places-preserved : goal.places-preserved
places-preserved c =
    let slot : ℕ → Option ℕ = λ place. only_flag (flags_at c.args.self.now place) in
    c.in_ok-push.ensures.items
    ∙ ap (λ (slots : List (Option ℕ)). slots ++ c.only_flag-shown.result ∷ []) c.places.invariant
    ∙ ap (λ (s : Option ℕ). map slot (range_with_len 0 c.places.place) ++ s ∷ []) (c.only_flag-shown.ensures ∙ ap only_flag c.flags_at.ensures.flags)
    ∙ sym (map-range_with_len_more slot 0 c.places.place c.places.place (omega arith))

pub of-requires : goal.of-requires
of-requires c =
    let slot : ℕ → Option ℕ = λ place. only_flag (flags_at c.args.self.now place) in
    omega (arith, ap length c.as_slice.ensures.value, ap length c.places.invariant, length-map-range_with_len slot 0 c.places.place, c.places-count.ensures.few, c.places.auto.place-end)

slots_are : goal.returns-clause-flags
slots_are c =
    let last : c.places.place ≡ c.places-count.result = omega (arith, c.places-test.false, c.places.auto.place-end) in
    let all : c.places-count.result ≡ places c.args.self.now.title.design = c.places-count.ensures.number ∙ ap (λ (r : Reader). places r.title.design) c.self.view_is in
    IfOk-weaker c.of.result (λ w. w ≡ c.as_slice.result.now) (λ w. w ≡ word_of_flags c.args.self.now)
    (λ w is. is ∙ c.as_slice.ensures.value ∙ all_slots c.args.self.now c.places.slots.items c.places.place c.places-count.result c.places.invariant last all) c.of.ensures

pub returns-clause-flags : goal.returns-clause-flags
returns-clause-flags c = slots_are c

pub returns-clause-word : goal.returns-clause-word
returns-clause-word c = λ digests seen.
    IfOk-weaker c.of.result (λ w. w ≡ word_of_flags c.args.self.now) (λ w. w ≡ word_of_copy c.args.self.now.title digests)
    (λ w is. is ∙ same_word c.args.self.now (subst IsReader c.self.view_is c.self.invariant) digests seen) (slots_are c)
