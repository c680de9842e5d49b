use Rattle.std.proofs.Common.{rules, tests, ◌≡◌, ◌<◌, length, ℕ, ◌+◌, List, [], ◌∷◌, ◌++◌, get_or, eqb, map, Err, Ok, None, Some, ap, sym, ◌∙◌, arith}
use Rattle.std.proofs.lemmas.List.{append-nil, length_push}
use Rattle.std.proofs.lemmas.Iterator.Splits.{YieldsList-from_slice_split}
use Rattle.code_terms.specs.declared.word_fault.WordFault.TheVariants.{Token}
use Rattle.code_terms.specs.WordText.{without_line_feed, tokens_of, slot_of, slots_from, word_of}
use Rattle.rs_code.proofs.Slots.{with_front, slots_from-long, slots_from-token, slots_from-slot, slots_from-end, with_front-more}
use Rattle.code_terms.proofs.SlotLaws.{slot_of-below, HasSymbolsBelow-push}
use Rattle.rs_code.proofs.Turns.{turn_of, end_of}
use Rattle.rs_code.proofs.word.Word.read.Goals as goal

pub returns-then-len-limit : goal.returns-then-len-limit
unfolding word_of
returns-then-len-limit c =
    let all : List (List ℕ) = tokens_of c.args.bytes.now in
    let place : ℕ = length c.tokens.yielded in
    let turn : (place < length all) × (c.in-Some.token.now ≡ get_or all place c.in-Some.token.now) =
    turn_of {v = λ x. x.now} c.tokens.yielded _ c.tokens.yielded_by _ _ c.in-Some.token c.in-Some.is c.next.ensures.steps (YieldsList-from_slice_split _ (λ b. eqb b 44) (without_line_feed c.args.bytes.now) (cc) (cc) (cc) (λ x b q k. search (rules, tests))) in
    ap (λ limit. slots_from limit 0 all) (sym c.symbol_count-limit.ensures.value) ∙ c.tokens.invariant.so_far ∙ ap (with_front c.tokens.slots.items) (slots_from-long _ place all _ turn (omega arith))

pub returns-in_default : goal.returns-in_default
unfolding word_of
returns-in_default c =
    let all : List (List ℕ) = tokens_of c.args.bytes.now in
    let place : ℕ = length c.tokens.yielded in
    let turn : (place < length all) × (c.in-Some.token.now ≡ get_or all place c.in-Some.token.now) =
    turn_of {v = λ x. x.now} c.tokens.yielded _ c.tokens.yielded_by _ _ c.in-Some.token c.in-Some.is c.next.ensures.steps (YieldsList-from_slice_split _ (λ b. eqb b 44) (without_line_feed c.args.bytes.now) (cc) (cc) (cc) (λ x b q k. search (rules, tests))) in
    let none : slot_of c.symbol_count-limit.result c.in-Some.token.now ≡ None = sym c.slot_of_token.ensures ∙ c.in_default.is in
    let at : place ≡ c.len-in_default.result = omega arith in
    ap (λ limit. slots_from limit 0 all) (sym c.symbol_count-limit.ensures.value) ∙ c.tokens.invariant.so_far ∙ ap (with_front c.tokens.slots.items) (slots_from-token _ place all _ turn (omega arith) none) ∙ ap (λ n. Err (Token n)) at

pub tokens-preserved : goal.tokens-preserved
tokens-preserved c =
    let all : List (List ℕ) = tokens_of c.args.bytes.now in
    let place : ℕ = length c.tokens.yielded in
    let turn : (place < length all) × (c.in-Some.token.now ≡ get_or all place c.in-Some.token.now) =
    turn_of {v = λ x. x.now} c.tokens.yielded _ c.tokens.yielded_by _ _ c.in-Some.token c.in-Some.is c.next.ensures.steps (YieldsList-from_slice_split _ (λ b. eqb b 44) (without_line_feed c.args.bytes.now) (cc) (cc) (cc) (λ x b q k. search (rules, tests))) in
    let is : slot_of c.symbol_count-limit.result c.in-Some.token.now ≡ Some c.in-Some-slot_of_token.slot = sym c.slot_of_token.ensures ∙ c.in-Some-slot_of_token.is in
    let more : length (c.tokens.yielded ++ c.in-Some.token ∷ []) ≡ place + 1 = length_push c.tokens.yielded c.in-Some.token in
    record {
      can = search rules;
      finite = search rules;
      count = omega (arith, more, c.in_ok-push.ensures.len);
      room = omega (arith, c.in_ok-push.ensures.len);
      below = rw c.in_ok-push.ensures.items (HasSymbolsBelow-push _ c.tokens.slots.items _ c.tokens.invariant.below (slot_of-below _ _ _ is));
      so_far = rw (c.in_ok-push.ensures.items, more)
          (c.tokens.invariant.so_far ∙ ap (with_front c.tokens.slots.items) (slots_from-slot _ place all _ _ turn (omega arith) is) ∙ with_front-more c.tokens.slots.items _ _);
    }

pub returns : goal.returns
unfolding word_of
returns c =
    let all : List (List ℕ) = tokens_of c.args.bytes.now in
    let place : ℕ = length c.tokens.yielded in
    let end : (map (λ x. x.now) c.tokens.yielded ≡ all) × (place ≡ length all) =
    end_of {v = λ x. x.now} c.tokens.yielded _ c.tokens.yielded_by _ _ c.in-None.is c.next.ensures.steps (YieldsList-from_slice_split _ (λ b. eqb b 44) (without_line_feed c.args.bytes.now) (cc) (cc) (cc) (λ x b q k. search (rules, tests))) in
    ap (λ limit. slots_from limit 0 all) (sym c.symbol_count-limit.ensures.value) ∙ c.tokens.invariant.so_far ∙ ap (with_front c.tokens.slots.items) (slots_from-end _ place all end.1)
    ∙ ap Ok (append-nil c.tokens.slots.items ∙ sym c.over.ensures)
