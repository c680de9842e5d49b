use Rattle.std.proofs.Common.{◌≡◌, ◌≤◌, length, drop, vec_len}
use Rattle.code_terms.specs.Words.{HasSymbolsBelow}
use Rattle.code_terms.specs.WordText.{tokens_of, slots_from}
use Rattle.rs_code.proofs.Slots.{with_front}
use Rattle.rs_code.proofs.word.Word.read.Given as goal

-- What the whole text spells is what the tokens that are left spell, behind the slots so far.
abbrev pub invariant-tokens : goal.invariant-tokens
invariant-tokens l = record {
  can : (goal.iterator-tokens).can_next l.token-iterator;
  finite : (goal.iterator-tokens).is_finite l.token-iterator;
  count : vec_len l.slots ≡ length l.yielded;
  room : vec_len l.slots ≤ l.limit;
  below : HasSymbolsBelow l.limit l.slots.items;
  so_far : slots_from l.limit 0 (tokens_of l.fn.bytes) ≡ with_front l.slots.items (slots_from l.limit (length l.yielded) (drop (length l.yielded) (tokens_of l.fn.bytes)));
}
