-- The word of a sample's copy: how long it is, and how much of it is readable.
use Rattle.std.proofs.Common.{◌≡◌, refl, ℕ, length}
use Rattle.code_terms.specs.Words.{readable}
use Rattle.sample_terms.specs.Copies.{copied_word}

pub thirty : (number : ℕ) → readable (copied_word number) ≡ 30
unfolding copied_word
thirty number = refl

pub long : (number : ℕ) → length (copied_word number) ≡ 64
unfolding copied_word
long number = refl
