use Rattle.std.proofs.Common.{refl}
use Rattle.rand_core.specs.Steps.{u32_at}
use Rattle.rand_chacha.specs.Block.{block_word, double_rounds, diagonal_round, column_round, quarter_round}
use Rattle.sample_terms.specs.Numbers.{word_number}
use Rattle.sample_terms.proofs.laws.worked_numbers.Goals as goal

pub returns-clause-first : goal.returns-clause-first
unfolding word_number block_word double_rounds diagonal_round column_round quarter_round u32_at
returns-clause-first c = refl

pub returns-clause-seventeenth : goal.returns-clause-seventeenth
unfolding word_number block_word double_rounds diagonal_round column_round quarter_round u32_at
returns-clause-seventeenth c = refl

pub returns-clause-multiplier : goal.returns-clause-multiplier
unfolding word_number block_word double_rounds diagonal_round column_round quarter_round u32_at
returns-clause-multiplier c = refl

pub returns-clause-shift : goal.returns-clause-shift
unfolding word_number block_word double_rounds diagonal_round column_round quarter_round u32_at
returns-clause-shift c = refl

pub returns-clause-coalition : goal.returns-clause-coalition
unfolding word_number block_word double_rounds diagonal_round column_round quarter_round u32_at
returns-clause-coalition c = refl

pub returns-clause-of_nought : goal.returns-clause-of_nought
unfolding word_number block_word double_rounds diagonal_round column_round quarter_round u32_at
returns-clause-of_nought c = refl

pub returns-clause-of_two : goal.returns-clause-of_two
unfolding word_number block_word double_rounds diagonal_round column_round quarter_round u32_at
returns-clause-of_two c = refl

pub returns-clause-of_the_last : goal.returns-clause-of_the_last
unfolding word_number block_word double_rounds diagonal_round column_round quarter_round u32_at
returns-clause-of_the_last c = refl
