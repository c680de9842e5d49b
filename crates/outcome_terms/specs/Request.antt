-- The commands with their arguments. This project's own.
use Rattle.std.specs.Prelude.{ℕ, List}

pub data Request : Type 0 where
  -- make a register of codewords over GF(2^m) with dimension k, multiplier a and shift b, and write it to `out`
  Make : (m k a b : ℕ) (out : List ℕ) → Request
  -- enrol the name in the register, and write it to `out`
  Enrol : (register name out : List ℕ) → Request
  -- withdraw the licensee of this name in the register, and write it to `out`
  Withdraw : (register name out : List ℕ) → Request
  -- make the title of the design and the source from the variants that are held, and write it to `out`
  MakeTitle : (design source out : List ℕ) → Request
  -- make the playlist that the licensee of this name gets of the title, and write it to `out`
  Package : (title register name out : List ℕ) → Request
  -- report who agrees with the word of the copy, for coalitions of at most c
  Trace : (title register copy : List ℕ) (c : ℕ) → Request
  -- check that the report says who agrees with the word of the copy
  Check : (title register copy report : List ℕ) → Request
  -- report who agrees with the word, for coalitions of at most c
  Accuse : (register word : List ℕ) (c : ℕ) → Request
  -- make the sample of the number, and say whom the desk accuses in it
  Sample : (number : ℕ) → Request
