use Rattle.decoder_tests.proofs.polynomials.adds_shifted_multiples.Given as goal

abbrev pub ghosts-known_shifted_sums : goal.ghosts-known_shifted_sums
ghosts-known_shifted_sums g a = record { name = a.blank.name; parts = a.blank.parts }
