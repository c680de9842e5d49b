use Rattle.decoder_tests.proofs.bivariate.adds_a_multiple.Given as goal

abbrev pub ghosts-known_sum : goal.ghosts-known_sum
ghosts-known_sum g a = record { name = a.blank.name; parts = a.blank.parts }
