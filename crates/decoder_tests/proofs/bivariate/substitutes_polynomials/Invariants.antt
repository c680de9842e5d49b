use Rattle.decoder_tests.proofs.bivariate.substitutes_polynomials.Given as goal

abbrev pub ghosts-known_values : goal.ghosts-known_values
ghosts-known_values g a = record { name = a.blank.name; parts = a.blank.parts }
