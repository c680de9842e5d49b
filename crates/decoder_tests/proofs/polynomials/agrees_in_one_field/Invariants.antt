use Rattle.decoder_tests.proofs.polynomials.agrees_in_one_field.Given as goal

abbrev pub ghosts-known_in_one_field : goal.ghosts-known_in_one_field
ghosts-known_in_one_field g a = record { name = a.blank.name; parts = a.blank.parts }
