use Rattle.decoder_tests.proofs.polynomials.finds_roots_in_each_field.Given as goal

abbrev pub ghosts-known_few_roots : goal.ghosts-known_few_roots
ghosts-known_few_roots g a = record { name = a.blank.name; parts = a.blank.parts }
