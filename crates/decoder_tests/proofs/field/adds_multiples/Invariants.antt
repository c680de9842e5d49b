use Rattle.decoder_tests.proofs.field.adds_multiples.Given as goal

abbrev pub ghosts-known_slices : goal.ghosts-known_slices
ghosts-known_slices g a = record { name = a.blank.name; parts = a.blank.parts }
