use Rattle.decoder_tests.proofs.pairs.recovers_from_pairs.Given as goal

abbrev pub ghosts-known_pairs : goal.ghosts-known_pairs
ghosts-known_pairs g a = record { name = a.blank.name; parts = a.blank.parts }
