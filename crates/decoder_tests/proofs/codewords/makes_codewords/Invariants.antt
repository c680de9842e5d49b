use Rattle.decoder_tests.proofs.codewords.makes_codewords.Given as goal

abbrev pub ghosts-known_codewords : goal.ghosts-known_codewords
ghosts-known_codewords g a = record { name = a.blank.name; parts = a.blank.parts }
