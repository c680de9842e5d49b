use Rattle.decoder_tests.proofs.codewords.finds_agreeing_places.Given as goal

abbrev pub ghosts-known_places : goal.ghosts-known_places
ghosts-known_places g a = record { name = a.blank.name; parts = a.blank.parts }
