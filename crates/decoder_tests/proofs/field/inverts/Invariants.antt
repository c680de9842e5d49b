use Rattle.decoder_tests.proofs.field.inverts.Given as goal

abbrev pub ghosts-known_inverses : goal.ghosts-known_inverses
ghosts-known_inverses g a = record { name = a.blank.name; parts = a.blank.parts }
