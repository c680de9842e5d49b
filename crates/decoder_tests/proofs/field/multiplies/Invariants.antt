use Rattle.decoder_tests.proofs.field.multiplies.Given as goal

abbrev pub ghosts-known_products : goal.ghosts-known_products
ghosts-known_products g a = record { name = a.blank.name; parts = a.blank.parts }
