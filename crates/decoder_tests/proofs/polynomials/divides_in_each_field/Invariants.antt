use Rattle.decoder_tests.proofs.polynomials.divides_in_each_field.Given as goal

abbrev pub ghosts-known_quotients : goal.ghosts-known_quotients
ghosts-known_quotients g a = record { name = a.blank.name; parts = a.blank.parts }
