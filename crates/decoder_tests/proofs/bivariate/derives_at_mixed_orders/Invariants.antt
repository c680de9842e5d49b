use Rattle.decoder_tests.proofs.bivariate.derives_at_mixed_orders.Given as goal

abbrev pub ghosts-known_derivatives : goal.ghosts-known_derivatives
ghosts-known_derivatives g a = record { name = a.blank.name; parts = a.blank.parts }
