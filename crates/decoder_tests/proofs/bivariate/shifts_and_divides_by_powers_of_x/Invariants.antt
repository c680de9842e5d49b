use Rattle.decoder_tests.proofs.bivariate.shifts_and_divides_by_powers_of_x.Given as goal

abbrev pub ghosts-known_shifts : goal.ghosts-known_shifts
ghosts-known_shifts g a = record { name = a.blank.name; parts = a.blank.parts }
