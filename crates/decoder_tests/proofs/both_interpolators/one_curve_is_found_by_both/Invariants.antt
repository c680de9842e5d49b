use Rattle.decoder_tests.proofs.both_interpolators.one_curve_is_found_by_both.Given as goal

abbrev pub ghosts-agree_on_all : goal.ghosts-agree_on_all
ghosts-agree_on_all g a = record { name = a.blank.name; parts = a.blank.parts }
