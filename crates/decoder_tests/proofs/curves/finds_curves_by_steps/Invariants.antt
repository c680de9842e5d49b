use Rattle.decoder_tests.proofs.curves.finds_curves_by_steps.Given as goal

abbrev pub ghosts-finds : goal.ghosts-finds
ghosts-finds g a = record { name = a.blank.name; parts = a.blank.parts }
