use Rattle.decoder_tests.proofs.roots.finds_all_roots_in_order.Given as goal

abbrev pub ghosts-known_roots : goal.ghosts-known_roots
ghosts-known_roots g a = record { name = a.blank.name; parts = a.blank.parts }
