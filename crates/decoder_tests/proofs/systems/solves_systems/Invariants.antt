use Rattle.decoder_tests.proofs.systems.solves_systems.Given as goal

abbrev pub ghosts-known_kernels : goal.ghosts-known_kernels
ghosts-known_kernels g a = record { name = a.blank.name; parts = a.blank.parts }

abbrev pub ghosts-known_kernels-2 : goal.ghosts-known_kernels-2
ghosts-known_kernels-2 g a = record { name = a.blank.name; parts = a.blank.parts }

abbrev pub ghosts-known_ranks : goal.ghosts-known_ranks
ghosts-known_ranks g a = record { name = a.blank.name; parts = a.blank.parts }

abbrev pub ghosts-known_ranks-2 : goal.ghosts-known_ranks-2
ghosts-known_ranks-2 g a = record { name = a.blank.name; parts = a.blank.parts }
