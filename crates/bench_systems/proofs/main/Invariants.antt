use Rattle.bench_systems.proofs.main.Given as goal

abbrev pub ghosts-run_in_field : goal.ghosts-run_in_field
ghosts-run_in_field a = record { name = a.blank.name; parts = a.blank.parts }
