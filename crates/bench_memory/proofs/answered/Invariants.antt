use Rattle.bench_memory.proofs.answered.Given as goal

abbrev pub ghosts-tried : goal.ghosts-tried
ghosts-tried a = record { name = a.looks.name; parts = a.looks.parts }
