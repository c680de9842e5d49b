use Rattle.format_tests.proofs.registers.reads_what_it_writes.Given as goal

abbrev pub ghosts-withdraws : goal.ghosts-withdraws
ghosts-withdraws g a = record { name = a.blank.name; parts = a.blank.parts }
