use Rattle.format_tests.proofs.registers.reads_the_older_text.Given as goal

abbrev pub ghosts-reads_and_looks : goal.ghosts-reads_and_looks
ghosts-reads_and_looks g a = record { name = a.blank.name; parts = a.blank.parts }
