use Rattle.format_tests.proofs.samples.lines_that_were_worked_out_apart.Given as goal

abbrev pub ghosts-lines-P-Ledger : goal.ghosts-lines-P-Ledger
ghosts-lines-P-Ledger g a = record { name = a.prods.name; parts = a.prods.parts }

abbrev pub ghosts-lines-Q-Ledger : goal.ghosts-lines-Q-Ledger
ghosts-lines-Q-Ledger g a = record { name = a.looks.name; parts = a.looks.parts }
