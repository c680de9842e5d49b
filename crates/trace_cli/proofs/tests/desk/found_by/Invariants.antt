use Rattle.trace_cli.proofs.tests.desk.found_by.Given as goal

abbrev pub ghosts-found_among_three-P-Ledger : goal.ghosts-found_among_three-P-Ledger
ghosts-found_among_three-P-Ledger g a = record { name = a.prods.name; parts = a.prods.parts }

abbrev pub ghosts-found_among_three-Q-Ledger : goal.ghosts-found_among_three-Q-Ledger
ghosts-found_among_three-Q-Ledger g a = record { name = a.looks.name; parts = a.looks.parts }
