use Rattle.trace_cli.proofs.tests.calls.call_with.Given as goal

abbrev pub ghosts-counted-P-Ledger : goal.ghosts-counted-P-Ledger
ghosts-counted-P-Ledger g a = record { name = a.prods.name; parts = a.prods.parts }

abbrev pub ghosts-counted-Q-Ledger : goal.ghosts-counted-Q-Ledger
ghosts-counted-Q-Ledger g a = record { name = a.looks.name; parts = a.looks.parts }
