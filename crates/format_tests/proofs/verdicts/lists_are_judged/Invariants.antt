use Rattle.format_tests.proofs.verdicts.lists_are_judged.Given as goal

abbrev pub ghosts-verdict-P-Ledger : goal.ghosts-verdict-P-Ledger
ghosts-verdict-P-Ledger g a = record { name = a.prods.name; parts = a.prods.parts }

abbrev pub ghosts-verdict-Q-Ledger : goal.ghosts-verdict-Q-Ledger
ghosts-verdict-Q-Ledger g a = record { name = a.looks.name; parts = a.looks.parts }
