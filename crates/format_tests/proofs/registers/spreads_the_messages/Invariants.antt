use Rattle.format_tests.proofs.registers.spreads_the_messages.Given as goal

abbrev pub ghosts-gives_messages : goal.ghosts-gives_messages
ghosts-gives_messages g a = record { name = a.blank.name; parts = a.blank.parts }
