use Rattle.trace_cli.proofs.tests.desk.messages_are_decoded.Given as goal

abbrev pub ghosts-decodes : goal.ghosts-decodes
ghosts-decodes g a = record { name = a.prods.name; parts = a.prods.parts }
