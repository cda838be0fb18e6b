use Rattle.qe_esc.proofs.search.emu_of.Given as goal

abbrev pub ghosts-emu_on : goal.ghosts-emu_on
ghosts-emu_on g a = record { name = a.blank.name; parts = a.blank.parts }
