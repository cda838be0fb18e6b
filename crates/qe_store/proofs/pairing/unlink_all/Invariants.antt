use Rattle.qe_store.proofs.pairing.unlink_all.Given as goal

abbrev pub ghosts-unlink_on : goal.ghosts-unlink_on
ghosts-unlink_on a = record { name = a.blank.name; parts = a.blank.parts }
