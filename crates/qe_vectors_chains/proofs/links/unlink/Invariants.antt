use Rattle.qe_vectors_chains.proofs.links.unlink.Given as goal

abbrev pub ghosts-unlink_on : goal.ghosts-unlink_on
ghosts-unlink_on a = record { name = a.blank.name; parts = a.blank.parts }
