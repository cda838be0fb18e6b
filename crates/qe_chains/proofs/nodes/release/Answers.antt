use Rattle.qe_chains.proofs.nodes.release.Goals as goal

pub returns : goal.returns
returns c = (c.unhook_all-left.new.nodes, (c.unhook_all-left.ensures, c.set_after.ensures))
