use Rattle.qe_chains.specs.declared.nodes.Side.TheVariants.{All}
use Rattle.qe_chains.proofs.NodeLemmas.{unhooks_all, inside_tag, inside_doc}
use Rattle.qe_chains.proofs.nodes.unhook_all.Goals as goal

pub unhook-requires-clause-before : goal.unhook-requires-clause-before
unhook-requires-clause-before c = (c.requires.inside All).0

pub unhook-requires-clause-after : goal.unhook-requires-clause-after
unhook-requires-clause-after c = (c.requires.inside All).1

pub unhook-requires-2-clause-before : goal.unhook-requires-2-clause-before
unhook-requires-2-clause-before c = (inside_tag _ _ _ c.unhook.ensures.kept c.requires.inside).0

pub unhook-requires-2-clause-after : goal.unhook-requires-2-clause-after
unhook-requires-2-clause-after c = (inside_tag _ _ _ c.unhook.ensures.kept c.requires.inside).1

pub unhook-requires-3-clause-before : goal.unhook-requires-3-clause-before
unhook-requires-3-clause-before c = (inside_doc _ _ _ _ c.unhook.ensures.kept c.unhook-2.ensures.kept c.requires.inside).0

pub unhook-requires-3-clause-after : goal.unhook-requires-3-clause-after
unhook-requires-3-clause-after c = (inside_doc _ _ _ _ c.unhook.ensures.kept c.unhook-2.ensures.kept c.requires.inside).1

pub returns : goal.returns
returns c = unhooks_all _ _ _ c.args.nodes.now c.unhook.new.nodes c.unhook-2.new.nodes c.unhook-3.new.nodes c.unhook.ensures c.unhook-2.ensures c.unhook-3.ensures
