use Rattle.qe_chains.proofs.NodeLemmas.{hooks_all}
use Rattle.qe_chains.proofs.nodes.hook_all.Goals as goal

pub returns : goal.returns
returns c = hooks_all _ _ _ c.args.nodes.now c.hook.new.nodes c.hook-2.new.nodes c.hook-3.new.nodes c.hook.ensures c.hook-2.ensures c.hook-3.ensures
