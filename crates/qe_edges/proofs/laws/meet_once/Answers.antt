use Rattle.qe_edges.proofs.ShareLemmas.{meet_inside, share_once}
use Rattle.qe_edges.proofs.laws.meet_once.Goals as goal

pub returns-clause-meets : goal.returns-clause-meets
returns-clause-meets c = meet_inside

pub returns-clause-once : goal.returns-clause-once
returns-clause-once c = share_once
