use Rattle.qe_edges.proofs.ListLemmas.{one_edge_list, one_cover_list}
use Rattle.qe_edges.proofs.laws.one_list.Goals as goal

pub returns-clause-edges : goal.returns-clause-edges
returns-clause-edges c = one_edge_list

pub returns-clause-covers : goal.returns-clause-covers
returns-clause-covers c = one_cover_list
