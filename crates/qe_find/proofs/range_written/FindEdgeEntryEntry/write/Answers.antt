use Rattle.qe_parts.proofs.EntryLemmas.{if_ok}
use Rattle.qe_find.proofs.WriteLemmas.{find_edge_again}
use Rattle.qe_find.proofs.range_written.FindEdgeEntryEntry.write.Goals as goal

pub returns-clause-again : goal.returns-clause-again
returns-clause-again c =
    let edge = c.args.of.now in
    if_ok c.edge_document.result (λ _ long. find_edge_again edge long.d long.s long.l) c.edge_document.ensures.long
