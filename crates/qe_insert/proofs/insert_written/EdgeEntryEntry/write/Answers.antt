use Rattle.qe_parts.proofs.EntryLemmas.{if_ok}
use Rattle.qe_insert.proofs.WriteLemmas.{edge_again}
use Rattle.qe_insert.proofs.insert_written.EdgeEntryEntry.write.Goals as goal

pub returns-clause-again : goal.returns-clause-again
returns-clause-again c =
    let edge = c.args.of.now in
    if_ok c.edge_document.result (λ _ long. edge_again edge long.d long.s long.l long.p) c.edge_document.ensures.long
