use Rattle.std.proofs.Common.{◌≡◌, ◌*◌, ◌++◌, drop}
use Rattle.qe_encodes.specs.Payloads.{Drawn, sent_edges}
use Rattle.qe_keyring.specs.Drawing.{further}
use Rattle.qe_sending.specs.Drawn.{HasEdgeDraws}
use Rattle.qe_sending.proofs.values.edges_sent.Given as goal

abbrev pub invariant-loop-edge : goal.invariant-loop-edge
invariant-loop-edge l = record {
  so_far : (drawn : Drawn) → HasEdgeDraws drawn l.factor l.fn.draws
      → l.list ++ sent_edges l.field.under l.leaves l.field.number l.domain drawn (drop l.edge-index l.edges) l.edge-index
      ≡ sent_edges l.field.under l.leaves l.field.number l.domain drawn l.edges 0;
  place : l.draws ≡ further l.fn.draws (4 * l.edge-index);
}
