use Rattle.std.proofs.Common.{◌≡◌, map, take}
use Rattle.qe_edges.specs.Texts.{text_of}
use Rattle.qe_encodes.specs.Payloads.{find_tokens}
use Rattle.qe_sending.proofs.terms.find_edges.Given as goal

abbrev pub invariant-loop-edge : goal.invariant-loop-edge
invariant-loop-edge l = l.found ≡ map (λ edge. find_tokens l.field.under l.field.number (text_of edge)) (take l.edge-index l.edges)
