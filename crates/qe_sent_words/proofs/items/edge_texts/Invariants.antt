use Rattle.std.proofs.Common.{◌≡◌, map, take}
use Rattle.qe_edges.specs.Texts.{text_of}
use Rattle.qe_sent_words.proofs.items.edge_texts.Given as goal

abbrev pub invariant-loop-edge : goal.invariant-loop-edge
invariant-loop-edge l = l.texts ≡ map text_of (take l.edge-index l.edges)
