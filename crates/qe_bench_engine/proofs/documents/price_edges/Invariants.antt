use Rattle.std.proofs.Common.{◌≡◌, length}
use Rattle.qe_bench_engine.proofs.documents.price_edges.Given as goal

abbrev pub invariant-loop-level : goal.invariant-loop-level
invariant-loop-level l = length l.edges ≡ l.level

-- Each level has its edge.
