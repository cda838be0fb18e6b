use Rattle.std.proofs.Common.{◌≡◌, ◌+◌, ◌≤◌, length}
use Rattle.qe_chains.specs.Pairs.{of_others}
use Rattle.qe_chains.proofs.chains.Chains.unlink_document.Given as goal

abbrev pub invariant-loop-steps : goal.invariant-loop-steps
invariant-loop-steps g l = record {
  others : of_others l.doc l.self.pairs ≡ of_others l.doc l.initial.self.pairs;
  steps : l.steps + length l.self.pairs ≡ l.initial.steps + length l.initial.self.pairs;
  nodes : l.self.nodes ≡ l.initial.self.nodes;
  room : l.initial.self.room ≤ l.self.room;
}

abbrev pub decreases-loop-steps : goal.decreases-loop-steps
decreases-loop-steps g l = length l.self.pairs
