use Rattle.qe_vectors_played.specs.Pairs.{AreUnder}
use Rattle.qe_vectors_played.proofs.scripts.print_played.Given as goal

-- engine and clients stay under the script's schema
abbrev pub invariant-loop-place : goal.invariant-loop-place
invariant-loop-place l = AreUnder l.script.schema l.pair
