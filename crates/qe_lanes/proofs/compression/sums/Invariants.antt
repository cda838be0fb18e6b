use Rattle.std.proofs.Common.{◌≡◌, ℕ, ◌<◌, slice_index, length}
use Rattle.sha2.specs.Sha256.{add32}
use Rattle.qe_lanes.proofs.compression.sums.Given as goal

abbrev pub invariant-loop-i : goal.invariant-loop-i
invariant-loop-i l =
    (length l.row ≡ 16) × ((lane : ℕ) → lane < l.i → slice_index l.row lane ≡ add32 (slice_index l.x lane) (slice_index l.y lane))
