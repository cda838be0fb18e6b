use Rattle.std.proofs.Common.{◌≡◌, ℕ, ◌<◌, [], length}
use Rattle.std.specs.List.{slice_index_or}
use Rattle.sha2.specs.Sha256.{digest_bytes}
use Rattle.qe_lanes.specs.Lanes.{state_in}
use Rattle.qe_lanes.proofs.keys.digests.Given as goal

abbrev pub invariant-loop-i : goal.invariant-loop-i
invariant-loop-i l = (length l.all ≡ 16) × ((lane : ℕ) → lane < l.i → slice_index_or l.all lane [] ≡ digest_bytes (state_in l.state lane) 8)
