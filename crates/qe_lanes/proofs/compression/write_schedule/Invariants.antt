use Rattle.std.proofs.Common.{◌≡◌, ℕ, ◌<◌, List, slice_index, length}
use Rattle.sha2.specs.Sha256.{schedule}
use Rattle.qe_lanes.specs.Lanes.{word_in, HasBlock}
use Rattle.qe_lanes.proofs.compression.write_schedule.Given as goal

abbrev pub invariant-loop-t : goal.invariant-loop-t
invariant-loop-t l =
    (length l.w ≡ 64)
    × ((lane : ℕ) (bytes : List ℕ) → lane < 16 → HasBlock l.block lane bytes → (k : ℕ) → k < l.t → word_in l.w k lane ≡ slice_index (schedule bytes 48) k)
