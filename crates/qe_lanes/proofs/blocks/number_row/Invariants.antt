use Rattle.std.proofs.Common.{◌≡◌, ℕ, ◌<◌, length, slice_index}
use Rattle.std.specs.Int.{w64, to_le_bytes}
use Rattle.sha2.specs.Sha256.{word_at}
use Rattle.qe_lanes.proofs.blocks.number_row.Given as goal

abbrev pub invariant-loop-i : goal.invariant-loop-i
invariant-loop-i l =
    (length l.row ≡ 16) × ((lane : ℕ) → lane < l.i → slice_index l.row lane ≡ word_at (to_le_bytes w64 (slice_index l.numbers lane)) l.at)
