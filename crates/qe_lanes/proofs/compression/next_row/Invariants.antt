use Rattle.std.proofs.Common.{◌≡◌, ℕ, ◌-◌, ◌<◌, slice_index, length}
use Rattle.sha2.specs.Sha256.{add32, small_sigma0, small_sigma1}
use Rattle.qe_lanes.specs.Lanes.{word_in}
use Rattle.qe_lanes.proofs.compression.next_row.Given as goal

abbrev pub invariant-loop-i : goal.invariant-loop-i
invariant-loop-i l =
    (length l.row ≡ 16)
    × ((lane : ℕ) → lane < l.i → slice_index l.row lane ≡ add32 (add32 (add32 (small_sigma1 (word_in l.w (l.t - 2) lane)) (word_in l.w (l.t - 7) lane))
    (small_sigma0 (word_in l.w (l.t - 15) lane))) (word_in l.w (l.t - 16) lane))
