use Rattle.std.proofs.Common.{◌≡◌, ℕ, ◌<◌, [], length, slice_index}
use Rattle.std.specs.List.{slice_index_or}
use Rattle.sha2.specs.Sha256.{word_at}
use Rattle.qe_seal.specs.Hmac.{key_block, padded_block}
use Rattle.qe_lanes.proofs.blocks.pad_row.Given as goal

abbrev pub invariant-loop-i : goal.invariant-loop-i
invariant-loop-i l =
    (length l.row ≡ 16)
    × ((lane : ℕ) → lane < l.i → slice_index l.row lane ≡ word_at (padded_block l.pad (key_block (slice_index_or l.keys lane []))) l.at)
