use Rattle.std.proofs.Common.{◌≡◌, ℕ, ◌*◌, ◌<◌, [], length}
use Rattle.std.specs.List.{slice_index_or}
use Rattle.sha2.specs.Sha256.{word_at}
use Rattle.qe_seal.specs.Hmac.{key_block, padded_block}
use Rattle.qe_lanes.specs.Lanes.{word_in}
use Rattle.qe_lanes.proofs.blocks.pad_block.Given as goal

abbrev pub invariant-loop-k : goal.invariant-loop-k
invariant-loop-k l =
    (length l.block ≡ 16)
    × ((lane : ℕ) → lane < 16 → (k : ℕ) → k < l.k
    → word_in l.block k lane ≡ word_at (padded_block l.pad (key_block (slice_index_or l.keys lane []))) (4 * k))
