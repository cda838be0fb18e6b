use Rattle.qe_lanes.proofs.BlockLemmas.{all_lanes, digest_block_words}
use Rattle.qe_lanes.proofs.blocks.digest_block.Goals as goal

pub returns : goal.returns
returns c = λ lane before block lt is.
    let zero = all_lanes 0 lane lt in
    digest_block_words _ lane before block lt is (all_lanes 0x80000000 lane lt) zero zero zero zero zero zero (all_lanes 768 lane lt)
