use Rattle.qe_lanes.proofs.BlockLemmas.{all_lanes, block_of_words}
use Rattle.qe_lanes.proofs.blocks.pair_block.Goals as goal

pub returns : goal.returns
returns c = λ lane lt.
    let zero = all_lanes 0 lane lt in
    block_of_words _ lane _ (c.number_row.ensures lane lt) (c.number_row-2.ensures lane lt) (c.number_row-3.ensures lane lt) (c.number_row-4.ensures lane lt)
    (all_lanes 0x80000000 lane lt) zero zero zero zero zero zero zero zero zero zero (all_lanes 640 lane lt)
