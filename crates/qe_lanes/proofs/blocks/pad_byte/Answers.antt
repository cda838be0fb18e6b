use Rattle.qe_lanes.proofs.BlockLemmas.{padded_front, padded_rest}
use Rattle.qe_lanes.proofs.blocks.pad_byte.Goals as goal

pub returns-then-at-lt32 : goal.returns-then-at-lt32
returns-then-at-lt32 c = padded_front c.args.key.now c.args.pad c.args.at c.told-key c.if-at-lt32.true

pub returns-else-at-lt32 : goal.returns-else-at-lt32
returns-else-at-lt32 c = padded_rest c.args.key.now c.args.pad c.args.at c.told-key c.if-at-lt32.false c.requires
