use Rattle.std.proofs.Common.{◌≤◌, length, min, arith}
use Rattle.qe_sent_words.proofs.LoopLemmas.{cells_end}
use Rattle.qe_sent_words.proofs.words.cells_words.Goals as goal

pub returns : goal.returns
returns c =
    let past : min (length c.args.cells.now) (length c.args.sents.now) ≤ c.loop-i.i = omega arith in
    cells_end c.args.keyring.now.schema c.args.cells.now c.args.sents.now c.loop-i.i c.loop-i.words _ past c.loop-i.invariant
