use Rattle.std.proofs.Common.{◌*◌, ◌-◌, ◌≤◌, length, arith}
use Rattle.qe_label_rows.specs.Batches.{identified}
use Rattle.qe_label_rows.proofs.RowLemmas.{identified_more, words_part, words_put}
use Rattle.qe_label_rows.proofs.batch.identify.Goals as goal

pub identify_first-requires : goal.identify_first-requires
identify_first-requires c =
    words_part (length c.args.keys.now) (16 * c.loop-i.i) (length c.loop-i.rows - 16 * c.loop-i.i) c.loop-i.rows c.loop-i.invariant.1

pub loop-i-preserved : goal.loop-i-preserved
loop-i-preserved c =
    let low : 16 * c.loop-i.i ≤ length c.args.rows.now = omega arith in (
      λ words are. identified_more (identified c.args.kind words) c.args.rows.now c.loop-i.rows c.identify_first.new.rows c.loop-i.i low c.loop-i.auto.rows
          (c.loop-i.invariant.0 words are) (c.identify_first.ensures.made words are),
      words_put (length c.args.keys.now) (16 * c.loop-i.i) c.loop-i.rows c.identify_first.new.rows (omega arith) c.loop-i.invariant.1 c.identify_first.ensures.words,
    )
