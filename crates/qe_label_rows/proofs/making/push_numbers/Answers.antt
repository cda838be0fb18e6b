use Rattle.std.proofs.Common.{◌≤◌, ◌∙◌, arith}
use Rattle.qe_label_rows.proofs.RowLemmas.{blanks_next}
use Rattle.qe_label_rows.proofs.making.push_numbers.Goals as goal

pub loop-number-preserved : goal.loop-number-preserved
loop-number-preserved c =
    let low : c.args.first ≤ c.loop-number.number = omega arith in (
      λ key. c.in_ok-push.ensures.items
          ∙ blanks_next c.args.rows.now.items c.loop-number.rows.items c.args.kind c.args.word key c.args.first c.loop-number.number low (c.loop-number.invariant.0 key),
      omega arith,
    )
