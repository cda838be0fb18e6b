use Rattle.std.proofs.Common.{slice_index, ◌∙◌, arith}
use Rattle.std.proofs.lemmas.List.{length-set}
use Rattle.std.specs.Int.{w64, to_le_bytes}
use Rattle.sha2.specs.Sha256.{word_at}
use Rattle.qe_lanes.proofs.RowLemmas.{filled_next}
use Rattle.qe_lanes.proofs.blocks.number_row.Goals as goal

pub loop-i-preserved : goal.loop-i-preserved
loop-i-preserved c =
    let long = c.loop-i.invariant.0 in (
      length-set c.loop-i.row c.loop-i.i c.number_word.result ∙ long,
      filled_next (λ lane. word_at (to_le_bytes w64 (slice_index c.args.numbers.now lane)) c.args.at) c.loop-i.row c.loop-i.i c.number_word.result (omega arith)
          c.loop-i.invariant.1 c.number_word.ensures,
    )
