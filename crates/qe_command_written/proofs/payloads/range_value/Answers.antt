use Rattle.std.proofs.Common.{sym, ap, ◌∙◌}
use Rattle.qe_find.specs.Range.{range_at, range_elements, written_range}
use Rattle.qe_find.proofs.LawLemmas.{range_blobs}
use Rattle.qe_command_written.proofs.DueLemmas.{written_bytes, value_due}
use Rattle.qe_command_written.proofs.payloads.range_value.Goals as goal

pub returns-clause-exact : goal.returns-clause-exact
returns-clause-exact c =
    let x = c.args.payload.now in
    value_due (range_elements x) (written_range x) c.in_ok-bytes.bytes c.in_ok-bytes.ensures.exact

pub returns-clause-again : goal.returns-clause-again
returns-clause-again c =
    let x = c.args.payload.now in
    let same = written_bytes (range_elements x) (written_range x) c.in_ok-bytes.bytes c.in_ok-bytes.ensures.exact in
    ap range_at (sym same) ∙ range_blobs.laid_is_read x c.in_ok-bytes.bytes c.in_ok-bytes.ensures.again
