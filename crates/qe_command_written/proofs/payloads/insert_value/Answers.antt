use Rattle.std.proofs.Common.{sym, ap, ◌∙◌}
use Rattle.qe_insert.specs.Insert.{insert_at, insert_elements, written_insert}
use Rattle.qe_insert.proofs.LawLemmas.{insert_blobs}
use Rattle.qe_command_written.proofs.DueLemmas.{written_bytes, value_due}
use Rattle.qe_command_written.proofs.payloads.insert_value.Goals as goal

pub returns-clause-exact : goal.returns-clause-exact
returns-clause-exact c =
    let x = c.args.payload.now in
    value_due (insert_elements x) (written_insert x) c.in_ok-bytes.bytes c.in_ok-bytes.ensures.exact

pub returns-clause-again : goal.returns-clause-again
returns-clause-again c =
    let x = c.args.payload.now in
    let same = written_bytes (insert_elements x) (written_insert x) c.in_ok-bytes.bytes c.in_ok-bytes.ensures.exact in
    ap insert_at (sym same) ∙ insert_blobs.laid_is_read x c.in_ok-bytes.bytes c.in_ok-bytes.ensures.again
