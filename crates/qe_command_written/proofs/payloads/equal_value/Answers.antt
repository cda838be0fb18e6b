use Rattle.std.proofs.Common.{ap, refl, ◌∙◌, Ok}
use Rattle.qe_find.specs.Equal.{equal_at, written_equal}
use Rattle.qe_find.proofs.LawLemmas.{equal_blobs}
use Rattle.qe_command_written.proofs.DueLemmas.{ok_same}
use Rattle.qe_command_written.proofs.payloads.equal_value.Goals as goal

pub returns-clause-again : goal.returns-clause-again
returns-clause-again c =
    let x = c.args.payload.now in
    let same = ok_same (Ok (written_equal x)) (written_equal x) c.in_ok-bytes.bytes refl c.in_ok-bytes.ensures.exact in
    ap equal_at same ∙ equal_blobs.laid_is_read x c.in_ok-bytes.bytes c.in_ok-bytes.ensures.again
