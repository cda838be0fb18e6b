use Rattle.qe_layout.specs.Refusal.{refusal_of}
use Rattle.qe_find.specs.Equal.{equal_at, IsEqualBlob}
use Rattle.qe_show.specs.Blob.{ShowsParts}
use Rattle.qe_show.specs.Payloads.{equal_line}
use Rattle.qe_show.proofs.RefusedLemmas.{refused_line}
use Rattle.qe_show.proofs.blob.shown_equal.Goals as goal

pub returns-in-Err : goal.returns-in-Err
returns-in-Err c =
    let blob = c.args.blob.now in
    refused_line (ShowsParts IsEqualBlob equal_line blob) c.malformed_line.result (refusal_of c.in-Err.refusal) (equal_at blob) c.in-Err.ensures.exact c.malformed_line.ensures
