use Rattle.qe_show.proofs.CarriedLemmas.{range_writable}
use Rattle.qe_layout.specs.Refusal.{refusal_of}
use Rattle.qe_find.specs.Range.{range_at, IsRangeBlob}
use Rattle.qe_show.specs.Blob.{ShowsParts}
use Rattle.qe_show.specs.Payloads.{range_line}
use Rattle.qe_show.proofs.RefusedLemmas.{refused_line}
use Rattle.qe_show.proofs.blob.shown_range.Goals as goal

pub range_line-requires : goal.range_line-requires
range_line-requires c = range_writable c.in-Ok.payload c.args.blob.now c.in-Ok.ensures.found

pub returns-in-Err : goal.returns-in-Err
returns-in-Err c =
    let blob = c.args.blob.now in
    refused_line (ShowsParts IsRangeBlob range_line blob) c.malformed_line.result (refusal_of c.in-Err.refusal) (range_at blob) c.in-Err.ensures.exact c.malformed_line.ensures
