use Rattle.qe_show.proofs.CarriedLemmas.{insert_writable}
use Rattle.qe_layout.specs.Refusal.{refusal_of}
use Rattle.qe_insert.specs.Insert.{insert_at, IsInsertBlob}
use Rattle.qe_show.specs.Blob.{ShowsParts}
use Rattle.qe_show.specs.Payloads.{insert_line}
use Rattle.qe_show.proofs.RefusedLemmas.{refused_line}
use Rattle.qe_show.proofs.blob.shown_insert.Goals as goal

pub insert_line-requires : goal.insert_line-requires
insert_line-requires c = insert_writable c.in-Ok.payload c.args.blob.now c.in-Ok.ensures.found

pub returns-in-Err : goal.returns-in-Err
returns-in-Err c =
    let blob = c.args.blob.now in
    refused_line (ShowsParts IsInsertBlob insert_line blob) c.malformed_line.result (refusal_of c.in-Err.refusal) (insert_at blob) c.in-Err.ensures.exact c.malformed_line.ensures
