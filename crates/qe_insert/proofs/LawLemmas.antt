-- Insert payloads, both ways.
use Rattle.std.proofs.Common.{◌≡◌, ℕ, ◌<◌, List, length, take, ap, ◌∙◌, arith, Ok}
use Rattle.qe_base.specs.Bytes.{AreBytes}
use Rattle.qe_layout.specs.Refusal.{bind}
use Rattle.qe_layout.specs.Blobs.{cut_refusal}
use Rattle.qe_layout.proofs.BlobLemmas.{blob_opened, opened_then, IsBlob-distinct}
use Rattle.qe_layout.proofs.CutLemmas.{opened_cut, read_cut}
use Rattle.qe_layout.proofs.LaidLemmas.{built_laid, laid_built, reads_known}
use Rattle.qe_insert.specs.declared.insert.InsertPayload.{InsertPayload}
use Rattle.qe_insert.specs.Insert.{insert_table, insert_rows, insert_reads, insert_build, insert_of, insert_at, IsInsertBlob, insert_elements, written_insert}
use Rattle.qe_encode.proofs.SizeLemmas.{document_lengths}
use Rattle.qe_parts.proofs.LawLemmas.{laws_from}
use Rattle.qe_parts.specs.Laws.{PayloadLaws}
use Rattle.qe_insert.specs.Laws.{InsertLaws}
use Rattle.qe_insert.proofs.FormLemmas.{insert_fits}
use Rattle.qe_insert.proofs.NamedLemmas.{insert_has}

insert_read : (payload : InsertPayload) (blob : List ℕ) → IsInsertBlob payload blob → insert_at blob ≡ Ok payload
unfolding insert_at insert_of
insert_read payload blob is =
    ap (λ read. bind read insert_of) (blob_opened 11 is.elements blob is.blob_is) ∙ laid_built insert_reads insert_rows insert_build payload is.elements is.payload_is

insert_laid : (payload : InsertPayload) (blob : List ℕ) → AreBytes blob → insert_at blob ≡ Ok payload → IsInsertBlob payload blob
unfolding insert_at insert_of insert_reads
insert_laid payload blob bytes read =
    let found = opened_then 11 insert_of payload blob bytes read in
    record {
      elements = found.0;
      blob_is = found.1.0;
      payload_is = built_laid insert_reads insert_rows insert_build payload found.0 (IsBlob-distinct 11 found.0 blob found.1.0) (reads_known insert_table) found.1.1;
    }

insert_cut : (payload : InsertPayload) (blob : List ℕ) (count : ℕ) → IsInsertBlob payload blob → count < length blob → insert_at (take count blob) ≡ cut_refusal count
unfolding insert_at
insert_cut payload blob count is few = ap (λ read. bind read insert_of) (opened_cut 11 is.elements blob count is.blob_is few) ∙ read_cut insert_of count

pub insert_blobs : PayloadLaws insert_at IsInsertBlob
insert_blobs = laws_from insert_at IsInsertBlob insert_read insert_laid insert_cut

pub insert_laws : InsertLaws
unfolding written_insert
insert_laws =
    record {
      blobs = insert_blobs;
      has = insert_has;
      fits = λ payload blob is. insert_fits payload is.elements is.payload_is;
      long = λ payload. omega (arith, document_lengths (insert_elements payload));
    }
