-- Find payloads, both ways.
use Rattle.std.proofs.Common.{◌≡◌, ℕ, ◌<◌, List, length, take, ap, ◌∙◌, arith, Ok}
use Rattle.qe_base.specs.Bytes.{AreBytes}
use Rattle.qe_layout.specs.Refusal.{bind}
use Rattle.qe_layout.specs.Blobs.{cut_refusal}
use Rattle.qe_layout.proofs.BlobLemmas.{blob_opened, opened_then, IsBlob-distinct}
use Rattle.qe_layout.proofs.CutLemmas.{opened_cut, read_cut}
use Rattle.qe_layout.proofs.LaidLemmas.{built_laid, laid_built, reads_known}
use Rattle.qe_find.specs.declared.equal.FindEqual.{FindEqual}
use Rattle.qe_find.specs.declared.range.FindRange.{FindRange}
use Rattle.qe_find.specs.Equal.{equal_table, equal_rows, equal_reads, equal_build, equal_of, equal_at, IsEqualBlob}
use Rattle.qe_find.specs.Range.{range_table, range_rows, range_reads, range_build, range_of, range_at, IsRangeBlob, range_elements, written_range}
use Rattle.qe_encode.proofs.SizeLemmas.{document_lengths}
use Rattle.qe_parts.proofs.LawLemmas.{laws_from}
use Rattle.qe_parts.specs.Laws.{PayloadLaws}
use Rattle.qe_find.specs.Laws.{EqualLaws, RangeLaws}
use Rattle.qe_find.proofs.FitLemmas.{written_equal_length}
use Rattle.qe_find.proofs.FormLemmas.{equal_number, range_fits}
use Rattle.qe_find.proofs.NamedLemmas.{equal_has, range_has}

equal_read : (payload : FindEqual) (blob : List ℕ) → IsEqualBlob payload blob → equal_at blob ≡ Ok payload
unfolding equal_at equal_of
equal_read payload blob is =
    ap (λ read. bind read equal_of) (blob_opened 12 is.elements blob is.blob_is) ∙ laid_built equal_reads equal_rows equal_build payload is.elements is.payload_is

equal_laid : (payload : FindEqual) (blob : List ℕ) → AreBytes blob → equal_at blob ≡ Ok payload → IsEqualBlob payload blob
unfolding equal_at equal_of equal_reads
equal_laid payload blob bytes read =
    let found = opened_then 12 equal_of payload blob bytes read in
    record {
      elements = found.0;
      blob_is = found.1.0;
      payload_is = built_laid equal_reads equal_rows equal_build payload found.0 (IsBlob-distinct 12 found.0 blob found.1.0) (reads_known equal_table) found.1.1;
    }

range_read : (payload : FindRange) (blob : List ℕ) → IsRangeBlob payload blob → range_at blob ≡ Ok payload
unfolding range_at range_of
range_read payload blob is =
    ap (λ read. bind read range_of) (blob_opened 13 is.elements blob is.blob_is) ∙ laid_built range_reads range_rows range_build payload is.elements is.payload_is

range_laid : (payload : FindRange) (blob : List ℕ) → AreBytes blob → range_at blob ≡ Ok payload → IsRangeBlob payload blob
unfolding range_at range_of range_reads
range_laid payload blob bytes read =
    let found = opened_then 13 range_of payload blob bytes read in
    record {
      elements = found.0;
      blob_is = found.1.0;
      payload_is = built_laid range_reads range_rows range_build payload found.0 (IsBlob-distinct 13 found.0 blob found.1.0) (reads_known range_table) found.1.1;
    }

equal_cut : (payload : FindEqual) (blob : List ℕ) (count : ℕ) → IsEqualBlob payload blob → count < length blob → equal_at (take count blob) ≡ cut_refusal count
unfolding equal_at
equal_cut payload blob count is few = ap (λ read. bind read equal_of) (opened_cut 12 is.elements blob count is.blob_is few) ∙ read_cut equal_of count

pub equal_blobs : PayloadLaws equal_at IsEqualBlob
equal_blobs = laws_from equal_at IsEqualBlob equal_read equal_laid equal_cut

range_cut : (payload : FindRange) (blob : List ℕ) (count : ℕ) → IsRangeBlob payload blob → count < length blob → range_at (take count blob) ≡ cut_refusal count
unfolding range_at
range_cut payload blob count is few = ap (λ read. bind read range_of) (opened_cut 13 is.elements blob count is.blob_is few) ∙ read_cut range_of count

pub range_blobs : PayloadLaws range_at IsRangeBlob
range_blobs = laws_from range_at IsRangeBlob range_read range_laid range_cut

pub equal_laws : EqualLaws
equal_laws =
    record { blobs = equal_blobs; has = equal_has; fits = λ payload blob is. equal_number payload is.elements is.payload_is; long = written_equal_length }

pub range_laws : RangeLaws
unfolding written_range
range_laws =
    record {
      blobs = range_blobs;
      has = range_has;
      fits = λ payload blob is. range_fits payload is.elements is.payload_is;
      long = λ payload. omega (arith, document_lengths (range_elements payload));
    }
