-- What is read of payloads under a field has the form in which it is written, and is read again.
use Rattle.std.proofs.Common.{◌≡◌, ℕ, pos, ◌≤ℤ◌, Bool, List, refl, ap, sym, ◌∙◌, Result, Ok}
use Rattle.std.specs.Prelude.{nat_abs}
use Rattle.qe_value.specs.declared.value.Plain.{Plain}
use Rattle.qe_value.specs.declared.value.Plain.TheVariants as p
use Rattle.qe_layout.specs.Refusal.{Refusal, bind}
use Rattle.qe_layout.specs.Blobs.{read_under}
use Rattle.qe_parts.proofs.FormLemmas.{bind_ok}
use Rattle.qe_insert.specs.declared.insert.InsertPayload.{InsertPayload}
use Rattle.qe_insert.specs.Insert as i
use Rattle.qe_find.specs.declared.equal.FindEqual.{FindEqual}
use Rattle.qe_find.specs.declared.range.FindRange.{FindRange}
use Rattle.qe_find.specs.Equal as e
use Rattle.qe_find.specs.Range as r
use Rattle.qe_command_document.specs.Payloads.{blob_reads, payload_reads, factor_within, of_field, insert_reads_of, equal_reads_of, range_reads_of}
use Rattle.qe_command_fits.proofs.FormLemmas.{insert_at_fits, equal_at_fits, range_at_fits}
use Rattle.qe_command_fits.proofs.PayloadLemmas.{payload_ok, factor_ok, of_field_ok}

-- a payload that sets a field
insert_blob_again : (name : List ℕ) (x : InsertPayload) → blob_reads 11 name (p.Binary 6 (i.written_insert x)) ≡ Ok (i.written_insert x)
unfolding i.written_insert
insert_blob_again name x = refl

pub insert_under : (range : Bool) (id : List ℕ) (kind greatest : ℕ) (name : List ℕ) (value : Plain) (x : InsertPayload) → insert_reads_of range id kind greatest name value ≡ Ok x
    → i.FitsInsert x × (i.insert_at (i.written_insert x) ≡ Ok x → insert_reads_of range id kind greatest name (p.Binary 6 (i.written_insert x)) ≡ Ok x)
insert_under range id kind greatest name value x is =
    let on = of_field range id kind greatest name in
    let found = bind_ok (payload_reads 11 i.insert_at name value) on x is in
    let same : x ≡ found.0 = (of_field_ok range id kind greatest name found.0 x found.1.1).same in
    let read = payload_ok 11 i.insert_at name value found.0 found.1.0 in (
      insert_at_fits x read.0 (read.1.1 ∙ ap (λ y. Ok y) (sym same)),
      λ again.
          ap (λ blob. bind (bind blob (λ b. read_under name (i.insert_at b))) on) (insert_blob_again name x)
          ∙ ap (λ all. bind (read_under name all) on) again
          ∙ ap on same ∙ found.1.1,
    )

-- a payload that finds a value
equal_blob_again : (name : List ℕ) (x : FindEqual) → blob_reads 12 name (p.Binary 6 (e.written_equal x)) ≡ Ok (e.written_equal x)
unfolding e.written_equal
equal_blob_again name x = refl

pub equal_under : (greatest : ℕ) (name : List ℕ) (value : Plain) (x : FindEqual) → equal_reads_of greatest name value ≡ Ok x
    → (pos 0 ≤ℤ x.cm) × (e.equal_at (e.written_equal x) ≡ Ok x → equal_reads_of greatest name (p.Binary 6 (e.written_equal x)) ≡ Ok x)
equal_under greatest name value x is =
    let on : FindEqual → Result FindEqual Refusal = λ payload. factor_within greatest (nat_abs payload.cm) name payload in
    let found = bind_ok (payload_reads 12 e.equal_at name value) on x is in
    let same : x ≡ found.0 = (factor_ok greatest (nat_abs found.0.cm) name found.0 x found.1.1).0 in
    let read = payload_ok 12 e.equal_at name value found.0 found.1.0 in (
      equal_at_fits x read.0 (read.1.1 ∙ ap (λ y. Ok y) (sym same)),
      λ again.
          ap (λ blob. bind (bind blob (λ b. read_under name (e.equal_at b))) on) (equal_blob_again name x)
          ∙ ap (λ all. bind (read_under name all) on) again
          ∙ ap on same ∙ found.1.1,
    )

-- and one that finds a range
range_blob_again : (name : List ℕ) (x : FindRange) → blob_reads 13 name (p.Binary 6 (r.written_range x)) ≡ Ok (r.written_range x)
unfolding r.written_range
range_blob_again name x = refl

pub range_under : (greatest : ℕ) (name : List ℕ) (value : Plain) (x : FindRange) → range_reads_of greatest name value ≡ Ok x
    → r.FitsRange x × (r.range_at (r.written_range x) ≡ Ok x → range_reads_of greatest name (p.Binary 6 (r.written_range x)) ≡ Ok x)
range_under greatest name value x is =
    let on : FindRange → Result FindRange Refusal = λ payload. factor_within greatest (nat_abs payload.cm) name payload in
    let found = bind_ok (payload_reads 13 r.range_at name value) on x is in
    let same : x ≡ found.0 = (factor_ok greatest (nat_abs found.0.cm) name found.0 x found.1.1).0 in
    let read = payload_ok 13 r.range_at name value found.0 found.1.0 in (
      range_at_fits x read.0 (read.1.1 ∙ ap (λ y. Ok y) (sym same)),
      λ again.
          ap (λ blob. bind (bind blob (λ b. read_under name (r.range_at b))) on) (range_blob_again name x)
          ∙ ap (λ all. bind (read_under name all) on) again
          ∙ ap on same ∙ found.1.1,
    )
