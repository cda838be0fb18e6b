-- What is sent of a value and of a term is read again under its field.
use Rattle.std.proofs.Common.{◌≡◌, ℕ, ℤ, pos, ◌≤◌, Bool, true, false, List, [], ◌++◌, length, take, None, Some, Ok, Result, refl, ap, ◌∙◌, arith}
use Rattle.std.specs.Prelude.{bytes_eq, nat_abs, nat_lt}
use Rattle.std.specs.Ordering.{int_eq}
use Rattle.std.proofs.lemmas.Bool.{cond-false, le-ltb}
use Rattle.std.proofs.lemmas.Bool.Decides.{Decides-int_eq}
use Rattle.std.proofs.lemmas.Int.{ints}
use Rattle.std.proofs.lemmas.List.{take_at}
use Rattle.std.proofs.lemmas.Slice.Eq.{bytes_eq-Decides}
use Rattle.qe_value.specs.declared.value.Plain.{Plain}
use Rattle.qe_value.specs.declared.value.Plain.TheVariants as v
use Rattle.qe_value.specs.Measures.{value_length}
use Rattle.qe_value.specs.Spelling.{document_bytes}
use Rattle.qe_value.specs.Views.{plain}
use Rattle.qe_encode.proofs.SizeLemmas.{value_length-Binary}
use Rattle.qe_edges.specs.Rules.{Rules}
use Rattle.qe_field.specs.declared.field.FieldKind.{FieldKind}
use Rattle.qe_field.specs.declared.field.FieldKind.TheVariants as k
use Rattle.qe_field.specs.Lookup.{greatest_of}
use Rattle.qe_field.specs.Values.{is_id, number_in}
use Rattle.qe_layout.specs.declared.malformed.Kind.TheVariants.{ContentionAbove}
use Rattle.qe_layout.specs.Blobs.{read_under}
use Rattle.qe_layout.specs.Refusal.{Refusal, bind, map_read, wrong}
use Rattle.qe_insert.specs.declared.insert.InsertPayload.{InsertPayload}
use Rattle.qe_insert.specs.Insert as i
use Rattle.qe_find.specs.declared.equal.FindEqual.{FindEqual}
use Rattle.qe_find.specs.declared.range.FindRange.{FindRange}
use Rattle.qe_find.specs.Equal as e
use Rattle.qe_find.specs.Range as r
use Rattle.qe_command.specs.declared.cells.SentCell.TheVariants as sent
use Rattle.qe_command_document.specs.Payloads.{blob_reads, equal_reads_of, factor_within, has_key, has_kind, insert_reads_of, of_field, range_reads_of}
use Rattle.qe_command_document.specs.CellDocuments.{id_reads, sent_reads}
use Rattle.qe_command_document.specs.Values.{value_of}
use Rattle.qe_command_document.proofs.ValueLemmas.{value_again}
use Rattle.qe_command_written.specs.Written.{cell_value}
use Rattle.qe_command_written.proofs.CellLemmas.{tree_again}
use Rattle.qe_labels.specs.Under.{Under, key_of}
use Rattle.qe_schema.specs.Resolved.{IsKeptBy}
use Rattle.qe_encodes.specs.Encodes.{AreDrawn}
use Rattle.qe_encodes.specs.Fields.{IsKeyed}
use Rattle.qe_encodes.specs.Items.{bytes_of, value_edges}
use Rattle.qe_encodes.specs.Payloads.{Drawn, payload_of, seal_of, sent_edges, sent_value}
use Rattle.qe_held.specs.Held.{IsHeldCell, IsHeldEqual, IsHeldRange}
use Rattle.qe_sent_fits.proofs.CountedLemmas.{many_edges, user_long}
use Rattle.qe_sent_fits.proofs.EdgeCounts.{value_edges_some}
use Rattle.qe_held.proofs.PayloadSound.{equal_again, insert_again, range_again}

-- an id
pub id_read : (name : List ℕ) (id : Plain) → is_id id ≡ true → id_reads name (plain (value_of id)) ≡ Ok (value_of id)
id_read name id is = ap (id_reads name) (tree_again id) ∙ rw is refl

factor_passes : {P : Type 0} (greatest factor : ℕ) (name : List ℕ) (payload : P) → factor ≤ greatest → factor_within greatest factor name payload ≡ Ok payload
factor_passes greatest factor name payload few =
    cond-false (nat_lt greatest factor) (wrong name (ContentionAbove factor greatest)) (Ok payload) (le-ltb greatest factor few)

same_number : (z : ℤ) → int_eq z z ≡ true
same_number z = (Decides-int_eq z z).1 refl

same_bytes : (bytes : List ℕ) → bytes_eq bytes bytes ≡ true
same_bytes bytes = (bytes_eq-Decides bytes bytes).1 refl

-- ---- a payload that sets a field
insert_blob : (name : List ℕ) (x : InsertPayload) → blob_reads 11 name (v.Binary 6 (i.written_insert x)) ≡ Ok (i.written_insert x)
unfolding i.written_insert
insert_blob name x = refl

of_field_passes : (range : Bool) (id : List ℕ) (kind greatest : ℕ) (name : List ℕ) (x : InsertPayload) → has_kind range kind x ≡ true → has_key id x ≡ true
    → nat_abs x.k ≤ greatest → of_field range id kind greatest name x ≡ Ok x
of_field_passes range id kind greatest name x same own few = rw (same, own) (factor_passes greatest (nat_abs x.k) name x few)

insert_read : (range : Bool) (id : List ℕ) (kind greatest : ℕ) (name : List ℕ) (x : InsertPayload) → has_kind range kind x ≡ true → has_key id x ≡ true
    → nat_abs x.k ≤ greatest → i.insert_at (i.written_insert x) ≡ Ok x → insert_reads_of range id kind greatest name (v.Binary 6 (i.written_insert x)) ≡ Ok x
insert_read range id kind greatest name x same own few again =
    let on = of_field range id kind greatest name in
    ap (λ blob. bind (bind blob (λ b. read_under name (i.insert_at b))) on) (insert_blob name x)
    ∙ ap (λ all. bind (read_under name all) on) again
    ∙ of_field_passes range id kind greatest name x same own few

-- the document of a payload that isn't too long isn't either
insert_within : (x : InsertPayload) → value_length (v.Binary 6 (i.written_insert x)) ≤ 16777216 → length (document_bytes (i.insert_elements x)) ≤ 16777216
unfolding i.written_insert
insert_within x short = let is = value_length-Binary 6 (i.written_insert x) in omega (arith, short, is)

-- ---- what is sent of a value
module _ (u : Under) (leaves : Bool) where
  own_key : (field : ℕ) (id iv : List ℕ) (value : Plain) → length id ≡ 16 → bytes_eq (take 16 (id ++ seal_of (key_of u field) id iv (bytes_of value))) id ≡ true
  own_key field id iv value long =
      ap (λ front. bytes_eq front id) (take_at id (seal_of (key_of u field) id iv (bytes_of value)) 16 long) ∙ same_bytes id

  pub value_edges_few : (field : ℕ) (drawn : Drawn) (id : List ℕ) (kind contention greatest : ℕ) (domain : Rules) (value : Plain) → IsKeptBy value (k.Range id kind contention greatest domain)
      → i.FewEdges (Some (sent_edges u leaves field domain drawn (value_edges domain value) 0))
  value_edges_few field drawn id kind contention greatest domain value kept =
      let some = value_edges_some domain domain.min domain.max (number_in value) kept.1 in
      let many = many_edges u leaves [] field domain drawn (value_edges domain value) 0 in
      (omega (arith, some.0, many), omega (arith, some.1, many))

  pub value_read : (field most : ℕ) (drawn : Drawn) → AreDrawn most drawn → (kind : FieldKind) → most ≤ greatest_of kind → IsKeyed kind → (value : Plain) → IsKeptBy value kind
      → IsHeldCell (sent_value u leaves field drawn kind value) → value_length (cell_value (sent_value u leaves field drawn kind value)) ≤ 16777216
      → (name : List ℕ) → sent_reads kind name (cell_value (sent_value u leaves field drawn kind value)) ≡ Ok (sent_value u leaves field drawn kind value)
  value_read field most drawn are k.Plain few keyed value kept held short name = ap (λ it. Ok (sent.Plain it)) (value_again (value_of value))
  value_read field most drawn are (k.Equality id kind contention greatest) few keyed value kept held short name =
      let x : InsertPayload = payload_of u field id kind drawn (bytes_of value) None in
      let long = user_long u leaves [] field id drawn.value_iv value keyed.long are.value_iv.long in
      let again : i.insert_at (i.written_insert x) ≡ Ok x = insert_again x held refl tt (omega (arith, long)) (omega (arith, ints)) (insert_within x short) in
      let drawn_few = are.factor in
      ap (map_read (λ payload. sent.Payload payload))
      (insert_read false id kind greatest name x (rw (same_number (pos kind)) refl) (rw (same_bytes id, own_key field id drawn.value_iv value keyed.long) refl)
      (omega (arith, drawn_few, few)) again)
  value_read field most drawn are (k.Range id kind contention greatest domain) few keyed value kept held short name =
      let x : InsertPayload = payload_of u field id kind drawn (bytes_of value) (Some (sent_edges u leaves field domain drawn (value_edges domain value) 0)) in
      let long = user_long u leaves [] field id drawn.value_iv value keyed.0.long are.value_iv.long in
      let edges = value_edges_few field drawn id kind contention greatest domain value kept in
      let again : i.insert_at (i.written_insert x) ≡ Ok x = insert_again x held refl edges (omega (arith, long)) (omega (arith, ints)) (insert_within x short) in
      let drawn_few = are.factor in
      ap (map_read (λ payload. sent.Payload payload))
      (insert_read true id kind greatest name x (rw (same_number (pos kind)) refl) (rw (same_bytes id, own_key field id drawn.value_iv value keyed.0.long) refl)
      (omega (arith, drawn_few, few)) again)

-- ---- a payload that finds a value
equal_blob : (name : List ℕ) (x : FindEqual) → blob_reads 12 name (v.Binary 6 (e.written_equal x)) ≡ Ok (e.written_equal x)
unfolding e.written_equal
equal_blob name x = refl

pub equal_read : (greatest : ℕ) (name : List ℕ) (x : FindEqual) → IsHeldEqual x → (factor : ℕ) → x.cm ≡ pos factor → factor ≤ greatest
    → equal_reads_of greatest name (v.Binary 6 (e.written_equal x)) ≡ Ok x
equal_read greatest name x held factor is few =
    let on : FindEqual → Result FindEqual Refusal = λ payload. factor_within greatest (nat_abs payload.cm) name payload in
    let same = ap nat_abs is in
    ap (λ blob. bind (bind blob (λ b. read_under name (e.equal_at b))) on) (equal_blob name x)
    ∙ ap (λ all. bind (read_under name all) on) (equal_again x held (omega (arith, ints, is)))
    ∙ factor_passes greatest (nat_abs x.cm) name x (omega (arith, same, few))

-- ---- and one that finds an interval
range_blob : (name : List ℕ) (x : FindRange) → blob_reads 13 name (v.Binary 6 (r.written_range x)) ≡ Ok (r.written_range x)
unfolding r.written_range
range_blob name x = refl

range_within : (x : FindRange) → value_length (v.Binary 6 (r.written_range x)) ≤ 16777216 → length (document_bytes (r.range_elements x)) ≤ 16777216
unfolding r.written_range
range_within x short = let is = value_length-Binary 6 (r.written_range x) in omega (arith, short, is)

pub range_read : (greatest : ℕ) (name : List ℕ) (x : FindRange) → IsHeldRange x → x.extra ≡ [] → length x.g ≤ 4096 → (factor : ℕ) → x.cm ≡ pos factor → factor ≤ greatest
    → value_length (v.Binary 6 (r.written_range x)) ≤ 16777216 → range_reads_of greatest name (v.Binary 6 (r.written_range x)) ≡ Ok x
range_read greatest name x held none many factor is few short =
    let on : FindRange → Result FindRange Refusal = λ payload. factor_within greatest (nat_abs payload.cm) name payload in
    let same = ap nat_abs is in
    ap (λ blob. bind (bind blob (λ b. read_under name (r.range_at b))) on) (range_blob name x)
    ∙ ap (λ all. bind (read_under name all) on) (range_again x held none many (omega (arith, ints, is)) (range_within x short))
    ∙ factor_passes greatest (nat_abs x.cm) name x (omega (arith, same, few))
