-- A schema's fields are apart from one another, and from the id.
use Rattle.std.proofs.Common.{◌≡◌, ℕ, suc, ◌<◌, List, [], ◌∷◌, length, refl, sym, subst, ◌∙◌, arith, true, false}
use Rattle.std.specs.Prelude.{bytes_eq, slice_index_or, All}
use Rattle.std.specs.List.{AllPairs}
use Rattle.std.proofs.lemmas.Bool.{or_from, false_from_ne_true, false≢true}
use Rattle.std.proofs.lemmas.Slice.Eq.{bytes_eq-Decides}
use Rattle.qe_document.specs.Names.{Distinct, is_named}
use Rattle.qe_field.specs.declared.field.Field.{Field}
use Rattle.qe_field.specs.Names.{is_path}
use Rattle.qe_layout.proofs.FillLemmas.{bytes_eq-sym}
use Rattle.qe_field.specs.Schema.{IsSchema, IsField, Differ}
use Rattle.qe_command_document.specs.CellDocuments.{id_name, field_rows, doc_rows}

unnamed : (name : List ℕ) (fields : List Field) → ((k : ℕ) (d : Field) → k < length fields → bytes_eq name (slice_index_or fields k d).path ≡ false)
    → is_named name (field_rows fields) ≡ false
unnamed name [] none = refl
unnamed name (field ∷ fields) none =
    or_from (bytes_eq name field.path) (is_named name (field_rows fields)) (none 0 field (omega arith)) (unnamed name fields (λ k d less. none (suc k) d (omega arith)))

fields_apart : (fields : List Field) → AllPairs Differ fields → Distinct (field_rows fields)
fields_apart [] apart = tt
fields_apart (field ∷ fields) apart = (
  unnamed field.path fields (λ k d less. bytes_eq-sym field.path (slice_index_or fields k d).path ∙ (apart 0 (suc k) d (omega arith) (omega arith)).paths),
  fields_apart fields (λ i j d less fits. apart (suc i) (suc j) d (omega arith) (omega arith)),
)

no_id : (fields : List Field) → All IsField fields → is_named id_name (field_rows fields) ≡ false
no_id fields each = unnamed id_name fields (λ k d less.
    let path = (slice_index_or fields k d).path in
    false_from_ne_true (bytes_eq id_name path) (λ same.
    let is : id_name ≡ path = (bytes_eq-Decides id_name path).0 same in
    false≢true (subst (λ p. is_path p ≡ true) (sym is) (each k d less).path)))

pub rows_apart : (fields : List Field) → IsSchema fields → Distinct (doc_rows fields)
rows_apart fields is = (no_id fields is.each, fields_apart fields is.apart)
