-- The server tells ids apart as a user does.
use Rattle.std.proofs.Common.{◌≡◌, true, sym, ap, ◌∙◌, subst}
use Rattle.qe_value.specs.declared.value.Plain.{Plain}
use Rattle.qe_value.specs.declared.value.Value.{Value}
use Rattle.qe_value.specs.Views.{plain}
use Rattle.qe_field.specs.Values.{is_id}
use Rattle.qe_plain.specs.Collection.{same_value}
use Rattle.qe_plain.specs.Laws.{IsWritable}
use Rattle.qe_command_document.specs.Values.{value_of}
use Rattle.qe_command_document.proofs.ValueLemmas.{value_again}
use Rattle.qe_command_written.proofs.CellLemmas.{tree_again}
use Rattle.qe_command_fits.specs.OfSchema.{IsIdValue}
use Rattle.qe_command_fits.proofs.IdLemmas.{id_value}
use Rattle.qe_protocol.specs.Filters.{same_id}
use Rattle.qe_protocol.proofs.IdLemmas.{ids_agree}
use Rattle.qe_encodes.specs.Meant.{IsSpelled}

-- a stored id and one that is sent are the same exactly where the plain ones are
pub ids_same : (x : Value) (document_id id : Plain) → document_id ≡ plain x → is_id document_id ≡ true → IsSpelled document_id → is_id id ≡ true → IsSpelled id
    → same_id x (value_of id) ≡ same_value document_id id
ids_same x document_id id is id_kind spelled other_kind other =
    let x_is : IsIdValue x = subst IsIdValue (ap value_of is ∙ value_again x) (id_value document_id id_kind) in
    (ids_agree x (value_of id) x_is (id_value id other_kind)).value
    (subst IsWritable is spelled.writable) (subst IsWritable (sym (tree_again id)) other.writable)
    ∙ (λ i. same_value (sym is i) (tree_again id i))
