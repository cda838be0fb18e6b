-- A command that fits a schema is made of what the schema has.
use Rattle.std.proofs.Common.{◌≡◌, ℕ, ◌≤◌, true, List, sym, ap, subst, Ok}
use Rattle.std.specs.Prelude.{codes}
use Rattle.qe_document.specs.Names.{Distinct, value_named}
use Rattle.qe_document.specs.Spelling.{IsDocument}
use Rattle.qe_field.specs.declared.field.Field.{Field}
use Rattle.qe_field.specs.Lookup.{is_encrypted}
use Rattle.qe_field.specs.Schema.{IsSchema}
use Rattle.qe_layout.specs.declared.malformed.Kind.TheVariants.{Missing}
use Rattle.qe_layout.specs.Layouts.{Element, IsBuilt, slot}
use Rattle.qe_parts.proofs.FormLemmas.{built_slots, held}
use Rattle.qe_command.specs.declared.command.Command.{Command}
use Rattle.qe_command.specs.declared.command.Command.TheVariants as c
use Rattle.qe_command_document.specs.declared.part.Op.{Op}
use Rattle.qe_command_document.specs.declared.part.Op.TheVariants as op
use Rattle.qe_command_document.specs.CellDocuments.{field_rows}
use Rattle.qe_command_document.specs.CommandDocument.{command_rows, command_reads, command_build, element_reads, plain_reads, doc_in, set_in, filter_in, tokens_in, number_in, limit_in, field_in, greatest_in, within, Fits}
use Rattle.qe_command_document.proofs.SchemaLemmas.{rows_apart}
use Rattle.qe_command_fits.specs.OfSchema.{IsIdValue, IsFieldAt, IsRaiseOf, AreCellsOf, AreTermsOf, AreTokensOf, IsOfSchema}
use Rattle.qe_command_fits.specs.Sizes.{FittingIsOfSchema}
use Rattle.qe_command_fits.proofs.ElementLemmas.{doc_element, set_element, filter_element, tokens_element, number_within, limit_element, field_element, raise_within}
use Rattle.qe_command_fits.proofs.SizeLemmas.{sized, few_nonces}

abbrev Laid : List Field → Op → Command → List Element → Type 0
Laid fields which command elements = IsBuilt (command_reads which fields) (command_rows which) (command_build which) command elements

insert_of : (fields : List Field) (command : Command) (elements : List Element) → Distinct (field_rows fields) → Laid fields op.Insert command elements → IsOfSchema fields command
unfolding command_reads
insert_of fields command elements apart is =
    let reads = command_reads op.Insert fields in
    let found = built_slots reads (command_rows op.Insert) (command_build op.Insert) command elements is in
    subst (IsOfSchema fields) (sym found.0)
    (held reads elements (codes "doc") Missing (λ s. IsIdValue (doc_in s).id × AreCellsOf fields (doc_in s).cells) (λ value x is. doc_element fields value x apart is)
    (slot reads (codes "doc") (value_named (codes "doc") elements)) found.1.1.0)

find_of : (fields : List Field) (command : Command) (elements : List Element) → Laid fields op.Find command elements → IsOfSchema fields command
unfolding command_reads
find_of fields command elements is =
    let reads = command_reads op.Find fields in
    let found = built_slots reads (command_rows op.Find) (command_build op.Find) command elements is in
    subst (IsOfSchema fields) (sym found.0)
    (held reads elements (codes "filter") Missing (λ s. AreTermsOf fields (filter_in s)) (λ value x is. filter_element fields value x is)
    (slot reads (codes "filter") (value_named (codes "filter") elements)) found.1.1.0)

update_of : (fields : List Field) (command : Command) (elements : List Element) → Distinct (field_rows fields) → Laid fields op.Update command elements → IsOfSchema fields command
unfolding command_reads
update_of fields command elements apart is =
    let reads = command_reads op.Update fields in
    let found = built_slots reads (command_rows op.Update) (command_build op.Update) command elements is in
    subst (IsOfSchema fields) (sym found.0) (
      held reads elements (codes "filter") Missing (λ s. AreTermsOf fields (filter_in s)) (λ value x is. filter_element fields value x is)
          (slot reads (codes "filter") (value_named (codes "filter") elements)) found.1.1.0,
      held reads elements (codes "set") Missing (λ s. AreCellsOf fields (set_in s)) (λ value x is. set_element fields value x apart is)
          (slot reads (codes "set") (value_named (codes "set") elements)) found.1.1.1.0,
    )

delete_of : (fields : List Field) (command : Command) (elements : List Element) → Laid fields op.Delete command elements → IsOfSchema fields command
unfolding command_reads
delete_of fields command elements is =
    let reads = command_reads op.Delete fields in
    let found = built_slots reads (command_rows op.Delete) (command_build op.Delete) command elements is in
    subst (IsOfSchema fields) (sym found.0)
    (held reads elements (codes "filter") Missing (λ s. AreTermsOf fields (filter_in s)) (λ value x is. filter_element fields value x is)
    (slot reads (codes "filter") (value_named (codes "filter") elements)) found.1.1.0)

begin_of : (fields : List Field) (command : Command) (elements : List Element) → Distinct (field_rows fields) → Laid fields op.Begin command elements → IsOfSchema fields command
unfolding command_reads
begin_of fields command elements apart is =
    let reads = command_reads op.Begin fields in
    let found = built_slots reads (command_rows op.Begin) (command_build op.Begin) command elements is in
    subst (IsOfSchema fields) (sym found.0)
    (held reads elements (codes "tokens") Missing (λ s. AreTokensOf fields (tokens_in s)) (λ value x is. tokens_element fields value x apart is)
    (slot reads (codes "tokens") (value_named (codes "tokens") elements)) found.1.1.1.0)

step_of : (fields : List Field) (command : Command) (elements : List Element) → IsDocument elements → Laid fields op.Step command elements → IsOfSchema fields command
unfolding command_reads element_reads plain_reads
step_of fields command elements document is =
    let reads = command_reads op.Step fields in
    let found = built_slots reads (command_rows op.Step) (command_build op.Step) command elements is in
    subst (IsOfSchema fields) (sym found.0) (
      number_within reads elements (codes "job") Missing (slot reads (codes "job") (value_named (codes "job") elements)) (λ value x is. is) document found.1.1.0,
      held reads elements (codes "limit") Missing (λ s. (1 ≤ limit_in s) × (limit_in s ≤ 65536)) (λ value x is. limit_element fields value x is)
          (slot reads (codes "limit") (value_named (codes "limit") elements)) found.1.1.1.0,
    )

end_of : (fields : List Field) (command : Command) (elements : List Element) → IsDocument elements → Laid fields op.End command elements → IsOfSchema fields command
unfolding command_reads element_reads plain_reads
end_of fields command elements document is =
    let reads = command_reads op.End fields in
    let found = built_slots reads (command_rows op.End) (command_build op.End) command elements is in
    subst (IsOfSchema fields) (sym found.0)
    (number_within reads elements (codes "job") Missing (slot reads (codes "job") (value_named (codes "job") elements)) (λ value x is. is) document found.1.1.0)

abandon_of : (fields : List Field) (command : Command) (elements : List Element) → IsDocument elements → Laid fields op.Abandon command elements → IsOfSchema fields command
unfolding command_reads element_reads plain_reads
abandon_of fields command elements document is =
    let reads = command_reads op.Abandon fields in
    let found = built_slots reads (command_rows op.Abandon) (command_build op.Abandon) command elements is in
    subst (IsOfSchema fields) (sym found.0)
    (number_within reads elements (codes "job") Missing (slot reads (codes "job") (value_named (codes "job") elements)) (λ value x is. is) document found.1.1.0)

raised : (fields : List Field) (field contention : ℕ) → IsFieldAt fields field (λ kind. is_encrypted kind ≡ true)
    → within fields (c.Raise field contention) ≡ Ok (c.Raise field contention) → IsFieldAt fields field (IsRaiseOf contention)
raised fields field contention at fine = record {
  below = at.below;
  field = at.field;
  there = at.there;
  kind = record { encrypted = at.kind; within = subst (λ (n : ℕ). contention ≤ n) (ap greatest_in at.there) (raise_within fields field contention fine) };
}

raise_of : (fields : List Field) (command : Command) (elements : List Element) → Laid fields op.Raise command elements → within fields command ≡ Ok command → IsOfSchema fields command
unfolding command_reads
raise_of fields command elements is fine =
    let reads = command_reads op.Raise fields in
    let found = built_slots reads (command_rows op.Raise) (command_build op.Raise) command elements is in
    let field = slot reads (codes "field") (value_named (codes "field") elements) in
    let contention = slot reads (codes "contention") (value_named (codes "contention") elements) in
    let at = held reads elements (codes "field") Missing (λ s. IsFieldAt fields (field_in s) (λ kind. is_encrypted kind ≡ true)) (λ value x is. field_element fields value x is)
    field found.1.1.0 in
    subst (IsOfSchema fields) (sym found.0)
    (raised fields (field_in field) (number_in contention) at (subst (λ x. within fields x ≡ Ok x) found.0 fine))

by_op : (fields : List Field) (command : Command) (elements : List Element) (which : Op) → IsSchema fields → IsDocument elements → Laid fields which command elements
    → within fields command ≡ Ok command → IsOfSchema fields command
by_op fields command elements op.Insert schema document is fine = insert_of fields command elements (rows_apart fields schema).1 is
by_op fields command elements op.Find schema document is fine = find_of fields command elements is
by_op fields command elements op.Update schema document is fine = update_of fields command elements (rows_apart fields schema).1 is
by_op fields command elements op.Delete schema document is fine = delete_of fields command elements is
by_op fields command elements op.Begin schema document is fine = begin_of fields command elements (rows_apart fields schema).1 is
by_op fields command elements op.Step schema document is fine = step_of fields command elements document is
by_op fields command elements op.End schema document is fine = end_of fields command elements document is
by_op fields command elements op.Abandon schema document is fine = abandon_of fields command elements document is
by_op fields command elements op.Raise schema document is fine = raise_of fields command elements is fine

pub fitting : (fields : List Field) (command : Command) → IsSchema fields → Fits fields command → IsOfSchema fields command
fitting fields command schema fits = by_op fields command fits.laid.elements fits.laid.which schema fits.laid.document.document fits.laid.laid fits.laid.raise

pub fitting_laws : FittingIsOfSchema
fitting_laws fields command schema fits =
    let of = fitting fields command schema fits in
    record { of_schema = of; sizes = sized fields command schema of; nonces = few_nonces fields command schema of }
