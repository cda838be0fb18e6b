-- The document of a command that fits is written without a refusal.
use Rattle.std.proofs.Common.{◌≡◌, ℕ, pos, List, refl, ap, sym, subst, ◌∙◌, arith, inl, inr, if◌then◌else◌, Option, None, Some, Ok}
use Rattle.std.specs.Prelude.{bytes_eq, codes}
use Rattle.std.specs.Option.{option_or}
use Rattle.std.proofs.lemmas.Bool.{cases_Bool, cond-true, cond-false}
use Rattle.std.proofs.lemmas.Slice.Eq.{bytes_eq-Decides}
use Rattle.std.proofs.Math.Seq.{take-length}
use Rattle.qe_base.specs.Bytes.{AreBytes}
use Rattle.qe_value.specs.declared.value.Plain.{Plain}
use Rattle.qe_value.specs.declared.value.Plain.TheVariants as p
use Rattle.qe_value.specs.Spelling.{spelled, document_bytes, IsDocument}
use Rattle.qe_encode.specs.Writing.{encoded}
use Rattle.qe_encode.proofs.FlatLemmas.{written_whole}
use Rattle.qe_encode.proofs.SizeLemmas.{document_lengths}
use Rattle.qe_document.specs.Names.{value_named}
use Rattle.qe_tokens.specs.declared.words.FieldToken.{FieldToken}
use Rattle.qe_field.specs.declared.field.Field.{Field}
use Rattle.qe_field.specs.Lookup.{path_of}
use Rattle.qe_field.specs.Schema.{IsSchema}
use Rattle.qe_field.specs.Values.{text_in}
use Rattle.qe_layout.specs.declared.malformed.Kind.TheVariants.{Missing}
use Rattle.qe_layout.specs.Documents.{of_type, document_reads}
use Rattle.qe_layout.specs.Layouts.{Element, slot}
use Rattle.qe_parts.proofs.FormLemmas.{map_ok, bind_ok, built_slots}
use Rattle.qe_parts.proofs.NamedLemmas.{document_is, type_ok}
use Rattle.qe_command.specs.declared.cells.SentCell.{SentCell}
use Rattle.qe_command.specs.declared.command.Command.{Command}
use Rattle.qe_command.specs.declared.command.Command.TheVariants as c
use Rattle.qe_command.specs.declared.filter.SentTerm.{SentTerm}
use Rattle.qe_command_document.specs.declared.part.Doc.{Doc}
use Rattle.qe_command_document.specs.declared.part.Op.{Op}
use Rattle.qe_command_document.specs.declared.part.Op.TheVariants as op
use Rattle.qe_command_document.specs.declared.part.Part.{Part}
use Rattle.qe_command_document.specs.declared.part.Part.TheVariants as part
use Rattle.qe_command_document.specs.CellDocuments.{doc_of, set_of, tokens_of}
use Rattle.qe_command_document.specs.CommandDocument.{op_name, op_named, some_op, op_in, op_of, command_rows, command_reads, command_build, element_reads, doc_in, set_in, filter_in, ids_in, kind_in, tokens_in, number_in, limit_in, field_in, IsCommandDocument}
use Rattle.qe_command_document.specs.FilterArrays.{filter_reads}
use Rattle.qe_command_document.proofs.SchemaLemmas.{rows_apart}
use Rattle.qe_command_written.specs.Faults.{cells_fault, terms_fault, payloads_fault}
use Rattle.qe_command_written.specs.Written.{doc_elements, cell_elements, filter_value, token_elements, kind_name, command_elements}
use Rattle.qe_command_written.proofs.CommandLemmas.{Laid}
use Rattle.qe_command_written.proofs.NearLemmas.{IsNear, itself, AreNear, doc_near, HasNear, are_near, named_bytes, doc_bytes}
use Rattle.qe_command_written.proofs.CommandNear.{doc_written_near, set_written_near}
use Rattle.qe_command_written.proofs.TermNear.{filter_near, tokens_near}
use Rattle.qe_command_written.proofs.SlotLemmas.{text_is, needed_slot, ids_slot, kind_slot, job_slot, contention_slot, limit_slot, field_slot}

abbrev op_text : Op → List ℕ
op_text op.Insert = codes "insert"
op_text op.Find = codes "find"
op_text op.Update = codes "update"
op_text op.Delete = codes "delete"
op_text op.Begin = codes "begin"
op_text op.Step = codes "step"
op_text op.End = codes "end"
op_text op.Abandon = codes "abandon"
op_text op.Raise = codes "raise"

pick : (name word : List ℕ) (here which : Op) (later : Option Op) → (if bytes_eq name word then Some here else later) ≡ Some which
    → word ≡ op_text here → (later ≡ Some which → name ≡ op_text which) → name ≡ op_text which
pick name word here which later is text more =
    elim (cases_Bool (bytes_eq name word)) [
      | inl same ↦
          let both : Some here ≡ Some which = sym (cond-true (bytes_eq name word) (Some here) later same) ∙ is in
          let one : here ≡ which = cc in
          (bytes_eq-Decides name word).0 same ∙ text ∙ ap op_text one
      | inr other ↦ more (sym (cond-false (bytes_eq name word) (Some here) later other) ∙ is)
    ]

op_is : (name : List ℕ) (which : Op) → op_named name ≡ Some which → name ≡ op_text which
unfolding op_named
op_is name which is =
    pick name (codes "insert") op.Insert which _ is refl (λ is.
    pick name (codes "find") op.Find which _ is refl (λ is.
    pick name (codes "update") op.Update which _ is refl (λ is.
    pick name (codes "delete") op.Delete which _ is refl (λ is.
    pick name (codes "begin") op.Begin which _ is refl (λ is.
    pick name (codes "step") op.Step which _ is refl (λ is.
    pick name (codes "end") op.End which _ is refl (λ is.
    pick name (codes "abandon") op.Abandon which _ is refl (λ is.
    pick name (codes "raise") op.Raise which _ is refl (λ (none : None ≡ Some which). absurd (cc))))))))))

some_is : (found : Option Op) (which : Op) → some_op found ≡ Ok which → found ≡ Some which
some_is None which is = absurd (cc)
some_is (Some other) which is = cc

-- `op` is written as it was read
op_near : (was : List Element) (which : Op) → op_of was ≡ Ok which → HasNear was (op_name, p.Str (op_text which))
op_near was which is = by_value (value_named op_name was) refl is
  where
    by_value : (found : Option Plain) → value_named op_name was ≡ found → op_in found ≡ Ok which → HasNear was (op_name, p.Str (op_text which))
    by_value None at is = absurd (cc)
    by_value (Some value) at is =
        let text = bind_ok (of_type op_name (text_in value)) (λ name. some_op (op_named name)) which is in
        let named : text.0 ≡ op_text which = op_is text.0 which (some_is (op_named text.0) which text.1.1) in
        let value_is : value ≡ p.Str (op_text which) = text_is value text.0 (type_ok op_name (text_in value) text.0 text.1.0) ∙ ap (λ t. p.Str t) named in
        (value, (at, subst (IsNear value) value_is (itself value)))

-- what each element holds
doc_element_near : (fields : List Field) (value : Plain) (x : Part) → IsSchema fields → element_reads fields (codes "doc") value ≡ Ok x → AreBytes (spelled value).bytes
    → (d : Doc) × ((x ≡ part.Doc d) × (IsNear value (p.Doc (doc_elements fields d.id d.cells)) × (cells_fault d.cells ≡ None)))
unfolding element_reads
doc_element_near fields value x schema is are =
    let name = codes "doc" in
    let found = map_ok (λ d. part.Doc d) (document_reads (doc_of fields) name value) x is in
    let inner = document_is (doc_of fields) name value found.0 found.1.0 in
    let bytes = doc_bytes inner.0 (subst (λ v. AreBytes (spelled v).bytes) inner.1.0 are) in
    let near = doc_written_near fields inner.0 found.0 inner.1.1 (rows_apart fields schema) bytes in
    (found.0, (found.1.1, (subst (λ v. IsNear v (p.Doc (doc_elements fields found.0.id found.0.cells))) (sym inner.1.0) (doc_near inner.0 (doc_elements fields found.0.id found.0.cells) near.0), near.1)))

set_element_near : (fields : List Field) (value : Plain) (x : Part) → IsSchema fields → element_reads fields (codes "set") value ≡ Ok x → AreBytes (spelled value).bytes
    → (set : List (ℕ × SentCell)) × ((x ≡ part.Set set) × (IsNear value (p.Doc (cell_elements fields set)) × (cells_fault set ≡ None)))
unfolding element_reads
set_element_near fields value x schema is are =
    let name = codes "set" in
    let found = map_ok (λ set. part.Set set) (document_reads (set_of fields) name value) x is in
    let inner = document_is (set_of fields) name value found.0 found.1.0 in
    let bytes = doc_bytes inner.0 (subst (λ v. AreBytes (spelled v).bytes) inner.1.0 are) in
    let near = set_written_near fields inner.0 found.0 inner.1.1 (rows_apart fields schema).1 bytes in
    (found.0, (found.1.1, (subst (λ v. IsNear v (p.Doc (cell_elements fields found.0))) (sym inner.1.0) (doc_near inner.0 (cell_elements fields found.0) near.0), near.1)))

filter_element_near : (fields : List Field) (value : Plain) (x : Part) → element_reads fields (codes "filter") value ≡ Ok x → AreBytes (spelled value).bytes
    → (terms : List SentTerm) × ((x ≡ part.Filter terms) × (IsNear value (filter_value fields terms) × (terms_fault terms ≡ None)))
unfolding element_reads
filter_element_near fields value x is are =
    let found = map_ok (λ terms. part.Filter terms) (filter_reads fields (codes "filter") value) x is in
    (found.0, (found.1.1, filter_near fields (codes "filter") value found.0 found.1.0 are))

tokens_element_near : (fields : List Field) (value : Plain) (x : Part) → IsSchema fields → element_reads fields (codes "tokens") value ≡ Ok x → AreBytes (spelled value).bytes
    → (tokens : List FieldToken) × ((x ≡ part.Tokens tokens) × IsNear value (p.Doc (token_elements fields tokens)))
unfolding element_reads
tokens_element_near fields value x schema is are =
    let name = codes "tokens" in
    let found = map_ok (λ tokens. part.Tokens tokens) (document_reads (tokens_of fields) name value) x is in
    let inner = document_is (tokens_of fields) name value found.0 found.1.0 in
    let bytes = doc_bytes inner.0 (subst (λ v. AreBytes (spelled v).bytes) inner.1.0 are) in
    let near = tokens_near fields inner.0 found.0 inner.1.1 (rows_apart fields schema).1 bytes in
    (found.0, (found.1.1, subst (λ v. IsNear v (p.Doc (token_elements fields found.0))) (sym inner.1.0) (doc_near inner.0 (token_elements fields found.0) near)))

-- an element that stands there, and one that is written as it stands there
near_there : (was : List Element) (name : List ℕ) (value is : Plain) → value_named name was ≡ Some value → IsNear value is → HasNear was (name, is)
near_there was name value is at near = (value, (at, near))

as_there : (was : List Element) (name : List ℕ) (value is : Plain) → value_named name was ≡ Some value → value ≡ is → HasNear was (name, is)
as_there was name value is at same = near_there was name value is at (subst (IsNear value) same (itself value))

-- the document of a command is near to the one that it was read of, and none of its payloads is refused
abbrev Whole : List Field → List Element → Command → Type 0
Whole fields was command = AreNear was (command_elements fields command) × (payloads_fault command ≡ None)

abbrev IsWhole : Op → Type 0
IsWhole which = (fields : List Field) (command : Command) (was : List Element) → IsSchema fields → op_of was ≡ Ok which → AreBytes (document_bytes was) → Laid fields which command was → Whole fields was command

insert_whole : IsWhole op.Insert
unfolding command_reads command_elements payloads_fault
insert_whole fields command was schema named are is =
    let reads = command_reads op.Insert fields in
    let found = built_slots reads (command_rows op.Insert) (command_build op.Insert) command was is in
    let one = needed_slot reads was (codes "doc") Missing (slot reads (codes "doc") (value_named (codes "doc") was)) found.1.1.0 in
    let one_is = doc_element_near fields one.1.1.0 one.0 schema one.1.1.1.1 (named_bytes (codes "doc") was one.1.1.0 are one.1.1.1.0) in
    let same : command ≡ c.Insert (doc_in (Some (part.Doc one_is.0))).id (doc_in (Some (part.Doc one_is.0))).cells =
    found.0 ∙ ap (λ s. c.Insert (doc_in s).id (doc_in s).cells) (one.1.0 ∙ ap (λ x. Some x) one_is.1.0) in
    subst (Whole fields was) (sym same) (
      are_near was (command_elements fields (c.Insert (doc_in (Some (part.Doc one_is.0))).id (doc_in (Some (part.Doc one_is.0))).cells)) (refl, (refl, tt)) (op_near was op.Insert named, (near_there was (codes "doc") one.1.1.0 (p.Doc (doc_elements fields one_is.0.id one_is.0.cells)) one.1.1.1.0 one_is.1.1.0, tt)),
      one_is.1.1.1,
    )

find_whole : IsWhole op.Find
unfolding command_reads command_elements payloads_fault
find_whole fields command was schema named are is =
    let reads = command_reads op.Find fields in
    let found = built_slots reads (command_rows op.Find) (command_build op.Find) command was is in
    let one = needed_slot reads was (codes "filter") Missing (slot reads (codes "filter") (value_named (codes "filter") was)) found.1.1.0 in
    let one_is = filter_element_near fields one.1.1.0 one.0 one.1.1.1.1 (named_bytes (codes "filter") was one.1.1.0 are one.1.1.1.0) in
    let two = needed_slot reads was (codes "ids") Missing (slot reads (codes "ids") (value_named (codes "ids") was)) found.1.1.1.0 in
    let two_is = ids_slot fields two.1.1.0 two.0 two.1.1.1.1 in
    let same : command ≡ c.Find (filter_in (Some (part.Filter one_is.0))) (ids_in (Some (part.Ids two_is.0))) =
    found.0 ∙ ap (λ s. c.Find (filter_in s) (ids_in (slot reads (codes "ids") (value_named (codes "ids") was)))) (one.1.0 ∙ ap (λ x. Some x) one_is.1.0)
    ∙ ap (λ s. c.Find (filter_in (Some (part.Filter one_is.0))) (ids_in s)) (two.1.0 ∙ ap (λ x. Some x) two_is.1.0) in
    subst (Whole fields was) (sym same) (
      are_near was (command_elements fields (c.Find (filter_in (Some (part.Filter one_is.0))) (ids_in (Some (part.Ids two_is.0))))) (refl, (refl, (refl, tt))) (op_near was op.Find named, (near_there was (codes "filter") one.1.1.0 (filter_value fields one_is.0) one.1.1.1.0 one_is.1.1.0, (as_there was (codes "ids") two.1.1.0 (p.Bool two_is.0) two.1.1.1.0 two_is.1.1.0, tt))),
      one_is.1.1.1,
    )

update_whole : IsWhole op.Update
unfolding command_reads command_elements payloads_fault
update_whole fields command was schema named are is =
    let reads = command_reads op.Update fields in
    let found = built_slots reads (command_rows op.Update) (command_build op.Update) command was is in
    let one = needed_slot reads was (codes "filter") Missing (slot reads (codes "filter") (value_named (codes "filter") was)) found.1.1.0 in
    let one_is = filter_element_near fields one.1.1.0 one.0 one.1.1.1.1 (named_bytes (codes "filter") was one.1.1.0 are one.1.1.1.0) in
    let two = needed_slot reads was (codes "set") Missing (slot reads (codes "set") (value_named (codes "set") was)) found.1.1.1.0 in
    let two_is = set_element_near fields two.1.1.0 two.0 schema two.1.1.1.1 (named_bytes (codes "set") was two.1.1.0 are two.1.1.1.0) in
    let same : command ≡ c.Update (filter_in (Some (part.Filter one_is.0))) (set_in (Some (part.Set two_is.0))) =
    found.0 ∙ ap (λ s. c.Update (filter_in s) (set_in (slot reads (codes "set") (value_named (codes "set") was)))) (one.1.0 ∙ ap (λ x. Some x) one_is.1.0)
    ∙ ap (λ s. c.Update (filter_in (Some (part.Filter one_is.0))) (set_in s)) (two.1.0 ∙ ap (λ x. Some x) two_is.1.0) in
    subst (Whole fields was) (sym same) (
      are_near was (command_elements fields (c.Update (filter_in (Some (part.Filter one_is.0))) (set_in (Some (part.Set two_is.0))))) (refl, (refl, (refl, tt))) (op_near was op.Update named, (near_there was (codes "filter") one.1.1.0 (filter_value fields one_is.0) one.1.1.1.0 one_is.1.1.0, (near_there was (codes "set") two.1.1.0 (p.Doc (cell_elements fields two_is.0)) two.1.1.1.0 two_is.1.1.0, tt))),
      ap (λ f. option_or f (cells_fault two_is.0)) one_is.1.1.1 ∙ two_is.1.1.1,
    )

delete_whole : IsWhole op.Delete
unfolding command_reads command_elements payloads_fault
delete_whole fields command was schema named are is =
    let reads = command_reads op.Delete fields in
    let found = built_slots reads (command_rows op.Delete) (command_build op.Delete) command was is in
    let one = needed_slot reads was (codes "filter") Missing (slot reads (codes "filter") (value_named (codes "filter") was)) found.1.1.0 in
    let one_is = filter_element_near fields one.1.1.0 one.0 one.1.1.1.1 (named_bytes (codes "filter") was one.1.1.0 are one.1.1.1.0) in
    let same : command ≡ c.Delete (filter_in (Some (part.Filter one_is.0))) =
    found.0 ∙ ap (λ s. c.Delete (filter_in s)) (one.1.0 ∙ ap (λ x. Some x) one_is.1.0) in
    subst (Whole fields was) (sym same) (
      are_near was (command_elements fields (c.Delete (filter_in (Some (part.Filter one_is.0))))) (refl, (refl, tt)) (op_near was op.Delete named, (near_there was (codes "filter") one.1.1.0 (filter_value fields one_is.0) one.1.1.1.0 one_is.1.1.0, tt)),
      one_is.1.1.1,
    )

begin_whole : IsWhole op.Begin
unfolding command_reads command_elements payloads_fault
begin_whole fields command was schema named are is =
    let reads = command_reads op.Begin fields in
    let found = built_slots reads (command_rows op.Begin) (command_build op.Begin) command was is in
    let one = needed_slot reads was (codes "kind") Missing (slot reads (codes "kind") (value_named (codes "kind") was)) found.1.1.0 in
    let one_is = kind_slot fields one.1.1.0 one.0 one.1.1.1.1 in
    let two = needed_slot reads was (codes "tokens") Missing (slot reads (codes "tokens") (value_named (codes "tokens") was)) found.1.1.1.0 in
    let two_is = tokens_element_near fields two.1.1.0 two.0 schema two.1.1.1.1 (named_bytes (codes "tokens") was two.1.1.0 are two.1.1.1.0) in
    let same : command ≡ c.Begin (kind_in (Some (part.Kind one_is.0))) (tokens_in (Some (part.Tokens two_is.0))) =
    found.0 ∙ ap (λ s. c.Begin (kind_in s) (tokens_in (slot reads (codes "tokens") (value_named (codes "tokens") was)))) (one.1.0 ∙ ap (λ x. Some x) one_is.1.0)
    ∙ ap (λ s. c.Begin (kind_in (Some (part.Kind one_is.0))) (tokens_in s)) (two.1.0 ∙ ap (λ x. Some x) two_is.1.0) in
    subst (Whole fields was) (sym same) (
      are_near was (command_elements fields (c.Begin (kind_in (Some (part.Kind one_is.0))) (tokens_in (Some (part.Tokens two_is.0))))) (refl, (refl, (refl, tt))) (op_near was op.Begin named, (as_there was (codes "kind") one.1.1.0 (p.Str (kind_name one_is.0)) one.1.1.1.0 one_is.1.1.0, (near_there was (codes "tokens") two.1.1.0 (p.Doc (token_elements fields two_is.0)) two.1.1.1.0 two_is.1.1, tt))),
      refl,
    )

step_whole : IsWhole op.Step
unfolding command_reads command_elements payloads_fault
step_whole fields command was schema named are is =
    let reads = command_reads op.Step fields in
    let found = built_slots reads (command_rows op.Step) (command_build op.Step) command was is in
    let one = needed_slot reads was (codes "job") Missing (slot reads (codes "job") (value_named (codes "job") was)) found.1.1.0 in
    let one_is = job_slot fields one.1.1.0 one.0 one.1.1.1.1 in
    let two = needed_slot reads was (codes "limit") Missing (slot reads (codes "limit") (value_named (codes "limit") was)) found.1.1.1.0 in
    let two_is = limit_slot fields two.1.1.0 two.0 two.1.1.1.1 in
    let same : command ≡ c.Step (number_in (Some (part.Number one_is.0))) (limit_in (Some (part.Limit two_is.0))) =
    found.0 ∙ ap (λ s. c.Step (number_in s) (limit_in (slot reads (codes "limit") (value_named (codes "limit") was)))) (one.1.0 ∙ ap (λ x. Some x) one_is.1.0)
    ∙ ap (λ s. c.Step (number_in (Some (part.Number one_is.0))) (limit_in s)) (two.1.0 ∙ ap (λ x. Some x) two_is.1.0) in
    subst (Whole fields was) (sym same) (
      are_near was (command_elements fields (c.Step (number_in (Some (part.Number one_is.0))) (limit_in (Some (part.Limit two_is.0))))) (refl, (refl, (refl, tt))) (op_near was op.Step named, (as_there was (codes "job") one.1.1.0 (p.Int64 (pos one_is.0)) one.1.1.1.0 one_is.1.1.0, (as_there was (codes "limit") two.1.1.0 (p.Int32 (pos two_is.0)) two.1.1.1.0 two_is.1.1.0, tt))),
      refl,
    )

end_whole : IsWhole op.End
unfolding command_reads command_elements payloads_fault
end_whole fields command was schema named are is =
    let reads = command_reads op.End fields in
    let found = built_slots reads (command_rows op.End) (command_build op.End) command was is in
    let one = needed_slot reads was (codes "job") Missing (slot reads (codes "job") (value_named (codes "job") was)) found.1.1.0 in
    let one_is = job_slot fields one.1.1.0 one.0 one.1.1.1.1 in
    let same : command ≡ c.End (number_in (Some (part.Number one_is.0))) =
    found.0 ∙ ap (λ s. c.End (number_in s)) (one.1.0 ∙ ap (λ x. Some x) one_is.1.0) in
    subst (Whole fields was) (sym same) (
      are_near was (command_elements fields (c.End (number_in (Some (part.Number one_is.0))))) (refl, (refl, tt)) (op_near was op.End named, (as_there was (codes "job") one.1.1.0 (p.Int64 (pos one_is.0)) one.1.1.1.0 one_is.1.1.0, tt)),
      refl,
    )

abandon_whole : IsWhole op.Abandon
unfolding command_reads command_elements payloads_fault
abandon_whole fields command was schema named are is =
    let reads = command_reads op.Abandon fields in
    let found = built_slots reads (command_rows op.Abandon) (command_build op.Abandon) command was is in
    let one = needed_slot reads was (codes "job") Missing (slot reads (codes "job") (value_named (codes "job") was)) found.1.1.0 in
    let one_is = job_slot fields one.1.1.0 one.0 one.1.1.1.1 in
    let same : command ≡ c.Abandon (number_in (Some (part.Number one_is.0))) =
    found.0 ∙ ap (λ s. c.Abandon (number_in s)) (one.1.0 ∙ ap (λ x. Some x) one_is.1.0) in
    subst (Whole fields was) (sym same) (
      are_near was (command_elements fields (c.Abandon (number_in (Some (part.Number one_is.0))))) (refl, (refl, tt)) (op_near was op.Abandon named, (as_there was (codes "job") one.1.1.0 (p.Int64 (pos one_is.0)) one.1.1.1.0 one_is.1.1.0, tt)),
      refl,
    )

raise_whole : IsWhole op.Raise
unfolding command_reads command_elements payloads_fault
raise_whole fields command was schema named are is =
    let reads = command_reads op.Raise fields in
    let found = built_slots reads (command_rows op.Raise) (command_build op.Raise) command was is in
    let one = needed_slot reads was (codes "field") Missing (slot reads (codes "field") (value_named (codes "field") was)) found.1.1.0 in
    let one_is = field_slot fields one.1.1.0 one.0 one.1.1.1.1 in
    let two = needed_slot reads was (codes "contention") Missing (slot reads (codes "contention") (value_named (codes "contention") was)) found.1.1.1.0 in
    let two_is = contention_slot fields two.1.1.0 two.0 two.1.1.1.1 in
    let same : command ≡ c.Raise (field_in (Some (part.Field one_is.0))) (number_in (Some (part.Number two_is.0))) =
    found.0 ∙ ap (λ s. c.Raise (field_in s) (number_in (slot reads (codes "contention") (value_named (codes "contention") was)))) (one.1.0 ∙ ap (λ x. Some x) one_is.1.0)
    ∙ ap (λ s. c.Raise (field_in (Some (part.Field one_is.0))) (number_in s)) (two.1.0 ∙ ap (λ x. Some x) two_is.1.0) in
    subst (Whole fields was) (sym same) (
      are_near was (command_elements fields (c.Raise (field_in (Some (part.Field one_is.0))) (number_in (Some (part.Number two_is.0))))) (refl, (refl, (refl, tt))) (op_near was op.Raise named, (as_there was (codes "field") one.1.1.0 (p.Str (path_of fields one_is.0)) one.1.1.1.0 one_is.1.1.0, (as_there was (codes "contention") two.1.1.0 (p.Int64 (pos two_is.0)) two.1.1.1.0 two_is.1.1.0, tt))),
      refl,
    )

whole : (which : Op) → IsWhole which
whole op.Insert = insert_whole
whole op.Find = find_whole
whole op.Update = update_whole
whole op.Delete = delete_whole
whole op.Begin = begin_whole
whole op.Step = step_whole
whole op.End = end_whole
whole op.Abandon = abandon_whole
whole op.Raise = raise_whole

-- a command that fits is written as its document, without a refusal
pub written_whole_again : (fields : List Field) (command : Command) (bytes : List ℕ) → IsSchema fields → AreBytes bytes → IsCommandDocument fields command bytes
    → (payloads_fault command ≡ None) × (encoded (command_elements fields command) ≡ Ok (document_bytes (command_elements fields command)))
written_whole_again fields command bytes schema are is =
    let was = is.elements in
    let elements = command_elements fields command in
    let front : bytes ≡ document_bytes was = sym (take-length bytes) ∙ is.document.front in
    let near = whole is.which fields command was schema is.named (subst AreBytes front are) is.laid in
    let one = document_lengths was in
    let two = document_lengths elements in
    let document : IsDocument elements =
    record { fits = near.0.fits 100 is.document.document.fits; short = omega (arith, one, two, near.0.short, is.document.document.short) } in
    (near.1, written_whole elements (document_bytes elements) document)
