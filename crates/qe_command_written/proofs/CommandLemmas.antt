-- A command that fits has parts that can be written, and is read again as it is written.
use Rattle.std.proofs.Common.{◌≡◌, ℕ, pos, List, [], ◌∷◌, refl, sym, ap, subst, ◌∙◌, arith, Some, Result, Ok, Err}
use Rattle.std.specs.Prelude.{codes, IfOk}
use Rattle.std.proofs.Math.Seq.{take-length}
use Rattle.qe_base.specs.Answers.{Answers}
use Rattle.qe_value.specs.declared.fault.EncodeFault.{EncodeFault}
use Rattle.qe_value.specs.declared.value.Plain.{Plain}
use Rattle.qe_value.specs.declared.value.Plain.TheVariants as p
use Rattle.qe_document.specs.Faults.{encode_refusal}
use Rattle.qe_document.specs.Names.{value_named}
use Rattle.qe_document.specs.Spelling.{IsDocument, document_bytes}
use Rattle.qe_document.specs.Writing.{encoded}
use Rattle.qe_field.specs.declared.field.Field.{Field}
use Rattle.qe_field.specs.Lookup.{path_of}
use Rattle.qe_field.specs.Schema.{IsSchema}
use Rattle.qe_layout.specs.declared.malformed.Kind.TheVariants.{Missing}
use Rattle.qe_layout.specs.Layouts.{Element, IsBuilt, slot}
use Rattle.qe_layout.proofs.WrittenLemmas.{written_laid}
use Rattle.qe_parts.proofs.FormLemmas.{built_slots}
use Rattle.qe_command.specs.declared.command.Command.{Command}
use Rattle.qe_command.specs.declared.command.Command.TheVariants as c
use Rattle.qe_command_document.specs.declared.part.Op.{Op}
use Rattle.qe_command_document.specs.declared.part.Op.TheVariants as op
use Rattle.qe_command_document.specs.declared.part.Part.{Part}
use Rattle.qe_command_document.specs.declared.part.Part.TheVariants as part
use Rattle.qe_command_document.specs.CommandDocument.{op_named, op_of, command_rows, command_reads, command_build, doc_in, set_in, filter_in, ids_in, kind_in, tokens_in, number_in, limit_in, field_in, IsCommandDocument}
use Rattle.qe_command_fits.proofs.ElementLemmas.{fits_64}
use Rattle.qe_command_written.specs.Parts.{FitsParts, PartsAgain}
use Rattle.qe_command_written.specs.Written.{doc_elements, cell_elements, filter_value, token_elements, kind_name, command_elements}
use Rattle.qe_command_written.proofs.DueLemmas.{written_bytes}
use Rattle.qe_command_written.proofs.SlotLemmas.{needed_slot, fits_32, doc_slot, set_slot, filter_slot, tokens_slot, ids_slot, kind_slot, job_slot, contention_slot, limit_slot, field_slot}

-- the parts of a command as they are written, where the command's name is given
abbrev spell : List Field → List ℕ → Part → Plain
spell fields name part.Op = p.Str name
spell fields name (part.Doc doc) = p.Doc (doc_elements fields doc.id doc.cells)
spell fields name (part.Set set) = p.Doc (cell_elements fields set)
spell fields name (part.Filter terms) = filter_value fields terms
spell fields name (part.Ids ids) = p.Bool ids
spell fields name (part.Kind kind) = p.Str (kind_name kind)
spell fields name (part.Tokens tokens) = p.Doc (token_elements fields tokens)
spell fields name (part.Number n) = p.Int64 (pos n)
spell fields name (part.Limit n) = p.Int32 (pos n)
spell fields name (part.Field n) = p.Str (path_of fields n)

abbrev pub Laid : List Field → Op → Command → List Element → Type 0
Laid fields which command elements = IsBuilt (command_reads which fields) (command_rows which) (command_build which) command elements

-- the written elements are those of the command
pub record Again (fields : List Field) (command : Command) (which : Op) : Type 0 where
  pub named : op_of (command_elements fields command) ≡ Ok which
  pub laid : Laid fields which command (command_elements fields command)

abbrev pub Shown : List Field → Op → Command → Type 0
Shown fields which command = FitsParts fields command × (PartsAgain command → Again fields command which)

insert_shown : (fields : List Field) (command : Command) (elements : List Element) → IsSchema fields → IsDocument elements → Laid fields op.Insert command elements → Shown fields op.Insert command
unfolding command_reads command_elements op_named
insert_shown fields command elements schema document is =
    let reads = command_reads op.Insert fields in
    let rows = command_rows op.Insert in
    let found = built_slots reads rows (command_build op.Insert) command elements is in
    let one = needed_slot reads elements (codes "doc") Missing (slot reads (codes "doc") (value_named (codes "doc") elements)) found.1.1.0 in
    let one_is = doc_slot fields one.1.1.0 one.0 schema one.1.1.1.1 in
    let same : command ≡ c.Insert (doc_in (Some (part.Doc one_is.0))).id (doc_in (Some (part.Doc one_is.0))).cells =
    found.0 ∙ ap (λ s. c.Insert (doc_in s).id (doc_in s).cells) (one.1.0 ∙ ap (λ x. Some x) one_is.1.0) in
    let slots = Some part.Op ∷ Some (part.Doc one_is.0) ∷ [] in
    subst (λ x. Shown fields op.Insert x) (sym same) (
      (one_is.1.1.0, one_is.1.1.1.0),
      λ again. record {
        named = refl;
        laid = record {
          slots = slots;
          laid = written_laid reads (spell fields (codes "insert")) rows slots (refl, (refl, tt)) (refl, (one_is.1.1.1.1 again, tt));
          built_of = refl;
        };
      },
    )

find_shown : (fields : List Field) (command : Command) (elements : List Element) → IsSchema fields → IsDocument elements → Laid fields op.Find command elements → Shown fields op.Find command
unfolding command_reads command_elements op_named
find_shown fields command elements schema document is =
    let reads = command_reads op.Find fields in
    let rows = command_rows op.Find in
    let found = built_slots reads rows (command_build op.Find) command elements is in
    let one = needed_slot reads elements (codes "filter") Missing (slot reads (codes "filter") (value_named (codes "filter") elements)) found.1.1.0 in
    let one_is = filter_slot fields one.1.1.0 one.0 one.1.1.1.1 in
    let two = needed_slot reads elements (codes "ids") Missing (slot reads (codes "ids") (value_named (codes "ids") elements)) found.1.1.1.0 in
    let two_is = ids_slot fields two.1.1.0 two.0 two.1.1.1.1 in
    let same : command ≡ c.Find (filter_in (Some (part.Filter one_is.0))) (ids_in (Some (part.Ids two_is.0))) =
    found.0 ∙ ap (λ s. c.Find (filter_in s) (ids_in (slot reads (codes "ids") (value_named (codes "ids") elements)))) (one.1.0 ∙ ap (λ x. Some x) one_is.1.0)
    ∙ ap (λ s. c.Find (filter_in (Some (part.Filter one_is.0))) (ids_in s)) (two.1.0 ∙ ap (λ x. Some x) two_is.1.0) in
    let slots = Some part.Op ∷ Some (part.Filter one_is.0) ∷ Some (part.Ids two_is.0) ∷ [] in
    subst (λ x. Shown fields op.Find x) (sym same) (
      one_is.1.1.0,
      λ again. record {
        named = refl;
        laid = record {
          slots = slots;
          laid = written_laid reads (spell fields (codes "find")) rows slots (refl, (refl, (refl, tt))) (refl, (one_is.1.1.1 again, (two_is.1.1.1, tt)));
          built_of = refl;
        };
      },
    )

update_shown : (fields : List Field) (command : Command) (elements : List Element) → IsSchema fields → IsDocument elements → Laid fields op.Update command elements → Shown fields op.Update command
unfolding command_reads command_elements op_named
update_shown fields command elements schema document is =
    let reads = command_reads op.Update fields in
    let rows = command_rows op.Update in
    let found = built_slots reads rows (command_build op.Update) command elements is in
    let one = needed_slot reads elements (codes "filter") Missing (slot reads (codes "filter") (value_named (codes "filter") elements)) found.1.1.0 in
    let one_is = filter_slot fields one.1.1.0 one.0 one.1.1.1.1 in
    let two = needed_slot reads elements (codes "set") Missing (slot reads (codes "set") (value_named (codes "set") elements)) found.1.1.1.0 in
    let two_is = set_slot fields two.1.1.0 two.0 schema two.1.1.1.1 in
    let same : command ≡ c.Update (filter_in (Some (part.Filter one_is.0))) (set_in (Some (part.Set two_is.0))) =
    found.0 ∙ ap (λ s. c.Update (filter_in s) (set_in (slot reads (codes "set") (value_named (codes "set") elements)))) (one.1.0 ∙ ap (λ x. Some x) one_is.1.0)
    ∙ ap (λ s. c.Update (filter_in (Some (part.Filter one_is.0))) (set_in s)) (two.1.0 ∙ ap (λ x. Some x) two_is.1.0) in
    let slots = Some part.Op ∷ Some (part.Filter one_is.0) ∷ Some (part.Set two_is.0) ∷ [] in
    subst (λ x. Shown fields op.Update x) (sym same) (
      (one_is.1.1.0, (two_is.1.1.0, two_is.1.1.1.0)),
      λ again. record {
        named = refl;
        laid = record {
          slots = slots;
          laid = written_laid reads (spell fields (codes "update")) rows slots (refl, (refl, (refl, tt))) (refl, (one_is.1.1.1 again.0, (two_is.1.1.1.1 again.1, tt)));
          built_of = refl;
        };
      },
    )

delete_shown : (fields : List Field) (command : Command) (elements : List Element) → IsSchema fields → IsDocument elements → Laid fields op.Delete command elements → Shown fields op.Delete command
unfolding command_reads command_elements op_named
delete_shown fields command elements schema document is =
    let reads = command_reads op.Delete fields in
    let rows = command_rows op.Delete in
    let found = built_slots reads rows (command_build op.Delete) command elements is in
    let one = needed_slot reads elements (codes "filter") Missing (slot reads (codes "filter") (value_named (codes "filter") elements)) found.1.1.0 in
    let one_is = filter_slot fields one.1.1.0 one.0 one.1.1.1.1 in
    let same : command ≡ c.Delete (filter_in (Some (part.Filter one_is.0))) =
    found.0 ∙ ap (λ s. c.Delete (filter_in s)) (one.1.0 ∙ ap (λ x. Some x) one_is.1.0) in
    let slots = Some part.Op ∷ Some (part.Filter one_is.0) ∷ [] in
    subst (λ x. Shown fields op.Delete x) (sym same) (
      one_is.1.1.0,
      λ again. record {
        named = refl;
        laid = record {
          slots = slots;
          laid = written_laid reads (spell fields (codes "delete")) rows slots (refl, (refl, tt)) (refl, (one_is.1.1.1 again, tt));
          built_of = refl;
        };
      },
    )

begin_shown : (fields : List Field) (command : Command) (elements : List Element) → IsSchema fields → IsDocument elements → Laid fields op.Begin command elements → Shown fields op.Begin command
unfolding command_reads command_elements op_named
begin_shown fields command elements schema document is =
    let reads = command_reads op.Begin fields in
    let rows = command_rows op.Begin in
    let found = built_slots reads rows (command_build op.Begin) command elements is in
    let one = needed_slot reads elements (codes "kind") Missing (slot reads (codes "kind") (value_named (codes "kind") elements)) found.1.1.0 in
    let one_is = kind_slot fields one.1.1.0 one.0 one.1.1.1.1 in
    let two = needed_slot reads elements (codes "tokens") Missing (slot reads (codes "tokens") (value_named (codes "tokens") elements)) found.1.1.1.0 in
    let two_is = tokens_slot fields two.1.1.0 two.0 schema two.1.1.1.1 in
    let same : command ≡ c.Begin (kind_in (Some (part.Kind one_is.0))) (tokens_in (Some (part.Tokens two_is.0))) =
    found.0 ∙ ap (λ s. c.Begin (kind_in s) (tokens_in (slot reads (codes "tokens") (value_named (codes "tokens") elements)))) (one.1.0 ∙ ap (λ x. Some x) one_is.1.0)
    ∙ ap (λ s. c.Begin (kind_in (Some (part.Kind one_is.0))) (tokens_in s)) (two.1.0 ∙ ap (λ x. Some x) two_is.1.0) in
    let slots = Some part.Op ∷ Some (part.Kind one_is.0) ∷ Some (part.Tokens two_is.0) ∷ [] in
    subst (λ x. Shown fields op.Begin x) (sym same) (
      two_is.1.1.0,
      λ again. record {
        named = refl;
        laid = record {
          slots = slots;
          laid = written_laid reads (spell fields (codes "begin")) rows slots (refl, (refl, (refl, tt))) (refl, (one_is.1.1.1, (two_is.1.1.1, tt)));
          built_of = refl;
        };
      },
    )

step_shown : (fields : List Field) (command : Command) (elements : List Element) → IsSchema fields → IsDocument elements → Laid fields op.Step command elements → Shown fields op.Step command
unfolding command_reads command_elements op_named
step_shown fields command elements schema document is =
    let reads = command_reads op.Step fields in
    let rows = command_rows op.Step in
    let found = built_slots reads rows (command_build op.Step) command elements is in
    let one = needed_slot reads elements (codes "job") Missing (slot reads (codes "job") (value_named (codes "job") elements)) found.1.1.0 in
    let one_is = job_slot fields one.1.1.0 one.0 one.1.1.1.1 in
    let two = needed_slot reads elements (codes "limit") Missing (slot reads (codes "limit") (value_named (codes "limit") elements)) found.1.1.1.0 in
    let two_is = limit_slot fields two.1.1.0 two.0 two.1.1.1.1 in
    let same : command ≡ c.Step (number_in (Some (part.Number one_is.0))) (limit_in (Some (part.Limit two_is.0))) =
    found.0 ∙ ap (λ s. c.Step (number_in s) (limit_in (slot reads (codes "limit") (value_named (codes "limit") elements)))) (one.1.0 ∙ ap (λ x. Some x) one_is.1.0)
    ∙ ap (λ s. c.Step (number_in (Some (part.Number one_is.0))) (limit_in s)) (two.1.0 ∙ ap (λ x. Some x) two_is.1.0) in
    let slots = Some part.Op ∷ Some (part.Number one_is.0) ∷ Some (part.Limit two_is.0) ∷ [] in
    subst (λ x. Shown fields op.Step x) (sym same) (
      (fits_64 elements (codes "job") one_is.0 document (one.1.1.1.0 ∙ ap (λ v. Some v) one_is.1.1.0), fits_32 elements (codes "limit") two_is.0 document (two.1.1.1.0 ∙ ap (λ v. Some v) two_is.1.1.0)),
      λ again. record {
        named = refl;
        laid = record {
          slots = slots;
          laid = written_laid reads (spell fields (codes "step")) rows slots (refl, (refl, (refl, tt))) (refl, (one_is.1.1.1, (two_is.1.1.1, tt)));
          built_of = refl;
        };
      },
    )

end_shown : (fields : List Field) (command : Command) (elements : List Element) → IsSchema fields → IsDocument elements → Laid fields op.End command elements → Shown fields op.End command
unfolding command_reads command_elements op_named
end_shown fields command elements schema document is =
    let reads = command_reads op.End fields in
    let rows = command_rows op.End in
    let found = built_slots reads rows (command_build op.End) command elements is in
    let one = needed_slot reads elements (codes "job") Missing (slot reads (codes "job") (value_named (codes "job") elements)) found.1.1.0 in
    let one_is = job_slot fields one.1.1.0 one.0 one.1.1.1.1 in
    let same : command ≡ c.End (number_in (Some (part.Number one_is.0))) =
    found.0 ∙ ap (λ s. c.End (number_in s)) (one.1.0 ∙ ap (λ x. Some x) one_is.1.0) in
    let slots = Some part.Op ∷ Some (part.Number one_is.0) ∷ [] in
    subst (λ x. Shown fields op.End x) (sym same) (
      fits_64 elements (codes "job") one_is.0 document (one.1.1.1.0 ∙ ap (λ v. Some v) one_is.1.1.0),
      λ again. record {
        named = refl;
        laid = record {
          slots = slots;
          laid = written_laid reads (spell fields (codes "end")) rows slots (refl, (refl, tt)) (refl, (one_is.1.1.1, tt));
          built_of = refl;
        };
      },
    )

abandon_shown : (fields : List Field) (command : Command) (elements : List Element) → IsSchema fields → IsDocument elements → Laid fields op.Abandon command elements → Shown fields op.Abandon command
unfolding command_reads command_elements op_named
abandon_shown fields command elements schema document is =
    let reads = command_reads op.Abandon fields in
    let rows = command_rows op.Abandon in
    let found = built_slots reads rows (command_build op.Abandon) command elements is in
    let one = needed_slot reads elements (codes "job") Missing (slot reads (codes "job") (value_named (codes "job") elements)) found.1.1.0 in
    let one_is = job_slot fields one.1.1.0 one.0 one.1.1.1.1 in
    let same : command ≡ c.Abandon (number_in (Some (part.Number one_is.0))) =
    found.0 ∙ ap (λ s. c.Abandon (number_in s)) (one.1.0 ∙ ap (λ x. Some x) one_is.1.0) in
    let slots = Some part.Op ∷ Some (part.Number one_is.0) ∷ [] in
    subst (λ x. Shown fields op.Abandon x) (sym same) (
      fits_64 elements (codes "job") one_is.0 document (one.1.1.1.0 ∙ ap (λ v. Some v) one_is.1.1.0),
      λ again. record {
        named = refl;
        laid = record {
          slots = slots;
          laid = written_laid reads (spell fields (codes "abandon")) rows slots (refl, (refl, tt)) (refl, (one_is.1.1.1, tt));
          built_of = refl;
        };
      },
    )

raise_shown : (fields : List Field) (command : Command) (elements : List Element) → IsSchema fields → IsDocument elements → Laid fields op.Raise command elements → Shown fields op.Raise command
unfolding command_reads command_elements op_named
raise_shown fields command elements schema document is =
    let reads = command_reads op.Raise fields in
    let rows = command_rows op.Raise in
    let found = built_slots reads rows (command_build op.Raise) command elements is in
    let one = needed_slot reads elements (codes "field") Missing (slot reads (codes "field") (value_named (codes "field") elements)) found.1.1.0 in
    let one_is = field_slot fields one.1.1.0 one.0 one.1.1.1.1 in
    let two = needed_slot reads elements (codes "contention") Missing (slot reads (codes "contention") (value_named (codes "contention") elements)) found.1.1.1.0 in
    let two_is = contention_slot fields two.1.1.0 two.0 two.1.1.1.1 in
    let same : command ≡ c.Raise (field_in (Some (part.Field one_is.0))) (number_in (Some (part.Number two_is.0))) =
    found.0 ∙ ap (λ s. c.Raise (field_in s) (number_in (slot reads (codes "contention") (value_named (codes "contention") elements)))) (one.1.0 ∙ ap (λ x. Some x) one_is.1.0)
    ∙ ap (λ s. c.Raise (field_in (Some (part.Field one_is.0))) (number_in s)) (two.1.0 ∙ ap (λ x. Some x) two_is.1.0) in
    let slots = Some part.Op ∷ Some (part.Field one_is.0) ∷ Some (part.Number two_is.0) ∷ [] in
    subst (λ x. Shown fields op.Raise x) (sym same) (
      fits_64 elements (codes "contention") two_is.0 document (two.1.1.1.0 ∙ ap (λ v. Some v) two_is.1.1.0),
      λ again. record {
        named = refl;
        laid = record {
          slots = slots;
          laid = written_laid reads (spell fields (codes "raise")) rows slots (refl, (refl, (refl, tt))) (refl, (one_is.1.1.1, (two_is.1.1.1, tt)));
          built_of = refl;
        };
      },
    )

-- any command that fits
pub shown : (fields : List Field) (command : Command) (elements : List Element) (which : Op) → IsSchema fields → IsDocument elements → Laid fields which command elements
    → Shown fields which command
shown fields command elements op.Insert schema document is = insert_shown fields command elements schema document is
shown fields command elements op.Find schema document is = find_shown fields command elements schema document is
shown fields command elements op.Update schema document is = update_shown fields command elements schema document is
shown fields command elements op.Delete schema document is = delete_shown fields command elements schema document is
shown fields command elements op.Begin schema document is = begin_shown fields command elements schema document is
shown fields command elements op.Step schema document is = step_shown fields command elements schema document is
shown fields command elements op.End schema document is = end_shown fields command elements schema document is
shown fields command elements op.Abandon schema document is = abandon_shown fields command elements schema document is
shown fields command elements op.Raise schema document is = raise_shown fields command elements schema document is

pub fits_parts : (fields : List Field) (command : Command) (bytes : List ℕ) → IsSchema fields → IsCommandDocument fields command bytes → FitsParts fields command
fits_parts fields command bytes schema is = (shown fields command is.elements is.which schema is.document.document is.laid).0

-- its bytes are its document
pub bytes_again : (fields : List Field) (command : Command) (bytes : List ℕ) (elements : List Element) (result : Result (List ℕ) EncodeFault) → IsSchema fields
    → IsCommandDocument fields command bytes → elements ≡ command_elements fields command → PartsAgain command → Answers (λ out. out) encode_refusal result (encoded elements)
    → IfOk result (λ _. IsDocument elements) → IfOk result (λ out. IsCommandDocument fields command out)
bytes_again fields command bytes elements (Err fault) schema is same again exact fits = tt
bytes_again fields command bytes elements (Ok out) schema is same again exact fits =
    let laid = (shown fields command is.elements is.which schema is.document.document is.laid).1 again in
    let spelled : out ≡ document_bytes elements = written_bytes elements (document_bytes elements) out exact in
    subst (λ es. out ≡ document_bytes es → IsDocument es → IsCommandDocument fields command out) (sym same)
    (λ front document. record {
      elements = command_elements fields command;
      document = record { document = document; front = take-length out ∙ front; within = omega arith };
      which = is.which;
      named = laid.named;
      laid = laid.laid;
      raise = is.raise;
    }) spelled fits
