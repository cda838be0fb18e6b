-- The documents of commands are those of their parts.
use Rattle.std.proofs.Common.{◌≡◌, ℕ, ℤ, pos, ◌≤◌, ◌≤ℤ◌, ◌<◌, ◌^◌, Bool, true, List, [], ◌∷◌, length, Some, Ok, refl, sym, ap, subst, ◌∙◌, arith}
use Rattle.std.specs.Prelude.{FitsSigned, codes, int_le, nat_lt, slice_get}
use Rattle.std.specs.Int.{w32}
use Rattle.std.proofs.lemmas.Bool.{cond-false, le-ltb}
use Rattle.std.proofs.lemmas.Int.{ints}
use Rattle.std.proofs.Math.Seq.{take-length}
use Rattle.qe_base.specs.declared.maintenance.JobKind.{JobKind}
use Rattle.qe_base.specs.declared.maintenance.JobKind.TheVariants.{Cleanup, Compact}
use Rattle.qe_value.specs.declared.value.Plain.{Plain}
use Rattle.qe_value.specs.declared.value.Plain.TheVariants as p
use Rattle.qe_value.specs.declared.value.Value.{Value}
use Rattle.qe_value.specs.Spelling.{document_bytes}
use Rattle.qe_tokens.specs.declared.words.FieldToken.{FieldToken}
use Rattle.qe_field.specs.declared.field.Field.{Field}
use Rattle.qe_field.specs.declared.field.FieldKind.{FieldKind}
use Rattle.qe_field.specs.Lookup.{greatest_of, is_encrypted, known, path_of, path_or_none}
use Rattle.qe_field.specs.Schema.{IsSchema}
use Rattle.qe_layout.specs.declared.malformed.Kind.TheVariants.{ContentionAbove}
use Rattle.qe_layout.specs.Layouts.{IsBuilt}
use Rattle.qe_layout.specs.Refusal.{map_read, wrong}
use Rattle.qe_layout.proofs.WrittenLemmas.{written_laid}
use Rattle.qe_parts.proofs.EntryLemmas.{document_again}
use Rattle.qe_command.specs.declared.cells.SentCell.{SentCell}
use Rattle.qe_command.specs.declared.command.Command.{Command}
use Rattle.qe_command.specs.declared.command.Command.TheVariants as c
use Rattle.qe_command.specs.declared.filter.SentTerm.{SentTerm}
use Rattle.qe_command_document.specs.declared.part.Op.{Op}
use Rattle.qe_command_document.specs.declared.part.Op.TheVariants as op
use Rattle.qe_command_document.specs.declared.part.Part.{Part}
use Rattle.qe_command_document.specs.declared.part.Part.TheVariants as part
use Rattle.qe_command_document.specs.CellDocuments.{doc_of, encrypted_among, set_of, tokens_of}
use Rattle.qe_command_document.specs.CommandDocument.{Fits, command_build, command_reads, command_rows, element_reads, greatest_at, greatest_in, op_named, op_of, plain_reads, within}
use Rattle.qe_command_document.specs.FilterArrays.{filter_reads}
use Rattle.qe_command_written.specs.Written.{cell_elements, command_elements, doc_elements, filter_value, kind_name, token_elements}
use Rattle.qe_sent_fits.proofs.CellReads.{field_known, field_path}
use Rattle.qe_held.proofs.NameLemmas.{IsSoundName, known_name}
use Rattle.qe_held.proofs.SoundLemmas.{AreSound, IsSound, document_is, fields_bytes, flag_sound, int32_sound, int64_sound, text_sound}

reaches : (a b : ℤ) → a ≤ℤ b → int_le a b ≡ true
reaches a b le = grind (arith, ints)

-- the parts of a command as they are written, where the command's name is given
abbrev spell : List Field → List ℕ → Part → Plain
spell fields name part.Op = p.Str name
spell fields name (part.Doc doc) = p.Doc (doc_elements fields doc.id doc.cells)
spell fields name (part.Set set) = p.Doc (cell_elements fields set)
spell fields name (part.Filter terms) = filter_value fields terms
spell fields name (part.Ids ids) = p.Bool ids
spell fields name (part.Kind kind) = p.Str (kind_name kind)
spell fields name (part.Tokens tokens) = p.Doc (token_elements fields tokens)
spell fields name (part.Number n) = p.Int64 (pos n)
spell fields name (part.Limit n) = p.Int32 (pos n)
spell fields name (part.Field n) = p.Str (path_of fields n)

-- the written elements are those of the command, and may stand in a document
pub record IsWhole (fields : List Field) (command : Command) (which : Op) : Type 0 where
  pub named : op_of (command_elements fields command) ≡ Ok which
  pub laid : IsBuilt (command_reads which fields) (command_rows which) (command_build which) command (command_elements fields command)
  pub sound : AreSound 99 (command_elements fields command)

-- a command whose document is such, and isn't too long, fits
pub whole_fits : (fields : List Field) (command : Command) (which : Op) → IsWhole fields command which → within fields command ≡ Ok command
    → length (document_bytes (command_elements fields command)) ≤ 16777216 → Fits fields command
whole_fits fields command which whole raise short =
    let elements = command_elements fields command in
    record {
      bytes = document_bytes elements;
      are_bytes = fields_bytes 99 elements whole.sound;
      laid = record {
        elements = elements;
        document = record { document = document_is elements whole.sound short; front = take-length (document_bytes elements); within = omega arith };
        which = which;
        named = whole.named;
        laid = whole.laid;
        raise = raise;
      };
    }

module _ (fields : List Field) where
  -- ---- what stands under each name is read
  doc_reads : (id : Value) (cells : List (ℕ × SentCell)) → doc_of fields (doc_elements fields id cells) ≡ Ok (record { id = id; cells = cells })
      → element_reads fields (codes "doc") (p.Doc (doc_elements fields id cells)) ≡ Ok (part.Doc (record { id = id; cells = cells }))
  unfolding element_reads
  doc_reads id cells is =
      ap (map_read (λ d. part.Doc d)) (document_again (doc_of fields) (codes "doc") (doc_elements fields id cells) (record { id = id; cells = cells }) is)

  set_reads : (cells : List (ℕ × SentCell)) → set_of fields (cell_elements fields cells) ≡ Ok cells
      → element_reads fields (codes "set") (p.Doc (cell_elements fields cells)) ≡ Ok (part.Set cells)
  unfolding element_reads
  set_reads cells is = ap (map_read (λ set. part.Set set)) (document_again (set_of fields) (codes "set") (cell_elements fields cells) cells is)

  terms_reads : (terms : List SentTerm) → filter_reads fields (codes "filter") (filter_value fields terms) ≡ Ok terms
      → element_reads fields (codes "filter") (filter_value fields terms) ≡ Ok (part.Filter terms)
  unfolding element_reads
  terms_reads terms is = ap (map_read (λ terms. part.Filter terms)) is

  token_reads : (tokens : List FieldToken) → tokens_of fields (token_elements fields tokens) ≡ Ok tokens
      → element_reads fields (codes "tokens") (p.Doc (token_elements fields tokens)) ≡ Ok (part.Tokens tokens)
  unfolding element_reads
  token_reads tokens is = ap (map_read (λ tokens. part.Tokens tokens)) (document_again (tokens_of fields) (codes "tokens") (token_elements fields tokens) tokens is)

  ids_reads : (ids : Bool) → element_reads fields (codes "ids") (p.Bool ids) ≡ Ok (part.Ids ids)
  unfolding element_reads plain_reads
  ids_reads ids = refl

  kinds_reads : (kind : JobKind) → element_reads fields (codes "kind") (p.Str (kind_name kind)) ≡ Ok (part.Kind kind)
  unfolding element_reads plain_reads
  kinds_reads Compact = refl
  kinds_reads Cleanup = refl

  job_reads : (n : ℕ) → element_reads fields (codes "job") (p.Int64 (pos n)) ≡ Ok (part.Number n)
  unfolding element_reads plain_reads
  job_reads n = refl

  contention_reads : (n : ℕ) → element_reads fields (codes "contention") (p.Int64 (pos n)) ≡ Ok (part.Number n)
  unfolding element_reads plain_reads
  contention_reads n = refl

  limits_reads : (n : ℕ) → int_le (pos 1) (pos n) ≡ true → int_le (pos n) (pos 65536) ≡ true → element_reads fields (codes "limit") (p.Int32 (pos n)) ≡ Ok (part.Limit n)
  unfolding element_reads plain_reads
  limits_reads n some few = rw (some, few) refl

  among_reads : (name path : List ℕ) (found : ℕ × FieldKind) → known fields path ≡ Some found → is_encrypted found.1 ≡ true → encrypted_among name (known fields path) ≡ Ok found
  among_reads name path found is encrypted = rw (is, encrypted) refl

  path_reads : (number : ℕ) (found : ℕ × FieldKind) → known fields (path_of fields number) ≡ Some found → found.0 ≡ number → is_encrypted found.1 ≡ true
      → element_reads fields (codes "field") (p.Str (path_of fields number)) ≡ Ok (part.Field number)
  unfolding element_reads plain_reads
  path_reads number found is same encrypted =
      ap (λ read. map_read (λ field. part.Field field) (map_read (λ (f : ℕ × FieldKind). f.0) read)) (among_reads (codes "field") (path_of fields number) found is encrypted)
      ∙ ap (λ n. Ok (part.Field n)) same

  -- ---- commands
  pub insert_whole : (id : Value) (cells : List (ℕ × SentCell)) → doc_of fields (doc_elements fields id cells) ≡ Ok (record { id = id; cells = cells })
      → IsSound 99 (p.Doc (doc_elements fields id cells)) → IsWhole fields (c.Insert id cells) op.Insert
  unfolding command_reads command_elements op_named
  insert_whole id cells read sound =
      let slots = Some part.Op ∷ Some (part.Doc (record { id = id; cells = cells })) ∷ [] in
      record {
        named = refl;
        laid = record {
          slots = slots;
          laid = written_laid (command_reads op.Insert fields) (spell fields (codes "insert")) (command_rows op.Insert) slots (refl, (refl, tt)) (refl, (doc_reads id cells read, tt));
          built_of = refl;
        };
        sound = record {
          apart = (refl, (refl, tt));
          each = ((known_name (codes "op") refl, text_sound 99 (codes "insert") (known_name (codes "insert") refl)), ((known_name (codes "doc") refl, sound), tt));
        };
      }

  pub find_whole : (terms : List SentTerm) (ids : Bool) → filter_reads fields (codes "filter") (filter_value fields terms) ≡ Ok terms
      → IsSound 99 (filter_value fields terms) → IsWhole fields (c.Find terms ids) op.Find
  unfolding command_reads command_elements op_named
  find_whole terms ids read sound =
      let slots = Some part.Op ∷ Some (part.Filter terms) ∷ Some (part.Ids ids) ∷ [] in
      record {
        named = refl;
        laid = record {
          slots = slots;
          laid = written_laid (command_reads op.Find fields) (spell fields (codes "find")) (command_rows op.Find) slots (refl, (refl, (refl, tt)))
              (refl, (terms_reads terms read, (ids_reads ids, tt)));
          built_of = refl;
        };
        sound = record {
          apart = (refl, (refl, (refl, tt)));
          each = (
            (known_name (codes "op") refl, text_sound 99 (codes "find") (known_name (codes "find") refl)),
            ((known_name (codes "filter") refl, sound), ((known_name (codes "ids") refl, flag_sound 99 ids), tt)),
          );
        };
      }

  pub update_whole : (terms : List SentTerm) (set : List (ℕ × SentCell)) → filter_reads fields (codes "filter") (filter_value fields terms) ≡ Ok terms
      → set_of fields (cell_elements fields set) ≡ Ok set → IsSound 99 (filter_value fields terms) → IsSound 99 (p.Doc (cell_elements fields set))
      → IsWhole fields (c.Update terms set) op.Update
  unfolding command_reads command_elements op_named
  update_whole terms set read set_read sound set_sound =
      let slots = Some part.Op ∷ Some (part.Filter terms) ∷ Some (part.Set set) ∷ [] in
      record {
        named = refl;
        laid = record {
          slots = slots;
          laid = written_laid (command_reads op.Update fields) (spell fields (codes "update")) (command_rows op.Update) slots (refl, (refl, (refl, tt)))
              (refl, (terms_reads terms read, (set_reads set set_read, tt)));
          built_of = refl;
        };
        sound = record {
          apart = (refl, (refl, (refl, tt)));
          each = (
            (known_name (codes "op") refl, text_sound 99 (codes "update") (known_name (codes "update") refl)),
            ((known_name (codes "filter") refl, sound), ((known_name (codes "set") refl, set_sound), tt)),
          );
        };
      }

  pub delete_whole : (terms : List SentTerm) → filter_reads fields (codes "filter") (filter_value fields terms) ≡ Ok terms
      → IsSound 99 (filter_value fields terms) → IsWhole fields (c.Delete terms) op.Delete
  unfolding command_reads command_elements op_named
  delete_whole terms read sound =
      let slots = Some part.Op ∷ Some (part.Filter terms) ∷ [] in
      record {
        named = refl;
        laid = record {
          slots = slots;
          laid = written_laid (command_reads op.Delete fields) (spell fields (codes "delete")) (command_rows op.Delete) slots (refl, (refl, tt)) (refl, (terms_reads terms read, tt));
          built_of = refl;
        };
        sound = record {
          apart = (refl, (refl, tt));
          each = ((known_name (codes "op") refl, text_sound 99 (codes "delete") (known_name (codes "delete") refl)), ((known_name (codes "filter") refl, sound), tt));
        };
      }

  kind_sound : (kind : JobKind) → IsSound 99 (p.Str (kind_name kind))
  kind_sound Compact = text_sound 99 (codes "compact") (known_name (codes "compact") refl)
  kind_sound Cleanup = text_sound 99 (codes "cleanup") (known_name (codes "cleanup") refl)

  pub begin_whole : (kind : JobKind) (tokens : List FieldToken) → tokens_of fields (token_elements fields tokens) ≡ Ok tokens
      → IsSound 99 (p.Doc (token_elements fields tokens)) → IsWhole fields (c.Begin kind tokens) op.Begin
  unfolding command_reads command_elements op_named
  begin_whole kind tokens read sound =
      let slots = Some part.Op ∷ Some (part.Kind kind) ∷ Some (part.Tokens tokens) ∷ [] in
      record {
        named = refl;
        laid = record {
          slots = slots;
          laid = written_laid (command_reads op.Begin fields) (spell fields (codes "begin")) (command_rows op.Begin) slots (refl, (refl, (refl, tt)))
              (refl, (kinds_reads kind, (token_reads tokens read, tt)));
          built_of = refl;
        };
        sound = record {
          apart = (refl, (refl, (refl, tt)));
          each = (
            (known_name (codes "op") refl, text_sound 99 (codes "begin") (known_name (codes "begin") refl)),
            ((known_name (codes "kind") refl, kind_sound kind), ((known_name (codes "tokens") refl, sound), tt)),
          );
        };
      }

  number_sound : (n : ℕ) → n < 2 ^ 63 → IsSound 99 (p.Int64 (pos n))
  number_sound n small = int64_sound 99 (pos n) (omega (arith, ints, small))

  pub step_whole : (job limit : ℕ) → job < 2 ^ 63 → 1 ≤ limit → limit ≤ 65536 → IsWhole fields (c.Step job limit) op.Step
  unfolding command_reads command_elements op_named
  step_whole job limit small some few =
      let slots = Some part.Op ∷ Some (part.Number job) ∷ Some (part.Limit limit) ∷ [] in
      let fits : FitsSigned w32 (pos limit) = omega (arith, ints, few) in
      record {
        named = refl;
        laid = record {
          slots = slots;
          laid = written_laid (command_reads op.Step fields) (spell fields (codes "step")) (command_rows op.Step) slots (refl, (refl, (refl, tt)))
              (refl, (job_reads job, (limits_reads limit (reaches (pos 1) (pos limit) (omega (arith, ints, some))) (reaches (pos limit) (pos 65536) (omega (arith, ints, few))), tt)));
          built_of = refl;
        };
        sound = record {
          apart = (refl, (refl, (refl, tt)));
          each = (
            (known_name (codes "op") refl, text_sound 99 (codes "step") (known_name (codes "step") refl)),
            ((known_name (codes "job") refl, number_sound job small), ((known_name (codes "limit") refl, int32_sound 99 (pos limit) fits), tt)),
          );
        };
      }

  pub end_whole : (job : ℕ) → job < 2 ^ 63 → IsWhole fields (c.End job) op.End
  unfolding command_reads command_elements op_named
  end_whole job small =
      let slots = Some part.Op ∷ Some (part.Number job) ∷ [] in
      record {
        named = refl;
        laid = record {
          slots = slots;
          laid = written_laid (command_reads op.End fields) (spell fields (codes "end")) (command_rows op.End) slots (refl, (refl, tt)) (refl, (job_reads job, tt));
          built_of = refl;
        };
        sound = record {
          apart = (refl, (refl, tt));
          each = ((known_name (codes "op") refl, text_sound 99 (codes "end") (known_name (codes "end") refl)), ((known_name (codes "job") refl, number_sound job small), tt));
        };
      }

  pub abandon_whole : (job : ℕ) → job < 2 ^ 63 → IsWhole fields (c.Abandon job) op.Abandon
  unfolding command_reads command_elements op_named
  abandon_whole job small =
      let slots = Some part.Op ∷ Some (part.Number job) ∷ [] in
      record {
        named = refl;
        laid = record {
          slots = slots;
          laid = written_laid (command_reads op.Abandon fields) (spell fields (codes "abandon")) (command_rows op.Abandon) slots (refl, (refl, tt)) (refl, (job_reads job, tt));
          built_of = refl;
        };
        sound = record {
          apart = (refl, (refl, tt));
          each = ((known_name (codes "op") refl, text_sound 99 (codes "abandon") (known_name (codes "abandon") refl)), ((known_name (codes "job") refl, number_sound job small), tt));
        };
      }

  module _ (schema : IsSchema fields) where
    pub raise_whole : (number contention : ℕ) (field : Field) → slice_get fields number ≡ Some field → is_encrypted field.kind ≡ true → contention < 2 ^ 63
        → IsWhole fields (c.Raise number contention) op.Raise
    unfolding command_reads command_elements op_named
    raise_whole number contention field there encrypted small =
        let slots = Some part.Op ∷ Some (part.Field number) ∷ Some (part.Number contention) ∷ [] in
        let name : field.path ≡ path_of fields number = sym (ap path_or_none there) in
        let is : known fields (path_of fields number) ≡ Some (number, field.kind) = ap (known fields) (sym name) ∙ field_known fields schema number field there in
        let path = subst IsSoundName name (field_path fields schema number field there).sound in
        record {
          named = refl;
          laid = record {
            slots = slots;
            laid = written_laid (command_reads op.Raise fields) (spell fields (codes "raise")) (command_rows op.Raise) slots (refl, (refl, (refl, tt)))
                (refl, (path_reads number (number, field.kind) is refl encrypted, (contention_reads contention, tt)));
            built_of = refl;
          };
          sound = record {
            apart = (refl, (refl, (refl, tt)));
            each = (
              (known_name (codes "op") refl, text_sound 99 (codes "raise") (known_name (codes "raise") refl)),
              ((known_name (codes "field") refl, text_sound 99 (path_of fields number) path), ((known_name (codes "contention") refl, number_sound contention small), tt)),
            );
          };
        }

  pub raise_within : (number contention : ℕ) (field : Field) → slice_get fields number ≡ Some field → contention ≤ greatest_of field.kind
      → within fields (c.Raise number contention) ≡ Ok (c.Raise number contention)
  raise_within number contention field there few =
      let greatest : greatest_at fields number ≡ greatest_of field.kind = ap greatest_in there in
      cond-false (nat_lt (greatest_at fields number) contention) (wrong (codes "contention") (ContentionAbove contention (greatest_at fields number))) (Ok (c.Raise number contention))
      (le-ltb (greatest_at fields number) contention (omega (arith, greatest, few)))
