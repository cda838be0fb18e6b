-- What a sender sends for a plain command that fits is a command that fits the schema.
use Rattle.std.proofs.Common.{◌≡◌, ℕ, ◌≤◌, Bool, true, false, List, length, Ok, refl, sym, subst, arith}
use Rattle.std.specs.Prelude.{All, codes}
use Rattle.std.specs.List.{AllByRecursion, AllZip, list_any}
use Rattle.qe_value.specs.declared.value.Plain.{Plain}
use Rattle.qe_value.specs.declared.value.Plain.TheVariants as v
use Rattle.qe_value.specs.Measures.{value_length}
use Rattle.qe_value.specs.Spelling.{document_bytes}
use Rattle.qe_value.specs.Views.{plain}
use Rattle.qe_encode.proofs.SizeLemmas.{document_lengths, value_length-Doc}
use Rattle.qe_tokens.specs.declared.words.FieldToken.{FieldToken}
use Rattle.qe_base.specs.declared.maintenance.JobKind.{JobKind}
use Rattle.qe_field.specs.declared.field.Field.{Field}
use Rattle.qe_field.specs.declared.field.FieldKind.{FieldKind}
use Rattle.qe_field.specs.declared.field.FieldKind.TheVariants as k
use Rattle.qe_field.specs.Lookup.{greatest_of}
use Rattle.qe_field.specs.Schema.{IsField, IsKind, IsSchema}
use Rattle.qe_field.specs.Values.{is_id}
use Rattle.qe_plain.specs.declared.command.Pair.{Pair}
use Rattle.qe_plain.specs.declared.command.PlainCell.{PlainCell}
use Rattle.qe_plain.specs.declared.command.PlainCommand.{PlainCommand}
use Rattle.qe_plain.specs.declared.command.PlainCommand.TheVariants as p
use Rattle.qe_plain.specs.declared.command.Term.{Term}
use Rattle.qe_fits.specs.declared.part.Part.TheVariants as part
use Rattle.qe_fits.specs.Fits.{fits, is_bad_cell}
use Rattle.qe_schema.specs.Resolved.{AreCells, ArePairs, IsCell, IsPair, IsResolved, IsTerm}
use Rattle.qe_sending.specs.Sendable.{AreWithin}
use Rattle.qe_command.specs.declared.cells.SentCell.{SentCell}
use Rattle.qe_command.specs.declared.command.Command.{Command}
use Rattle.qe_command.specs.declared.command.Command.TheVariants as c
use Rattle.qe_command.specs.declared.filter.SentTerm.{SentTerm}
use Rattle.qe_command_document.specs.declared.part.Op.TheVariants as op
use Rattle.qe_command_document.specs.CellDocuments.{id_name, set_of}
use Rattle.qe_command_document.specs.CommandDocument.{Fits}
use Rattle.qe_command_document.specs.FilterArrays.{filter_reads}
use Rattle.qe_command_document.specs.Values.{value_of}
use Rattle.qe_command_written.specs.Written.{cell_elements, command_elements, doc_elements, filter_value, token_elements}
use Rattle.qe_labels.specs.Under.{Under}
use Rattle.qe_encodes.specs.Callers.{Caller, Contentions}
use Rattle.qe_encodes.specs.Encodes.{SendsCell}
use Rattle.qe_encodes.specs.Fields.{IsKeyed}
use Rattle.qe_encodes.specs.Payloads.{sent_filter, sent_tokens}
use Rattle.qe_encodes.specs.Sending.{Sender, command_of}
use Rattle.qe_encodes.proofs.SendingLemmas.{command_encodes}
use Rattle.qe_held.specs.Held.{AreHeldCells, AreHeldTokens, IsHeldCell, IsHeldCommand, IsHeldTerm, IsHeldValue, IsToken}
use Rattle.qe_held.proofs.AllLemmas.{all_each}
use Rattle.qe_held.proofs.NameLemmas.{known_name}
use Rattle.qe_held.proofs.SoundLemmas.{IsSound, document_sound}
use Rattle.qe_sent_fits.specs.Covers.{HasShortCover, HasShortCovers}
use Rattle.qe_sent_fits.specs.Sent.{IsSentFor}
use Rattle.qe_sent_fits.proofs.CellReads.{cells_read, cells_rise, doc_again, set_again, tokens_again, tokens_read, tokens_rise}
use Rattle.qe_sent_fits.proofs.CellSound.{cells_sound, tokens_sound}
use Rattle.qe_sent_fits.proofs.CommandReads.{IsWhole, abandon_whole, begin_whole, delete_whole, end_whole, find_whole, insert_whole, raise_whole, raise_within, step_whole, update_whole, whole_fits}
use Rattle.qe_sent_fits.proofs.CountedLemmas.{all_there, encodes_short}
use Rattle.qe_sent_fits.proofs.FitLemmas.{IsFitting, each_good, fitting, job_small, none_bad}
use Rattle.qe_sent_fits.proofs.PartLemmas.{cells_short, document_parts, terms_few, terms_short}
use Rattle.qe_sent_fits.proofs.TermReads.{filter_again, filter_sound, id_sound, terms_read}

-- a filter is read again, and may stand in a command's document
record IsReadFilter (fields : List Field) (terms : List SentTerm) : Type 0 where
  read : filter_reads fields (codes "filter") (filter_value fields terms) ≡ Ok terms
  sound : IsSound 99 (filter_value fields terms)

-- .. and so is a set
record IsReadSet (fields : List Field) (cells : List (ℕ × SentCell)) : Type 0 where
  read : set_of fields (cell_elements fields cells) ≡ Ok cells
  sound : IsSound 99 (v.Doc (cell_elements fields cells))

module _ (u : Under) (leaves : Bool) (contentions : Contentions) (schema : IsSchema u.schema) (keyed : All (λ field. IsKeyed field.kind) u.schema)
    (limited : AreWithin u.schema contentions) where
  filter_read : (terms : List Term) → All (IsTerm u.schema) terms → All (HasShortCover u.schema) terms → All IsHeldTerm (sent_filter u contentions terms 0)
      → value_length (filter_value u.schema (sent_filter u contentions terms 0)) ≤ 16777216 → IsReadFilter u.schema (sent_filter u contentions terms 0)
  filter_read terms are covers held short =
      let sents = sent_filter u contentions terms 0 in
      let each = terms_read u contentions schema limited terms 0 (all_each (IsTerm u.schema) terms are) (all_each (HasShortCover u.schema) terms covers)
      (all_each IsHeldTerm sents held) (terms_short u.schema sents 16777216 short) in
      record {
        read = filter_again u.schema (codes "filter") sents each;
        sound = filter_sound u.schema sents (terms_few u.schema sents 16777216 short) each;
      }

  module _ (cells : List PlainCell) (sents : List (ℕ × SentCell)) (are : AreCells u.schema cells) (sends : AllZip (SendsCell u leaves contentions) cells sents)
      (good : list_any (is_bad_cell u.schema) cells ≡ false) (held : AreHeldCells sents) where
    held_each : AllByRecursion (λ one. IsHeldCell one.1) sents
    held_each = all_each (λ (one : ℕ × SentCell). IsHeldCell one.1) sents held

    set_read : value_length (v.Doc (cell_elements u.schema sents)) ≤ 16777216 → IsReadSet u.schema sents
    set_read short =
        let each = all_each (IsCell u.schema) cells are.each in
        let shorts = cells_short u.schema sents 16777216 (document_parts (cell_elements u.schema sents) 16777216 short) in
        let again = set_again u.schema schema sents (cells_rise u leaves contentions schema keyed limited cells sents are sends)
        (cells_read u leaves contentions schema keyed limited cells sents each sends held_each shorts) in
        record {
          read = again.1;
          sound = document_sound 98 (cell_elements u.schema sents) (record {
            apart = again.0;
            each = cells_sound u leaves contentions schema cells sents each sends held_each (each_good (is_bad_cell u.schema) cells good);
          });
        }

    inserted : (id : Plain) → is_id id ≡ true → IsHeldValue (plain (value_of id)) → value_length (v.Doc (doc_elements u.schema (value_of id) sents)) ≤ 16777216
        → IsWhole u.schema (c.Insert (value_of id) sents) op.Insert
    inserted id is held_id short =
        let each = all_each (IsCell u.schema) cells are.each in
        let shorts = cells_short u.schema sents 16777216 (document_parts (doc_elements u.schema (value_of id) sents) 16777216 short).1 in
        let again = doc_again u.schema schema id sents is (cells_rise u leaves contentions schema keyed limited cells sents are sends)
        (cells_read u leaves contentions schema keyed limited cells sents each sends held_each shorts) in
        insert_whole u.schema (value_of id) sents again.1 (document_sound 98 (doc_elements u.schema (value_of id) sents) (record {
          apart = again.0;
          each = (
            (known_name id_name refl, id_sound 98 id is held_id),
            cells_sound u leaves contentions schema cells sents each sends held_each (each_good (is_bad_cell u.schema) cells good),
          );
        }))

  begun : (kind : JobKind) (pairs : List Pair) → ArePairs u.schema pairs → AreHeldTokens (sent_tokens u pairs)
      → IsWhole u.schema (c.Begin kind (sent_tokens u pairs)) op.Begin
  begun kind pairs are held =
      let sents = sent_tokens u pairs in
      let each = all_each (IsPair u.schema) pairs are.each in
      let held_each = all_each (λ (token : FieldToken). IsToken token.token.0) sents held in
      let again = tokens_again u.schema schema sents (tokens_rise u leaves contentions schema keyed limited pairs are)
      (tokens_read u leaves contentions schema keyed limited pairs each) in
      begin_whole u.schema kind sents again.1
      (document_sound 98 (token_elements u.schema sents) (record { apart = again.0; each = tokens_sound u leaves contentions schema pairs each held_each }))

greatest_small : (kind : FieldKind) → IsKind kind → greatest_of kind ≤ 1000
greatest_small k.Plain is = omega arith
greatest_small (k.Equality id kind contention greatest) is = is.1.small
greatest_small (k.Range id kind contention greatest domain) is = is.2.small

module _ (sender : Sender) (caller : Caller) (schema : IsSchema sender.under.schema) (keyed : All (λ field. IsKeyed field.kind) sender.under.schema)
    (limited : AreWithin sender.under.schema caller.contentions) where
  abbrev Short : PlainCommand → Type 0
  Short given = length (document_bytes (command_elements sender.under.schema (command_of sender caller given))) ≤ 16777216

  abbrev HasShortParts : PlainCommand → Type 0
  HasShortParts given = AllByRecursion (λ e. value_length e.1 ≤ 16777216) (command_elements sender.under.schema (command_of sender caller given))

  short : (given : PlainCommand) → IsResolved sender.under.schema given → IsFitting sender.under.schema given → Short given
  short given resolved fit =
      let few = encodes_short sender.under sender.leaves caller.contentions keyed given (command_of sender caller given) resolved (command_encodes sender caller given) in
      omega (arith, few, fit.counted)

  parts : (given : PlainCommand) → Short given → HasShortParts given
  parts given few =
      let elements = command_elements sender.under.schema (command_of sender caller given) in
      document_parts elements 16777216 (omega (arith, few, document_lengths elements, value_length-Doc elements))

  abbrev FilterRead : List Term → Type 0
  FilterRead terms = IsReadFilter sender.under.schema (sent_filter sender.under caller.contentions terms 0)

  whole : (given : PlainCommand) → IsResolved sender.under.schema given → IsFitting sender.under.schema given → HasShortCovers sender.under.schema given
      → IsHeldCommand (command_of sender caller given) → Short given → HasShortParts given → Fits sender.under.schema (command_of sender caller given)
  unfolding command_of command_elements
  whole (p.Insert document) resolved fit covers held few each =
      let sends = command_encodes sender caller (p.Insert document) in
      let good = none_bad part.Doc (list_any (is_bad_cell sender.under.schema) document.cells) fit.good in
      whole_fits sender.under.schema _ op.Insert
      (inserted sender.under sender.leaves caller.contentions schema keyed limited document.cells _ resolved.cells sends.1 good held.1 document.id resolved.id held.0 each.1.0)
      refl few
  whole (p.Find terms ids) resolved fit covers held few each =
      let read : FilterRead terms = filter_read sender.under sender.leaves caller.contentions schema keyed limited terms resolved covers held each.1.0 in
      whole_fits sender.under.schema _ op.Find (find_whole sender.under.schema _ ids read.read read.sound) refl few
  whole (p.Update terms set) resolved fit covers held few each =
      let sends = command_encodes sender caller (p.Update terms set) in
      let good = none_bad part.Set (list_any (is_bad_cell sender.under.schema) set) fit.good in
      let read : FilterRead terms = filter_read sender.under sender.leaves caller.contentions schema keyed limited terms resolved.0 covers held.0 each.1.0 in
      let cells = set_read sender.under sender.leaves caller.contentions schema keyed limited set _ resolved.1 sends.1 good held.1 each.1.1.0 in
      whole_fits sender.under.schema _ op.Update (update_whole sender.under.schema _ _ read.read cells.read read.sound cells.sound) refl few
  whole (p.Delete terms) resolved fit covers held few each =
      let read : FilterRead terms = filter_read sender.under sender.leaves caller.contentions schema keyed limited terms resolved covers held each.1.0 in
      whole_fits sender.under.schema _ op.Delete (delete_whole sender.under.schema _ read.read read.sound) refl few
  whole (p.Begin kind pairs) resolved fit covers held few each =
      whole_fits sender.under.schema _ op.Begin (begun sender.under sender.leaves caller.contentions schema keyed limited kind pairs resolved held) refl few
  whole (p.Step job limit) resolved fit covers held few each =
      whole_fits sender.under.schema (c.Step job limit) op.Step (step_whole sender.under.schema job limit (job_small job fit.job) resolved.0 resolved.1) refl few
  whole (p.End job) resolved fit covers held few each =
      whole_fits sender.under.schema (c.End job) op.End (end_whole sender.under.schema job (job_small job fit.job)) refl few
  whole (p.Abandon job) resolved fit covers held few each =
      whole_fits sender.under.schema (c.Abandon job) op.Abandon (abandon_whole sender.under.schema job (job_small job fit.job)) refl few
  whole (p.Raise number contention) resolved fit covers held few each =
      let greatest = greatest_small resolved.field.kind (all_there IsField sender.under.schema number resolved.field schema.each resolved.there).kind in
      let most = resolved.allows.1 in
      whole_fits sender.under.schema (c.Raise number contention) op.Raise
      (raise_whole sender.under.schema schema number contention resolved.field resolved.there resolved.allows.0 (omega (arith, greatest, most)))
      (raise_within sender.under.schema number contention resolved.field resolved.there most) few

  pub sender_fits : (given : PlainCommand) → IsResolved sender.under.schema given → fits sender.under.schema given ≡ true → HasShortCovers sender.under.schema given
      → IsHeldCommand (command_of sender caller given) → Fits sender.under.schema (command_of sender caller given)
  sender_fits given resolved fit covers held =
      let fitted = fitting sender.under.schema given fit in
      let few = short given resolved fitted in
      whole given resolved fitted covers held few (parts given few)

pub sent_fits : (fields : List Field) (given : PlainCommand) (command : Command) → IsSentFor fields given command → IsSchema fields → All (λ field. IsKeyed field.kind) fields
    → HasShortCovers fields given → IsHeldCommand command → Fits fields command
sent_fits fields given command is schema keyed covers held =
    let back = sym is.schema in
    let fits_own = sender_fits is.sender is.caller (subst IsSchema back schema) (subst (λ fs. All (λ (f : Field). IsKeyed f.kind) fs) back keyed)
    (subst (λ fs. AreWithin fs is.caller.contentions) back is.within) given (subst (λ fs. IsResolved fs given) back is.resolved)
    (subst (λ fs. fits fs given ≡ true) back is.fit) (subst (λ fs. HasShortCovers fs given) back covers) (subst IsHeldCommand is.is held) in
    subst (λ made. Fits fields made) (sym is.is) (subst (λ fs. Fits fs (command_of is.sender is.caller given)) is.schema fits_own)
