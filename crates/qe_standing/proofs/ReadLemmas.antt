-- What is stored can be read, whether labels clash or not: so each reply means something.
use Rattle.std.proofs.Common.{◌≡◌, ℕ, List, [], ◌∷◌, ◌++◌, map, length, Bool, true, false, Option, None, Some, if◌then◌else◌, refl, sym, subst, arith}
use Rattle.std.specs.Prelude.{◌==◌, filter, nat_le}
use Rattle.std.specs.Bool.{MatchBool}
use Rattle.std.specs.List.{AllZip, list_any}
use Rattle.std.proofs.lemmas.Bool.{cond_both}
use Rattle.qe_base.specs.declared.maintenance.Count.{Count}
use Rattle.qe_base.specs.declared.maintenance.JobKind.{JobKind}
use Rattle.qe_tokens.specs.declared.words.FieldToken.{FieldToken}
use Rattle.qe_value.specs.declared.value.Value.{Value}
use Rattle.qe_plain.specs.Collection.{with_set}
use Rattle.qe_plain.specs.declared.command.PlainCell.{PlainCell}
use Rattle.qe_plain.specs.declared.command.PlainCommand.{PlainCommand}
use Rattle.qe_plain.specs.declared.command.PlainCommand.TheVariants as p
use Rattle.qe_plain.specs.declared.command.PlainDocument.{PlainDocument}
use Rattle.qe_plain.specs.declared.command.PlainReply.TheVariants as answer
use Rattle.qe_store.specs.declared.stored.Cell.{Cell}
use Rattle.qe_store.specs.declared.stored.Stored.{Stored}
use Rattle.qe_command.specs.declared.cells.SentCell.{SentCell}
use Rattle.qe_command.specs.declared.command.Command.{Command}
use Rattle.qe_command.specs.declared.command.Command.TheVariants as c
use Rattle.qe_command.specs.Nonces.{nonces_of}
use Rattle.qe_command_document.specs.CommandDocument.{Fits}
use Rattle.qe_command_document.specs.Values.{value_of}
use Rattle.qe_command_fits.proofs.FittingLemmas.{fitting_laws}
use Rattle.qe_command_written.proofs.CellLemmas.{tree_again}
use Rattle.qe_protocol.specs.declared.journal.JournalEntry.{JournalEntry}
use Rattle.qe_protocol.specs.declared.reply.Reply.{Reply}
use Rattle.qe_protocol.specs.declared.reply.Reply.TheVariants as r
use Rattle.qe_protocol.specs.declared.row.Row.{Row}
use Rattle.qe_protocol.specs.Contention.{current_of, refusal}
use Rattle.qe_protocol.specs.Documents.{change_first, document_of, drop_first, has_document, with_cells}
use Rattle.qe_protocol.specs.Filters.{filter_rest, matches}
use Rattle.qe_protocol.specs.Indexing.{AllowedCells, index_cells}
use Rattle.qe_protocol.specs.Jobs.{begin_beside, begin_with, end_running, first_missing, on_job, step_done, step_units, will_be_aside}
use Rattle.qe_protocol.specs.Journal.{IsLegal, IsLegalFrom, done, opening, state_from, state_of}
use Rattle.qe_protocol.specs.Laws.{AreLong}
use Rattle.qe_protocol.specs.Next.{AllowedCounts, AllowedServed, AllowedUnless, deleted, find_reply, inserted, next, row_of, served, sets_for, unless_refused, updated}
use Rattle.qe_protocol.specs.State.{Done, Job, State, answered, left_of}
use Rattle.qe_protocol.specs.Units.{UnitsDone}
use Rattle.qe_protocol.proofs.JournalLemmas.{grows_by_entries}
use Rattle.qe_protocol.proofs.KeptLemmas.{abandon-keeps, begin-keeps, end-keeps, step-keeps}
use Rattle.qe_protocol.proofs.RefusalLemmas.{IsOther, refusal-other}
use Rattle.qe_labels.specs.Under.{Under}
use Rattle.qe_encodes.specs.Callers.{Callers, Contentions, callers_next, opening_callers}
use Rattle.qe_encodes.specs.Decodes.{Decodes, DecodesCell}
use Rattle.qe_encodes.specs.Encoded.{EncodedFrom}
use Rattle.qe_encodes.specs.Encodes.{Encodes}
use Rattle.qe_encodes.specs.Fields.{IsUnder}
use Rattle.qe_encodes.specs.Meant.{IsMeant}
use Rattle.qe_standing.specs.Laws.{AreMeant, AreRead, IsRead, MeansSomething, RepliesAreRead}
use Rattle.qe_standing.proofs.CellsLemmas.{cells_decode}
use Rattle.qe_standing.proofs.DocumentLemmas.{puts_zip}
use Rattle.qe_standing.proofs.ServeLemmas.{are_meant}

module _ (u : Under) where
  read_joined : (xs ys : List Stored) → AreRead u xs → AreRead u ys → AreRead u (xs ++ ys)
  read_joined [] ys first second = second
  read_joined (x ∷ xs) ys first second = (first.0, read_joined xs ys first.1 second)

  set_read : (set : List (ℕ × Cell)) (news : List PlainCell) → AllZip (DecodesCell u) set news → (stored : Stored) → IsRead u stored → IsRead u (with_cells set stored)
  set_read set news decode stored was = record {
    document = with_set news was.document;
    decodes = record {
      id = was.decodes.id;
      cells = puts_zip (DecodesCell u) (λ cell one is. is.field) stored.cells was.document.cells set news was.decodes.cells decode;
    };
  }

  changed_read : (test : Stored → Bool) (set : List (ℕ × Cell)) (news : List PlainCell) → AllZip (DecodesCell u) set news → (docs : List Stored) → AreRead u docs
      → AreRead u (change_first test (with_cells set) docs)
  changed_read test set news decode [] was = tt
  changed_read test set news decode (stored ∷ docs) was =
      cond_both (test stored) (with_cells set stored ∷ docs) (stored ∷ change_first test (with_cells set) docs) (AreRead u)
      (λ _. (set_read set news decode stored was.0, was.1)) (λ _. (was.0, changed_read test set news decode docs was.1))

  dropped_read : (test : Stored → Bool) (docs : List Stored) → AreRead u docs → AreRead u (drop_first test docs)
  dropped_read test [] was = tt
  dropped_read test (stored ∷ docs) was =
      cond_both (test stored) docs (stored ∷ drop_first test docs) (AreRead u) (λ _. was.1) (λ _. (was.0, dropped_read test docs was.1))

  -- a command that is sent for a plain one stores what can be read
  module _ (is : IsUnder u) (leaves : Bool) (contentions : Contentions) (state : State) (was : AreRead u state.docs) (nonces : List (List ℕ)) (long : AreLong nonces)
      (counts : List Count) where
    abbrev Read : Done → Type 0
    Read done = AreRead u done.state.docs

    unless_read : (refused : Option Reply) (done : Done) → (refused ≡ None → Read done) → Read (unless_refused state refused done)
    unless_read None done read = read refl
    unless_read (Some reply) done read = was

    abbrev InsertRead : Value → List (ℕ × SentCell) → Bool → Type 0
    InsertRead id cells b = MatchBool b (counts ≡ []) (AllowedCells state.index cells nonces counts)
        → Read (if b then answered state r.DuplicateId else inserted state id (index_cells state.index cells nonces counts))

    insert_read : (document : PlainDocument) (cells : List (ℕ × SentCell)) → AreMeant u leaves contentions document.cells cells → length nonces ≡ nonces_of (c.Insert (value_of document.id) cells)
        → (b : Bool) → InsertRead (value_of document.id) cells b
    insert_read document cells are many true allowed = was
    insert_read document cells are many false allowed =
        let decode = cells_decode u is leaves contentions document.cells cells are state.index nonces counts long (omega (arith, many)) allowed in
        read_joined state.docs (document_of (value_of document.id) (index_cells state.index cells nonces counts).cells ∷ []) was
        (record { document = document; decodes = record { id = sym (tree_again document.id); cells = decode } }, tt)

    abbrev UpdateRead : (Stored → Bool) → List (ℕ × SentCell) → List Count → Bool → Type 0
    UpdateRead test cells rest b = MatchBool b (AllowedCells state.index cells nonces rest) (rest ≡ [])
        → AreRead u (if b then change_first test (with_cells (index_cells state.index cells nonces rest).cells) state.docs else state.docs)

    update_read : (set : List PlainCell) (cells : List (ℕ × SentCell)) → AreMeant u leaves contentions set cells → length nonces ≡ nonces_of (c.Update [] cells)
        → (test : Stored → Bool) (rest : List Count) (b : Bool) → UpdateRead test cells rest b
    update_read set cells are many test rest true allowed =
        changed_read test (index_cells state.index cells nonces rest).cells set
        (cells_decode u is leaves contentions set cells are state.index nonces rest long (omega (arith, many)) allowed) state.docs was
    update_read set cells are many test rest false allowed = was

    served_allowed : (command : Command) → AllowedCounts state command nonces counts → refusal state.current command ≡ None → AllowedServed state command nonces counts
    served_allowed command allowed none = subst (λ (x : Option Reply). AllowedUnless x counts (AllowedServed state command nonces counts)) none allowed

    if_docs : (b : Bool) (one other : Done) → (if b then one else other).state.docs ≡ (if b then one.state.docs else other.state.docs)
    if_docs true one other = refl
    if_docs false one other = refl

    next_read : (plain : PlainCommand) (command : Command) → IsMeant u.schema plain → Encodes u leaves contentions plain command → Fits u.schema command
        → length nonces ≡ nonces_of command → AllowedCounts state command nonces counts → Read (next state command nonces counts)
    next_read (p.Insert document) (c.Insert id cells) meant encodes fits many allowed =
        let cells_fit = (fitting_laws u.schema (c.Insert id cells) is.schema fits).of_schema.1 in
        let are = are_meant u is leaves contentions document.cells cells encodes.1 meant.resolved.cells meant.spelled.1 cells_fit in
        unless_read (refusal state.current (c.Insert id cells)) (served state (c.Insert id cells) nonces counts)
        (λ none. subst (λ (x : Value). InsertRead x cells (has_document x state.docs)) (sym encodes.0)
        (insert_read document cells are many (has_document (value_of document.id) state.docs)) (served_allowed (c.Insert id cells) allowed none))
    next_read (p.Find terms ids) (c.Find filter only) meant encodes fits many allowed =
        unless_read (refusal state.current (c.Find filter only)) (served state (c.Find filter only) nonces counts) (λ _. was)
    next_read (p.Update terms set) (c.Update filter cells) meant encodes fits many allowed =
        let cells_fit = (fitting_laws u.schema (c.Update filter cells) is.schema fits).of_schema.1 in
        let are = are_meant u is leaves contentions set cells encodes.1 meant.resolved.1 meant.spelled.1 cells_fit in
        let test = matches (sets_for state filter counts) in
        let rest = filter_rest filter counts in
        let made = index_cells state.index cells nonces rest in
        unless_read (refusal state.current (c.Update filter cells)) (served state (c.Update filter cells) nonces counts)
        (λ none. subst (AreRead u) (sym (if_docs (list_any test state.docs) (updated state (sets_for state filter counts) made) (answered state (r.Updated 0))))
        (update_read set cells are many test rest (list_any test state.docs) (served_allowed (c.Update filter cells) allowed none).1))
    next_read (p.Delete terms) (c.Delete filter) meant encodes fits many allowed =
        let test = matches (sets_for state filter counts) in
        unless_read (refusal state.current (c.Delete filter)) (served state (c.Delete filter) nonces counts)
        (λ _. cond_both (list_any test state.docs) (deleted state (sets_for state filter counts)) (answered state (r.Deleted 0)) Read
        (λ _. dropped_read test state.docs was) (λ _. was))
    next_read (p.Begin kind pairs) (c.Begin sent tokens) meant encodes fits many allowed = subst (AreRead u) (sym (begin-keeps state sent tokens).docs) was
    next_read (p.Step job limit) (c.Step asked most) meant encodes fits many allowed = subst (AreRead u) (sym (step-keeps state asked nonces counts).docs) was
    next_read (p.End job) (c.End asked) meant encodes fits many allowed = subst (AreRead u) (sym (end-keeps state asked).docs) was
    next_read (p.Abandon job) (c.Abandon asked) meant encodes fits many allowed = subst (AreRead u) (sym (abandon-keeps state asked).docs) was
    next_read (p.Raise field asked) (c.Raise named to) meant encodes fits many allowed =
        cond_both (nat_le to (current_of state.current named)) _ _ Read (λ _. was) (λ _. was)
    next_read plain command meant encodes fits many allowed = absurd encodes

-- ---- replies
module _ (u : Under) where
  -- rows of which each decodes decode together
  record AreRows (rows : List Row) : Type 0 where
    documents : List PlainDocument
    decode : AllZip (Decodes u) rows documents

  found_rows : (test : Stored → Bool) (docs : List Stored) → AreRead u docs → AreRows (map row_of (filter test docs))
  found_rows test [] was = record { documents = []; decode = tt }
  found_rows test (stored ∷ docs) was =
      let rest = found_rows test docs was.1 in
      cond_both (test stored) (stored ∷ filter test docs) (filter test docs) (λ found. AreRows (map row_of found))
      (λ _. record { documents = was.0.document ∷ rest.documents; decode = (was.0.decodes, rest.decode) }) (λ _. rest)

  -- a reply's documents, where it has any, decode
  IsReadable : Reply → Type 0
  IsReadable (r.Found rows) = AreRows rows
  IsReadable _ = Unit {0}

  module _ (state : State) (was : AreRead u state.docs) where
    abbrev Readable : Done → Type 0
    Readable done = IsReadable done.reply

    begin_readable : (kind : JobKind) (tokens : List FieldToken) (missing : Option ℕ) → Readable (begin_with kind tokens state missing)
    unfolding IsReadable
    begin_readable kind tokens (Some field) = tt
    begin_readable kind tokens None = tt

    beside_readable : (kind : JobKind) (tokens : List FieldToken) (job : Option Job) → Readable (begin_beside kind tokens state job)
    unfolding IsReadable
    beside_readable kind tokens (Some job) = tt
    beside_readable kind tokens None = begin_readable kind tokens (first_missing tokens (will_be_aside state))

    job_readable : (asked : ℕ) (job : Option Job) (go : Job → Done) → ((job : Job) → Readable (go job)) → Readable (on_job state asked job go)
    unfolding IsReadable
    job_readable asked None go each = tt
    job_readable asked (Some job) go each = cond_both (job.number == asked) _ _ Readable (λ _. each job) (λ _. tt)

    step_readable : (job : Job) (done : UnitsDone) (mismatch : Option ℕ) → Readable (step_done state job done mismatch)
    unfolding IsReadable
    step_readable job done (Some field) = tt
    step_readable job done None = tt

    end_readable : (job : Job) → Readable (end_running state job)
    unfolding IsReadable
    end_readable job = cond_both (left_of state.jobs == 0) _ _ Readable (λ _. tt) (λ _. tt)

    find_readable : (test : Stored → Bool) (ids : Bool) → IsReadable (find_reply ids (filter test state.docs))
    unfolding IsReadable
    find_readable test true = tt
    find_readable test false = found_rows test state.docs was

    served_readable : (command : Command) (nonces : List (List ℕ)) (counts : List Count) → Readable (served state command nonces counts)
    unfolding IsReadable
    served_readable (c.Insert id cells) nonces counts = cond_both (has_document id state.docs) _ _ Readable (λ _. tt) (λ _. tt)
    served_readable (c.Find terms ids) nonces counts = find_readable (matches (sets_for state terms counts)) ids
    served_readable (c.Update terms set) nonces counts = cond_both (list_any (matches (sets_for state terms counts)) state.docs) _ _ Readable (λ _. tt) (λ _. tt)
    served_readable (c.Delete terms) nonces counts = cond_both (list_any (matches (sets_for state terms counts)) state.docs) _ _ Readable (λ _. tt) (λ _. tt)
    served_readable (c.Begin kind tokens) nonces counts = beside_readable kind tokens state.jobs.job
    served_readable (c.Step job limit) nonces counts =
        job_readable job state.jobs.job _ (λ running. let done = step_units state running nonces counts in step_readable running done done.mismatch)
    served_readable (c.End job) nonces counts = job_readable job state.jobs.job _ end_readable
    served_readable (c.Abandon job) nonces counts = job_readable job state.jobs.job _ (λ running. tt)
    served_readable (c.Raise field contention) nonces counts = cond_both (nat_le contention (current_of state.current field)) _ _ Readable (λ _. tt) (λ _. tt)

    unless_readable : (refused : Option Reply) (done : Done) → IsOther IsReadable refused → Readable done → Readable (unless_refused state refused done)
    unless_readable None done other readable = readable
    unless_readable (Some reply) done other readable = other

    pub next_readable : (command : Command) (nonces : List (List ℕ)) (counts : List Count) → MeansSomething u (next state command nonces counts).reply
    unfolding IsReadable
    next_readable command nonces counts =
        means (next state command nonces counts).reply
        (unless_readable (refusal state.current command) (served state command nonces counts)
        (refusal-other IsReadable (λ _ _ _. tt) (λ _ _ _. tt) state.current command) (served_readable command nonces counts))
      where
        means : (reply : Reply) → IsReadable reply → MeansSomething u reply
        means (r.Found rows) are = record { plain = answer.Found are.documents; answers = record { documents = are.documents; decode = are.decode; is = refl } }
        means r.Inserted are = record { plain = answer.Inserted; answers = refl }
        means r.DuplicateId are = record { plain = answer.DuplicateId; answers = refl }
        means (r.Updated count) are = record { plain = answer.Updated count; answers = refl }
        means (r.Deleted count) are = record { plain = answer.Deleted count; answers = refl }
        means (r.Ids ids) are = record { plain = answer.Ids ids; answers = refl }
        means (r.Begun job) are = record { plain = answer.Begun job; answers = refl }
        means (r.Stepped left) are = record { plain = answer.Stepped left; answers = refl }
        means (r.Ended leaves) are = record { plain = answer.Ended leaves; answers = refl }
        means r.Abandoned are = record { plain = answer.Abandoned; answers = refl }
        means (r.JobRunning job) are = record { plain = answer.JobRunning job; answers = refl }
        means (r.NoJob asked running) are = record { plain = answer.NoJob asked running; answers = refl }
        means (r.TokenMissing field) are = record { plain = answer.TokenMissing field; answers = refl }
        means (r.TokenMismatch field) are = record { plain = answer.TokenMismatch field; answers = refl }
        means (r.NotDone left) are = record { plain = answer.NotDone left; answers = refl }
        means (r.Raised to) are = record { plain = answer.Raised to; answers = refl }
        means (r.NotRaised asked current) are = record { plain = answer.NotRaised asked current; answers = refl }
        means (r.ContentionBelow field got current) are = record { plain = answer.ContentionBelow field got current; answers = refl }
        means (r.ContentionOver field got current) are = record { plain = answer.ContentionOver field got current; answers = refl }

  -- ---- journals
  module _ (is : IsUnder u) where
    journal_read : (callers : Callers) (plains : List PlainCommand) (entries : List JournalEntry) (state : State) → IsLegalFrom u.schema state entries
        → EncodedFrom u callers plains entries → AreRead u state.docs → AreRead u (state_from state entries).docs
    unfolding done
    journal_read callers [] [] state legal encoded was = was
    journal_read callers [] (entry ∷ entries) state legal encoded was = absurd encoded
    journal_read callers (plain ∷ plains) [] state legal encoded was = absurd encoded
    journal_read callers (plain ∷ plains) (entry ∷ entries) state legal encoded was =
        let one = encoded.0 in
        let now = next_read u is one.leaves (callers entry.caller).contentions state was entry.nonces one.nonces entry.counts plain entry.command one.meant one.encodes
        legal.0.fits legal.0.nonces legal.0.counts in
        journal_read (callers_next callers entry.caller plain entry.outcome) plains entries (done state entry).state legal.1 encoded.1 now

    -- the front of a journal of encoded commands
    record IsFront (callers : Callers) (entries : List JournalEntry) : Type 0 where
      plains : List PlainCommand
      encoded : EncodedFrom u callers plains entries

    front_of : (callers : Callers) (plains : List PlainCommand) (entries : List JournalEntry) (entry : JournalEntry)
        → EncodedFrom u callers plains (entries ++ entry ∷ []) → IsFront callers entries
    front_of callers plains [] entry encoded = record { plains = []; encoded = tt }
    front_of callers [] (e ∷ entries) entry encoded = absurd encoded
    front_of callers (plain ∷ plains) (e ∷ entries) entry encoded =
        let rest = front_of (callers_next callers e.caller plain e.outcome) plains entries entry encoded.1 in
        record { plains = plain ∷ rest.plains; encoded = (encoded.0, rest.encoded) }

    pub replies_are_read : RepliesAreRead u
    unfolding state_of IsLegal done
    replies_are_read = record {
      stored = λ plains journal encoded. journal_read (opening_callers u.schema) plains journal (opening u.schema) encoded.legal encoded.encoded tt;
      last = λ plains journal entry encoded.
          let front = front_of (opening_callers u.schema) plains journal entry encoded.encoded in
          let was = journal_read (opening_callers u.schema) front.plains journal (opening u.schema)
          ((grows_by_entries u.schema).before journal entry encoded.legal) front.encoded tt in
          next_readable (state_from (opening u.schema) journal) was entry.command entry.nonces entry.counts;
    }
