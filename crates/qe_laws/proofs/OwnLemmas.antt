-- Where each begin sends each field's own token, rows are opened with it, and no step meets a mismatch.
use Rattle.std.proofs.Common.{◌≡◌, ℕ, Bool, true, false, List, [], ◌∷◌, ◌++◌, Option, None, Some, refl, sym, ap, ◌∙◌, subst, inl, inr, ⊎_elim}
use Rattle.std.specs.Prelude.{◌==◌, nat_le}
use Rattle.std.specs.FinMap.{empty}
use Rattle.std.specs.List.{AllByRecursion, list_any}
use Rattle.std.proofs.lemmas.Bool.{cases_Bool, cond-false, cond-true, cond_both, eqb-true, or_cases}
use Rattle.qe_base.specs.declared.maintenance.Count.{Count}
use Rattle.qe_base.specs.declared.maintenance.JobKind.{JobKind}
use Rattle.qe_base.specs.declared.maintenance.JobKind.TheVariants as kinds
use Rattle.qe_tokens.specs.declared.words.FieldToken.{FieldToken}
use Rattle.qe_ecoc.specs.declared.rows.Entry.{Entry}
use Rattle.qe_plain.specs.declared.command.Pair.{Pair}
use Rattle.qe_plain.specs.declared.command.PlainCommand.{PlainCommand}
use Rattle.qe_plain.specs.declared.command.PlainCommand.TheVariants as p
use Rattle.qe_plain.specs.declared.command.PlainDocument.{PlainDocument}
use Rattle.qe_command.specs.declared.command.Command.{Command}
use Rattle.qe_command.specs.declared.command.Command.TheVariants as c
use Rattle.qe_protocol.specs.declared.journal.JournalEntry.{JournalEntry}
use Rattle.qe_protocol.specs.declared.reply.Outcome.{Outcome}
use Rattle.qe_protocol.specs.declared.reply.Reply.{Reply}
use Rattle.qe_protocol.specs.declared.reply.Reply.TheVariants as r
use Rattle.qe_protocol.specs.Contention.{current_of, refusal}
use Rattle.qe_protocol.specs.Documents.{has_document}
use Rattle.qe_protocol.specs.Filters.{matches}
use Rattle.qe_protocol.specs.Jobs.{begin_beside, begin_with, begun, end_running, first_missing, fresh, has_token, is_parked, on_job, resumed, step_done, step_units, will_be_aside, without_job, work_of}
use Rattle.qe_protocol.specs.Journal.{IsLegal, IsLegalFrom, done, opening}
use Rattle.qe_protocol.specs.Next.{next, served, sets_for, unless_refused}
use Rattle.qe_protocol.specs.State.{Done, Job, State, answered, left_of}
use Rattle.qe_protocol.specs.Units.{UnitsDone, Work, captured_done, doomed_done, is_mismatch, row_done, stopped, token_for, unit_then, units, with_opened}
use Rattle.qe_labels.specs.Laws.{IsFree}
use Rattle.qe_labels.specs.Numbers.{Numbers}
use Rattle.qe_labels.specs.Under.{Under, root_of}
use Rattle.qe_labels.proofs.NumberLemmas.{free_before}
use Rattle.qe_relation.specs.Steps.{HasRightToken, TellsMismatch}
use Rattle.qe_encodes.specs.Callers.{Callers, Contentions, callers_next, opening_callers}
use Rattle.qe_encodes.specs.Counted.{numbers_from, numbers_of, numbers_with, opened_by, opened_in}
use Rattle.qe_encodes.specs.Encoded.{EncodedFrom}
use Rattle.qe_encodes.specs.Encodes.{Encodes}
use Rattle.qe_encodes.specs.Fields.{IsUnder}
use Rattle.qe_encodes.specs.Payloads.{ecoc_token, sent_tokens}
use Rattle.qe_laws.specs.Entries.{OwnTokensServe, SendsOwnTokens, mismatch_in}
use Rattle.qe_laws.specs.Journals.{EntryKept, IsNow, KeepsEntries}
use Rattle.qe_laws.proofs.JournalLemmas.{later_from, opening_now}
use Rattle.qe_laws.proofs.MismatchLemmas.{entry_tells}

module _ (u : Under) where
  abbrev AreRight : List FieldToken → List Entry → Type 0
  AreRight tokens rows = AllByRecursion (HasRightToken (root_of u) tokens) rows

  -- a job that runs was begun with the tokens of the rows aside
  abbrev JobIsRight : Option Job → List Entry → Type 0
  JobIsRight None aside = Unit {0}
  JobIsRight (Some job) aside = AreRight job.tokens aside

  abbrev IsRight : State → Type 0
  IsRight state = JobIsRight state.jobs.job state.jobs.aside

  -- ---- tokens that were sent
  own_token : (field : ℕ) (pairs : List Pair) → AllByRecursion (λ (pair : Pair). pair.sent ≡ pair.field) pairs → has_token (sent_tokens u pairs) field ≡ true
      → token_for (sent_tokens u pairs) field ≡ ecoc_token u field
  own_token field [] own has = cc
  own_token field (pair ∷ pairs) own has = elim (cases_Bool (pair.field == field)) [
    | inl here ↦
        let same : pair.field ≡ field = eqb-true pair.field field here in
        cond-true (pair.field == field) (ecoc_token u pair.sent) (token_for (sent_tokens u pairs) field) here ∙ ap (ecoc_token u) (own.0 ∙ same)
    | inr apart ↦
        cond-false (pair.field == field) (ecoc_token u pair.sent) (token_for (sent_tokens u pairs) field) apart
        ∙ own_token field pairs own.1 (elim (or_cases (pair.field == field) (has_token (sent_tokens u pairs) field) has) [
          | inl here ↦ cc
          | inr later ↦ later
        ])
  ]

  tokens_right : (pairs : List Pair) → AllByRecursion (λ (pair : Pair). pair.sent ≡ pair.field) pairs → (rows : List Entry) → first_missing (sent_tokens u pairs) rows ≡ None
      → AreRight (sent_tokens u pairs) rows
  tokens_right pairs own [] none = tt
  tokens_right pairs own (row ∷ rows) none =
      let tokens = sent_tokens u pairs in
      cond_both (has_token tokens row.field) (first_missing tokens rows) (Some row.field) (λ (o : Option ℕ). o ≡ None → AreRight tokens (row ∷ rows))
      (λ has rest. (own_token row.field pairs own has, tokens_right pairs own rows rest)) (λ _ missing. absurd (cc)) none

  -- ---- a begin
  module _ (state : State) (kind : JobKind) (tokens : List FieldToken) (right : (rows : List Entry) → first_missing tokens rows ≡ None → AreRight tokens rows) where
    begun_right : first_missing tokens (will_be_aside state) ≡ None → IsRight (begun kind tokens state)
    begun_right none =
        ⊎_elim
        (λ (parked : is_parked state.jobs ≡ true).
        let aside : will_be_aside state ≡ state.jobs.aside = cond-true (is_parked state.jobs) state.jobs.aside state.index.ecoc parked in
        subst IsRight (sym (cond-true (is_parked state.jobs) (resumed kind tokens state) (fresh kind tokens state) parked))
        (right state.jobs.aside (ap (first_missing tokens) (sym aside) ∙ none)))
        (λ (clear : is_parked state.jobs ≡ false).
        let aside : will_be_aside state ≡ state.index.ecoc = cond-false (is_parked state.jobs) state.jobs.aside state.index.ecoc clear in
        subst IsRight (sym (cond-false (is_parked state.jobs) (resumed kind tokens state) (fresh kind tokens state) clear))
        (right state.index.ecoc (ap (first_missing tokens) (sym aside) ∙ none)))
        (cases_Bool (is_parked state.jobs))

    with_right : IsRight state → (missing : Option ℕ) → first_missing tokens (will_be_aside state) ≡ missing → IsRight (begin_with kind tokens state missing).state
    with_right was (Some field) is = was
    with_right was None is = begun_right is

    begin_right : IsRight state → (job : Option Job) → IsRight (begin_beside kind tokens state job).state
    begin_right was (Some job) = was
    begin_right was None = with_right was (first_missing tokens (will_be_aside state)) refl

  -- ---- units
  record UnitsRight (tokens : List FieldToken) (done : UnitsDone) : Type 0 where
    aside : AreRight tokens done.work.aside
    opened : AreRight tokens done.opened

  row_aside : (kind : JobKind) (tokens : List FieldToken) (nonce : List ℕ) (work : Work) (row : Entry) (rest : List Entry) (count : Count)
      → (row_done kind tokens nonce work row rest count).aside ≡ rest
  row_aside kinds.Compact tokens nonce work row rest count = refl
  row_aside kinds.Cleanup tokens nonce work row rest count = refl

  module _ (kind : JobKind) (tokens : List FieldToken) where
    right_by : (nonce : List ℕ) (nonces : List (List ℕ))
        → ((work : Work) (counts : List Count) → AreRight tokens work.aside → UnitsRight tokens (units kind tokens nonces work counts))
        → (rows : List Entry) (doomed captured : List (List ℕ)) (work : Work) (counts : List Count) → work.aside ≡ rows → AreRight tokens work.aside
        → UnitsRight tokens (unit_then (units kind tokens nonces) kind tokens nonce rows doomed captured work counts)
    right_by nonce nonces more (row ∷ rest) doomed captured work [] is right = record { aside = right; opened = tt }
    right_by nonce nonces more (row ∷ rest) doomed captured work (count ∷ counts) is right =
        let rows : AreRight tokens (row ∷ rest) = subst (AreRight tokens) is right in
        let after = row_done kind tokens nonce work row rest count in
        cond_both (is_mismatch work.rows count) (stopped work (Some row.field) (row ∷ []) counts) (with_opened row (units kind tokens nonces after counts)) (UnitsRight tokens)
        (λ _. record { aside = right; opened = (rows.0, tt) })
        (λ _.
        let last = more after counts (subst (AreRight tokens) (sym (row_aside kind tokens nonce work row rest count)) rows.1) in
        record { aside = last.aside; opened = (rows.0, last.opened) })
    right_by nonce nonces more [] (id ∷ rest) captured work counts is right = more (doomed_done work id rest) counts right
    right_by nonce nonces more [] [] (id ∷ rest) work counts is right = more (captured_done work id rest) counts right
    right_by nonce nonces more [] [] [] work counts is right = record { aside = right; opened = tt }

    units_right : (nonces : List (List ℕ)) (work : Work) (counts : List Count) → AreRight tokens work.aside → UnitsRight tokens (units kind tokens nonces work counts)
    units_right [] work counts right = record { aside = right; opened = tt }
    units_right (nonce ∷ nonces) work counts right =
        right_by nonce nonces (units_right nonces) work.aside work.doomed work.captured work counts refl right

  -- ---- commands
  module _ (state : State) (was : IsRight state) where
    on_right : (asked : ℕ) (go : Job → Done) (running : Option Job) → state.jobs.job ≡ running → ((job : Job) → state.jobs.job ≡ Some job → IsRight (go job).state)
        → IsRight (on_job state asked running go).state
    on_right asked go None is each = was
    on_right asked go (Some job) is each =
        cond_both (job.number == asked) (go job) (answered state (r.NoJob asked job.number)) (λ done. IsRight done.state) (λ _. each job is) (λ _. was)

    job_aside : (job : Job) → state.jobs.job ≡ Some job → AreRight job.tokens state.jobs.aside
    job_aside job is = subst (λ (running : Option Job). JobIsRight running state.jobs.aside) is was

    done_right : (job : Job) (done : UnitsDone) (mismatch : Option ℕ) → AreRight job.tokens done.work.aside → IsRight (step_done state job done mismatch).state
    done_right job done (Some field) right = tt
    done_right job done None right = right

    step_right : (nonces : List (List ℕ)) (counts : List Count) (job : Job) → state.jobs.job ≡ Some job
        → UnitsRight job.tokens (step_units state job nonces counts)
    step_right nonces counts job is = units_right job.kind job.tokens nonces (work_of state job) counts (job_aside job is)

    served_right : (leaves : Bool) (contentions : Contentions) (plain : PlainCommand) (command : Command) (nonces : List (List ℕ)) (counts : List Count)
        → Encodes u leaves contentions plain command → SendsOwnTokens plain → IsRight (served state command nonces counts).state
    served_right leaves contentions plain (c.Insert id cells) nonces counts encodes own =
        cond_both (has_document id state.docs) _ _ (λ (done : Done). IsRight done.state) (λ _. was) (λ _. was)
    served_right leaves contentions plain (c.Find terms ids) nonces counts encodes own = was
    served_right leaves contentions plain (c.Update terms set) nonces counts encodes own =
        cond_both (list_any (matches (sets_for state terms counts)) state.docs) _ _ (λ (done : Done). IsRight done.state) (λ _. was) (λ _. was)
    served_right leaves contentions plain (c.Delete terms) nonces counts encodes own =
        cond_both (list_any (matches (sets_for state terms counts)) state.docs) _ _ (λ (done : Done). IsRight done.state) (λ _. was) (λ _. was)
    served_right leaves contentions (p.Begin kind pairs) (c.Begin sort tokens) nonces counts encodes own =
        begin_right state sort tokens
        (subst (λ (ts : List FieldToken). (rows : List Entry) → first_missing ts rows ≡ None → AreRight ts rows) (sym encodes.1) (tokens_right pairs own)) was state.jobs.job
    served_right leaves contentions plain (c.Begin sort tokens) nonces counts encodes own = absurd encodes
    served_right leaves contentions plain (c.Step asked limit) nonces counts encodes own =
        on_right asked (λ job. let done = step_units state job nonces counts in step_done state job done done.mismatch) state.jobs.job refl
        (λ job is. done_right job (step_units state job nonces counts) (step_units state job nonces counts).mismatch (step_right nonces counts job is).aside)
    served_right leaves contentions plain (c.End asked) nonces counts encodes own =
        on_right asked (end_running state) state.jobs.job refl
        (λ job is. cond_both (left_of state.jobs == 0) (answered (without_job state) (r.Ended job.leaves)) (answered state (r.NotDone (left_of state.jobs)))
        (λ (done : Done). IsRight done.state) (λ _. tt) (λ _. was))
    served_right leaves contentions plain (c.Abandon asked) nonces counts encodes own =
        on_right asked (λ job. answered (without_job state) r.Abandoned) state.jobs.job refl (λ job is. tt)
    served_right leaves contentions plain (c.Raise field asked) nonces counts encodes own =
        cond_both (nat_le asked (current_of state.current field)) _ _ (λ (done : Done). IsRight done.state) (λ _. was) (λ _. was)

    unless_right : (refused : Option Reply) (done : Done) → IsRight done.state → IsRight (unless_refused state refused done).state
    unless_right None done right = right
    unless_right (Some reply) done right = was

    next_right : (leaves : Bool) (contentions : Contentions) (plain : PlainCommand) (command : Command) (nonces : List (List ℕ)) (counts : List Count)
        → Encodes u leaves contentions plain command → SendsOwnTokens plain → IsRight (next state command nonces counts).state
    next_right leaves contentions plain command nonces counts encodes own =
        unless_right (refusal state.current command) (served state command nonces counts) (served_right leaves contentions plain command nonces counts encodes own)

    -- what a step opens has its field's token
    opened_right : (asked : ℕ) (nonces : List (List ℕ)) (counts : List Count) (running : Option Job) → state.jobs.job ≡ running
        → AreRight (opened_by state asked nonces counts running).0 (opened_by state asked nonces counts running).1
    opened_right asked nonces counts None is = tt
    opened_right asked nonces counts (Some job) is =
        cond_both (job.number == asked) (job.tokens, (step_units state job nonces counts).opened) ([], []) (λ (q : List FieldToken × List Entry). AreRight q.0 q.1)
        (λ _. (step_right nonces counts job is).opened) (λ _. tt)

    in_right : (command : Command) (nonces : List (List ℕ)) (counts : List Count)
        → AreRight (opened_in state command nonces counts).0 (opened_in state command nonces counts).1
    in_right (c.Step asked limit) nonces counts = opened_right asked nonces counts state.jobs.job refl
    in_right (c.Insert id cells) nonces counts = tt
    in_right (c.Find terms ids) nonces counts = tt
    in_right (c.Update terms set) nonces counts = tt
    in_right (c.Delete terms) nonces counts = tt
    in_right (c.Begin kind tokens) nonces counts = tt
    in_right (c.End asked) nonces counts = tt
    in_right (c.Abandon asked) nonces counts = tt
    in_right (c.Raise field asked) nonces counts = tt

  -- rows that all have their field's token tell no mismatch
  last_right : (tokens : List FieldToken) (front : List Entry) (row : Entry) → AreRight tokens (front ++ row ∷ []) → HasRightToken (root_of u) tokens row
  last_right tokens [] row right = right.0
  last_right tokens (one ∷ front) row right = last_right tokens front row right.1

  no_mismatch : (tokens : List FieldToken) (mismatch : Option ℕ) (rows : List Entry) → AreRight tokens rows → TellsMismatch (root_of u) tokens mismatch rows → mismatch ≡ None
  no_mismatch tokens None rows right tells = refl
  no_mismatch tokens (Some field) rows right tells =
      absurd (tells.wrong (last_right tokens tells.front tells.row (subst (AreRight tokens) tells.is right)))

  -- ---- journals
  module _ (is : IsUnder u) (keep : KeepsEntries u) where
    own_from : (plains : List PlainCommand) (entries : List JournalEntry) (numbers : Numbers) (state : State) (callers : Callers) (documents : List PlainDocument)
        → IsNow u numbers state callers documents → IsRight state → EncodedFrom u callers plains entries → IsLegalFrom u.schema state entries
        → IsFree (root_of u) (numbers_from u state numbers plains entries) → AllByRecursion SendsOwnTokens plains
        → AllByRecursion (λ (entry : JournalEntry). mismatch_in entry.outcome ≡ None) entries
    unfolding done
    own_from plains [] numbers state callers documents now right encoded legal free own = tt
    own_from [] (entry ∷ entries) numbers state callers documents now right encoded legal free own = absurd encoded
    own_from (plain ∷ plains) (entry ∷ entries) numbers state callers documents now right encoded legal free own =
        let next_numbers = numbers_with u state plain entry numbers in
        let after_state = (done state entry).state in
        let contentions : Contentions = (callers entry.caller).contentions in
        let free_next = free_before (root_of u) next_numbers (numbers_from u after_state next_numbers plains entries) (later_from u plains entries after_state next_numbers) free in
        let kept : EntryKept u numbers state callers documents plain entry = keep numbers state callers documents plain entry now encoded.0 legal.0 free_next in
        let opened = opened_in state entry.command entry.nonces entry.counts in
        let tells = entry_tells u is numbers state documents now.stands now.strays entry.nonces encoded.0.nonces entry.counts entry.outcome encoded.0.leaves contentions plain entry.command
        encoded.0.encodes legal.0.counts free_next in
        let told : TellsMismatch (root_of u) opened.0 (mismatch_in entry.outcome) opened.1 =
        subst (λ (x : Outcome). TellsMismatch (root_of u) opened.0 (mismatch_in x) opened.1) (sym legal.0.outcome) tells in (
          no_mismatch opened.0 (mismatch_in entry.outcome) opened.1 (in_right state right entry.command entry.nonces entry.counts) told,
          own_from plains entries next_numbers after_state (callers_next callers entry.caller plain entry.outcome) kept.later kept.now
              (next_right state right encoded.0.leaves contentions plain entry.command entry.nonces entry.counts encoded.0.encodes own.0) encoded.1 legal.1 free own.1,
        )

pub own_tokens_serve : ((u : Under) → IsUnder u → KeepsEntries u) → OwnTokensServe
unfolding numbers_of IsLegal
own_tokens_serve keeps u is plains journal encoded free own =
    own_from u is (keeps u is) plains journal empty (opening u.schema) (opening_callers u.schema) [] (opening_now u (keeps u is)) tt encoded.encoded encoded.legal free own
