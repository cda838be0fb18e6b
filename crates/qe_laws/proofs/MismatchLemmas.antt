-- A mismatch comes exactly of a row that is opened with another token than its field's.
use Rattle.std.proofs.Common.{◌≡◌, ℕ, Bool, true, false, List, [], ◌∷◌, ◌++◌, Option, None, Some, refl, sym, ap, subst, ⊎_elim}
use Rattle.std.specs.Prelude.{◌==◌, filter, nat_le}
use Rattle.std.specs.List.{AllByRecursion, list_any}
use Rattle.std.proofs.lemmas.Bool.{MatchBool-at_true, cases_Bool, cond-false, cond-true, cond_both}
use Rattle.qe_base.specs.declared.maintenance.Count.{Count}
use Rattle.qe_base.specs.declared.maintenance.JobKind.{JobKind}
use Rattle.qe_tokens.specs.declared.words.FieldToken.{FieldToken}
use Rattle.qe_tokens.specs.declared.words.Word.{Word}
use Rattle.qe_ecoc.specs.declared.rows.Entry.{Entry}
use Rattle.qe_plain.specs.declared.command.PlainCommand.{PlainCommand}
use Rattle.qe_plain.specs.declared.command.PlainCommand.TheVariants as p
use Rattle.qe_plain.specs.declared.command.PlainDocument.{PlainDocument}
use Rattle.qe_store.specs.declared.stored.Stored.{Stored}
use Rattle.qe_command.specs.declared.command.Command.{Command}
use Rattle.qe_command.specs.declared.command.Command.TheVariants as c
use Rattle.qe_protocol.specs.declared.reply.Outcome.{Outcome}
use Rattle.qe_protocol.specs.declared.reply.Reply.{Reply}
use Rattle.qe_protocol.specs.declared.reply.Reply.TheVariants as r
use Rattle.qe_protocol.specs.Contention.{current_of, refusal}
use Rattle.qe_protocol.specs.Documents.{has_document}
use Rattle.qe_protocol.specs.Filters.{matches}
use Rattle.qe_protocol.specs.Jobs.{AllowedOn, begin_beside, begin_with, end_running, first_missing, on_job, step_done, step_units, will_be_aside, work_of}
use Rattle.qe_protocol.specs.Journal.{done, state_of}
use Rattle.qe_protocol.specs.Laws.{AreLong}
use Rattle.qe_protocol.specs.Next.{AllowedCounts, find_reply, next, outcome_of, served, sets_for, unless_refused}
use Rattle.qe_protocol.specs.State.{Done, Job, State, answered, left_of}
use Rattle.qe_protocol.specs.Units.{AllowedUnits, UnitsDone}
use Rattle.qe_protocol.proofs.RefusalLemmas.{IsOther, refusal-other}
use Rattle.qe_labels.specs.Laws.{IsFree}
use Rattle.qe_labels.specs.Numbers.{Numbers, StraysAreZero, all_learned}
use Rattle.qe_labels.specs.Under.{Under, root_of}
use Rattle.qe_labels.proofs.NumberLemmas.{free_before}
use Rattle.qe_relation.specs.Steps.{IsOpenedKnown, TellsMismatch}
use Rattle.qe_relation.proofs.LawLemmas.{mismatches_at_strays}
use Rattle.qe_encodes.specs.Counted.{is_accepted, numbers_by, numbers_of, numbers_with, opened_by, opened_in, strays_of}
use Rattle.qe_encodes.specs.Encodes.{Encodes}
use Rattle.qe_encodes.specs.Fields.{IsUnder}
use Rattle.qe_standing.specs.Stands.{Stands}
use Rattle.qe_standing.proofs.ActLemmas.{learned_stand}
use Rattle.qe_standing.proofs.NumberLemmas.{all_known}
use Rattle.qe_laws.specs.Entries.{AtEachEntry, MismatchTells, mismatch_in}
use Rattle.qe_laws.specs.Journals.{KeepsEntries}
use Rattle.qe_laws.proofs.CommandLemmas.{either_same}
use Rattle.qe_laws.proofs.FrontLemmas.{IsReached, reached}
use Rattle.qe_laws.proofs.StrayLemmas.{opened_known, strays_all_learned}

-- ---- only steps answer mismatches
abbrev IsOtherReply : Reply → Type 0
IsOtherReply reply = mismatch_in (outcome_of reply) ≡ None

-- a command that is no step
abbrev IsNoStep : Command → Type 0
IsNoStep (c.Step asked limit) = ⊥
IsNoStep _ = Unit {0}

module _ (state : State) where
  abbrev Other : Done → Type 0
  Other done = IsOtherReply done.reply

  begin_other : (kind : JobKind) (tokens : List FieldToken) (missing : Option ℕ) → Other (begin_with kind tokens state missing)
  begin_other kind tokens (Some field) = refl
  begin_other kind tokens None = refl

  beside_other : (kind : JobKind) (tokens : List FieldToken) (job : Option Job) → Other (begin_beside kind tokens state job)
  beside_other kind tokens (Some job) = refl
  beside_other kind tokens None = begin_other kind tokens (first_missing tokens (will_be_aside state))

  job_other : (asked : ℕ) (job : Option Job) (go : Job → Done) → ((job : Job) → Other (go job)) → Other (on_job state asked job go)
  job_other asked None go each = refl
  job_other asked (Some job) go each = cond_both (job.number == asked) _ _ Other (λ _. each job) (λ _. refl)

  end_other : (job : Job) → Other (end_running state job)
  end_other job = cond_both (left_of state.jobs == 0) _ _ Other (λ _. refl) (λ _. refl)

  find_other : (ids : Bool) (found : List Stored) → IsOtherReply (find_reply ids found)
  find_other true found = refl
  find_other false found = refl

  served_other : (command : Command) (nonces : List (List ℕ)) (counts : List Count) → IsNoStep command → Other (served state command nonces counts)
  served_other (c.Insert id cells) nonces counts is = cond_both (has_document id state.docs) _ _ Other (λ _. refl) (λ _. refl)
  served_other (c.Find terms ids) nonces counts is = find_other ids (filter (matches (sets_for state terms counts)) state.docs)
  served_other (c.Update terms set) nonces counts is = cond_both (list_any (matches (sets_for state terms counts)) state.docs) _ _ Other (λ _. refl) (λ _. refl)
  served_other (c.Delete terms) nonces counts is = cond_both (list_any (matches (sets_for state terms counts)) state.docs) _ _ Other (λ _. refl) (λ _. refl)
  served_other (c.Begin kind tokens) nonces counts is = beside_other kind tokens state.jobs.job
  served_other (c.Step job limit) nonces counts is = absurd is
  served_other (c.End job) nonces counts is = job_other job state.jobs.job _ end_other
  served_other (c.Abandon job) nonces counts is = job_other job state.jobs.job _ (λ running. refl)
  served_other (c.Raise field contention) nonces counts is = cond_both (nat_le contention (current_of state.current field)) _ _ Other (λ _. refl) (λ _. refl)

  unless_other : (refused : Option Reply) (done : Done) → IsOther IsOtherReply refused → Other done → Other (unless_refused state refused done)
  unless_other None done other is = is
  unless_other (Some reply) done other is = other

  next_other : (command : Command) (nonces : List (List ℕ)) (counts : List Count) → IsNoStep command → Other (next state command nonces counts)
  next_other command nonces counts is =
      unless_other (refusal state.current command) (served state command nonces counts)
      (refusal-other IsOtherReply (λ _ _ _. refl) (λ _ _ _. refl) state.current command) (served_other command nonces counts is)

-- ---- a step tells of what it opened
module _ (u : Under) (is : IsUnder u) (numbers : Numbers) (state : State) (documents : List PlainDocument) (stands : Stands u numbers state documents)
    (strays : StraysAreZero numbers) (asked : ℕ) (nonces : List (List ℕ)) (long : AreLong nonces) (counts : List Count) where
  abbrev Tells : List FieldToken × List Entry → Done → Type 0
  Tells opened done = TellsMismatch (root_of u) opened.0 (mismatch_in (outcome_of done.reply)) opened.1

  mismatch_is : (job : Job) (done : UnitsDone) (mismatch : Option ℕ) → mismatch_in (outcome_of (step_done state job done mismatch).reply) ≡ mismatch
  mismatch_is job done None = refl
  mismatch_is job done (Some field) = refl

  abbrev strays_by : Option Job → List Word
  strays_by running = strays_of u (opened_by state asked nonces counts running).0 (opened_by state asked nonces counts running).1

  job_tells : (running : Option Job) → IsFree (root_of u) (all_learned numbers (strays_by running))
      → AllowedOn asked running counts (λ job. AllowedUnits job.kind job.tokens nonces (work_of state job) counts)
      → Tells (opened_by state asked nonces counts running)
      (on_job state asked running (λ job. let done = step_units state job nonces counts in step_done state job done done.mismatch))
  job_tells None free allowed = tt
  job_tells (Some job) free allowed =
      let done = step_units state job nonces counts in
      let full : List FieldToken × List Entry = (job.tokens, done.opened) in
      let nothing : List FieldToken × List Entry = ([], []) in
      let stepped = step_done state job done done.mismatch in
      let refused = answered state (r.NoJob asked job.number) in
      ⊎_elim
      (λ (asked_for : (job.number == asked) ≡ true).
      let pair = cond-true (job.number == asked) full nothing asked_for in
      let led = cond-true (job.number == asked) stepped refused asked_for in
      let words = strays_of u job.tokens done.opened in
      let last = all_learned numbers words in
      let free_last : IsFree (root_of u) last = subst (λ (q : List FieldToken × List Entry). IsFree (root_of u) (all_learned numbers (strays_of u q.0 q.1))) pair free in
      let first : Stands u last state documents = learned_stand u is state documents numbers words free_last stands in
      let known : AllByRecursion (IsOpenedKnown (root_of u) last job.tokens) done.opened =
      opened_known u last (strays_all_learned words numbers strays) job.tokens done.opened (all_known words numbers) in
      let tells = mismatches_at_strays (root_of u) last state.index.ecoc job.kind job.tokens nonces (work_of state job) counts free_last long first.index
      (MatchBool-at_true (AllowedUnits job.kind job.tokens nonces (work_of state job) counts) (counts ≡ []) asked_for allowed) known in
      let here : Tells full stepped = subst (λ (m : Option ℕ). TellsMismatch (root_of u) job.tokens m done.opened) (sym (mismatch_is job done done.mismatch)) tells in
      subst (λ (q : (List FieldToken × List Entry) × Done). Tells q.0 q.1) (λ i. (sym pair i, sym led i)) here)
      (λ (other : (job.number == asked) ≡ false).
      let pair = cond-false (job.number == asked) full nothing other in
      let led = cond-false (job.number == asked) stepped refused other in
      let here : Tells nothing refused = tt in
      subst (λ (q : (List FieldToken × List Entry) × Done). Tells q.0 q.1) (λ i. (sym pair i, sym led i)) here)
      (cases_Bool (job.number == asked))

-- ---- of each entry
module _ (u : Under) (is : IsUnder u) (numbers : Numbers) (state : State) (documents : List PlainDocument) (stands : Stands u numbers state documents)
    (strays : StraysAreZero numbers) (nonces : List (List ℕ)) (long : AreLong nonces) (counts : List Count) (outcome : Outcome) where
  abbrev EntryTells : Command → Type 0
  EntryTells command =
      let opened = opened_in state command nonces counts in
      TellsMismatch (root_of u) opened.0 (mismatch_in (outcome_of (next state command nonces counts).reply)) opened.1

  none_tells : (command : Command) → IsNoStep command → opened_in state command nonces counts ≡ ([], []) → EntryTells command
  none_tells command no_step opened =
      subst (λ (q : (List FieldToken × List Entry) × Option ℕ). TellsMismatch (root_of u) q.0.0 q.1 q.0.1)
      (λ i. (sym opened i, sym (next_other state command nonces counts no_step) i)) tt

  pub entry_tells : (leaves : Bool) (contentions : List ℕ) (plain : PlainCommand) (command : Command) → Encodes u leaves contentions plain command
      → AllowedCounts state command nonces counts → IsFree (root_of u) (numbers_by u state plain command nonces counts outcome numbers) → EntryTells command
  entry_tells leaves contentions plain (c.Insert id cells) encodes allowed free = none_tells (c.Insert id cells) tt refl
  entry_tells leaves contentions plain (c.Find terms ids) encodes allowed free = none_tells (c.Find terms ids) tt refl
  entry_tells leaves contentions plain (c.Update terms set) encodes allowed free = none_tells (c.Update terms set) tt refl
  entry_tells leaves contentions plain (c.Delete terms) encodes allowed free = none_tells (c.Delete terms) tt refl
  entry_tells leaves contentions plain (c.Begin kind tokens) encodes allowed free = none_tells (c.Begin kind tokens) tt refl
  entry_tells leaves contentions plain (c.End asked) encodes allowed free = none_tells (c.End asked) tt refl
  entry_tells leaves contentions plain (c.Abandon asked) encodes allowed free = none_tells (c.Abandon asked) tt refl
  entry_tells leaves contentions plain (c.Raise named asked) encodes allowed free = none_tells (c.Raise named asked) tt refl
  entry_tells leaves contentions (p.Step job limit) (c.Step asked most) encodes allowed free =
      let rows = opened_by state asked nonces counts state.jobs.job in
      let words = strays_of u rows.0 rows.1 in
      job_tells u is numbers state documents stands strays asked nonces long counts state.jobs.job
      (subst (IsFree (root_of u)) (ap (λ m. all_learned m words) (either_same (is_accepted outcome) numbers)) free) allowed
  entry_tells leaves contentions plain (c.Step asked most) encodes allowed free = absurd encodes

pub mismatch_tells : ((u : Under) → IsUnder u → KeepsEntries u) → AtEachEntry MismatchTells
unfolding done
mismatch_tells keeps u is earlier later plain front back entry many encoded free =
    let run = numbers_of u (earlier ++ plain ∷ later) (front ++ entry ∷ back) in
    let numbers = numbers_of u earlier front in
    let state = state_of u.schema front in
    let at : IsReached u numbers run state plain entry = reached u (keeps u is) earlier later plain front back entry many encoded free in
    let opened = opened_in state entry.command entry.nonces entry.counts in
    subst (λ (x : Outcome). TellsMismatch (root_of u) opened.0 (mismatch_in x) opened.1) (sym at.allowed.outcome)
    (entry_tells u is numbers state at.documents at.now.stands at.now.strays entry.nonces at.encoded.nonces entry.counts entry.outcome at.encoded.leaves
    (at.callers entry.caller).contentions plain entry.command at.encoded.encodes at.allowed.counts
    (free_before (root_of u) (numbers_with u state plain entry numbers) run at.later free))
