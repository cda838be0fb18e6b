-- Why contentions refuse: never a value, and a filter only after a raise.
use Rattle.std.proofs.Common.{◌≡◌, ◌≤◌, ◌<◌, ◌⊎◌, ℕ, List, [], ◌∷◌, ◌++◌, ◌+◌, length, Bool, true, false, Option, None, Some, if◌then◌else◌, refl, sym, ap, ◌∙◌, subst, arith, inl, inr}
use Rattle.std.specs.Prelude.{◌==◌, filter, map, nat_le, nat_lt, slice_set}
use Rattle.std.specs.List.{list_any}
use Rattle.std.proofs.lemmas.Bool.{cond_both, false≢true, leb-false, ltb-true}
use Rattle.std.proofs.lemmas.List.{append_assoc, append-nil}
use Rattle.std.proofs.lemmas.List.{length-map}
use Rattle.qe_base.specs.declared.maintenance.Count.{Count}
use Rattle.qe_base.specs.declared.maintenance.JobKind.{JobKind}
use Rattle.qe_tokens.specs.declared.words.FieldToken.{FieldToken}
use Rattle.qe_field.specs.declared.field.Field.{Field}
use Rattle.qe_field.specs.Schema.{IsSchema}
use Rattle.qe_plain.specs.declared.command.PlainCommand.{PlainCommand}
use Rattle.qe_plain.specs.declared.command.PlainCommand.TheVariants as p
use Rattle.qe_plain.specs.declared.command.Term.{Term}
use Rattle.qe_plain.specs.declared.command.Term.TheVariants as term
use Rattle.qe_command.specs.declared.command.Command.{Command}
use Rattle.qe_command.specs.declared.command.Command.TheVariants as c
use Rattle.qe_command.specs.declared.filter.SentTerm.{SentTerm}
use Rattle.qe_command_document.specs.CommandDocument.{Fits}
use Rattle.qe_command_fits.proofs.FittingLemmas.{fitting_laws}
use Rattle.qe_protocol.specs.declared.journal.JournalEntry.{JournalEntry}
use Rattle.qe_protocol.specs.declared.reply.Outcome.{Outcome}
use Rattle.qe_protocol.specs.declared.reply.Outcome.TheVariants as o
use Rattle.qe_protocol.specs.declared.reply.Reply.{Reply}
use Rattle.qe_protocol.specs.declared.reply.Reply.TheVariants as r
use Rattle.qe_protocol.specs.Contention.{below_at, cells_over, current_of, filter_below, or_else, raise, refusal, term_below}
use Rattle.qe_protocol.specs.Documents.{has_document}
use Rattle.qe_protocol.specs.Filters.{matches}
use Rattle.qe_protocol.specs.Jobs.{begin_beside, begin_with, end_running, first_missing, on_job, step_done, step_units, will_be_aside}
use Rattle.qe_protocol.specs.Journal.{IsLegal, IsLegalFrom, done, first_contention, opening}
use Rattle.qe_protocol.specs.Next.{next, outcome_of, served, sets_for, unless_refused}
use Rattle.qe_protocol.specs.State.{Done, Job, State, left_of}
use Rattle.qe_protocol.specs.Units.{UnitsDone}
use Rattle.qe_protocol.proofs.ContentionLemmas.{next-rises}
use Rattle.qe_labels.specs.Under.{Under}
use Rattle.qe_encodes.specs.Callers.{Caller, Callers, Contentions, caller_next, callers_next, contention_of, learned, opening_callers, raised_field, with_contention}
use Rattle.qe_encodes.specs.Encoded.{EncodedFrom}
use Rattle.qe_encodes.specs.Encodes.{Encodes}
use Rattle.qe_encodes.specs.Fields.{IsUnder}
use Rattle.qe_encodes.specs.Kept.{was_served}
use Rattle.qe_encodes.specs.Payloads.{sent_filter, sent_term}
use Rattle.qe_standing.specs.Laws.{HasRaise, IsRaisedBy, RefusalsHaveTheirCause}
use Rattle.qe_standing.specs.Stands.{AreWithin}
use Rattle.qe_standing.proofs.LimitLemmas.{IsTold, never_over, next_tells, put_cases, within_next}
use Rattle.qe_standing.proofs.ServeLemmas.{found_served, or_none}

raise_front : (before after : List JournalEntry) (field to : ℕ) → HasRaise before field to → HasRaise (before ++ after) field to
raise_front [] after field to there = absurd there
raise_front (entry ∷ before) after field to (inl is) = inl is
raise_front (entry ∷ before) after field to (inr later) = inr (raise_front before after field to later)

raise_last : (before : List JournalEntry) (entry : JournalEntry) (field to : ℕ) → IsRaisedBy entry field to → HasRaise (before ++ entry ∷ []) field to
raise_last [] entry field to is = inl is
raise_last (e ∷ before) entry field to is = inr (raise_last before entry field to is)

-- a served command's reply refuses by no contention
module _ (state : State) where
  abbrev Was : Done → Type 0
  Was done = was_served (outcome_of done.reply) ≡ true

  begin_was : (kind : JobKind) (tokens : List FieldToken) (missing : Option ℕ) → Was (begin_with kind tokens state missing)
  begin_was kind tokens (Some field) = refl
  begin_was kind tokens None = refl

  beside_was : (kind : JobKind) (tokens : List FieldToken) (job : Option Job) → Was (begin_beside kind tokens state job)
  beside_was kind tokens (Some job) = refl
  beside_was kind tokens None = begin_was kind tokens (first_missing tokens (will_be_aside state))

  job_was : (asked : ℕ) (job : Option Job) (go : Job → Done) → ((job : Job) → Was (go job)) → Was (on_job state asked job go)
  job_was asked None go each = refl
  job_was asked (Some job) go each = cond_both (job.number == asked) _ _ Was (λ _. each job) (λ _. refl)

  step_was : (job : Job) (done : UnitsDone) (mismatch : Option ℕ) → Was (step_done state job done mismatch)
  step_was job done (Some field) = refl
  step_was job done None = refl

  end_was : (job : Job) → Was (end_running state job)
  end_was job = cond_both (left_of state.jobs == 0) _ _ Was (λ _. refl) (λ _. refl)

  served_was : (command : Command) (nonces : List (List ℕ)) (counts : List Count) → Was (served state command nonces counts)
  served_was (c.Insert id cells) nonces counts = cond_both (has_document id state.docs) _ _ Was (λ _. refl) (λ _. refl)
  served_was (c.Find terms ids) nonces counts = found_served ids (filter (matches (sets_for state terms counts)) state.docs)
  served_was (c.Update terms set) nonces counts = cond_both (list_any (matches (sets_for state terms counts)) state.docs) _ _ Was (λ _. refl) (λ _. refl)
  served_was (c.Delete terms) nonces counts = cond_both (list_any (matches (sets_for state terms counts)) state.docs) _ _ Was (λ _. refl) (λ _. refl)
  served_was (c.Begin kind tokens) nonces counts = beside_was kind tokens state.jobs.job
  served_was (c.Step job limit) nonces counts =
      job_was job state.jobs.job _ (λ running. let done = step_units state running nonces counts in step_was running done done.mismatch)
  served_was (c.End job) nonces counts = job_was job state.jobs.job _ end_was
  served_was (c.Abandon job) nonces counts = job_was job state.jobs.job _ (λ running. refl)
  served_was (c.Raise field contention) nonces counts = cond_both (nat_le contention (current_of state.current field)) _ _ Was (λ _. refl) (λ _. refl)

-- a filter is refused by a term whose factors, the caller's, are below its field's current contention
abbrev IsShort : Contentions → List ℕ → Reply → Type 0
IsShort contentions current (r.ContentionBelow field got now) = (got ≡ contention_of contentions field) × ((now ≡ current_of current field) × (got < now))
IsShort contentions current _ = ⊥

abbrev IsShortIf : Contentions → List ℕ → Option Reply → Type 0
IsShortIf contentions current None = Unit {0}
IsShortIf contentions current (Some reply) = IsShort contentions current reply

module _ (u : Under) (contentions : Contentions) (current : List ℕ) where
  short_or : (one other : Option Reply) → IsShortIf contentions current one → IsShortIf contentions current other → IsShortIf contentions current (or_else one other)
  short_or None other first second = second
  short_or (Some reply) other first second = first

  short_field : (field : ℕ) → IsShortIf contentions current (below_at current field (contention_of contentions field))
  short_field field =
      let got = contention_of contentions field in
      cond_both (nat_lt got (current_of current field)) (Some (r.ContentionBelow field got (current_of current field))) None (IsShortIf contentions current)
      (λ less. (refl, (refl, ltb-true got (current_of current field) less))) (λ _. tt)

  short_term : (one : Term) (place : ℕ) → IsShortIf contentions current (term_below current (sent_term u contentions place one))
  short_term (term.Id id) place = tt
  short_term (term.Equal field value) place = short_field field
  short_term (term.Between field lo hi) place = short_field field

  short_filter : (terms : List Term) (place : ℕ) → IsShortIf contentions current (filter_below current (sent_filter u contentions terms place))
  short_filter [] place = tt
  short_filter (one ∷ terms) place =
      short_or (term_below current (sent_term u contentions place one)) (filter_below current (sent_filter u contentions terms (place + 1)))
      (short_term one place) (short_filter terms (place + 1))

  -- and so is a command that is sent
  module _ (leaves : Bool) (within : (field : ℕ) → contention_of contentions field ≤ current_of current field) where
    short_refusal : (plain : PlainCommand) (command : Command) → Encodes u leaves contentions plain command → IsShortIf contentions current (refusal current command)
    short_refusal (p.Insert document) (c.Insert id cells) encodes =
        subst (IsShortIf contentions current) (sym (never_over u leaves contentions current within document.cells cells encodes.1)) tt
    short_refusal (p.Find terms ids) (c.Find filter only) encodes =
        subst (λ (f : List SentTerm). IsShortIf contentions current (filter_below current f)) (sym encodes.0) (short_filter terms 0)
    short_refusal (p.Update terms set) (c.Update filter cells) encodes =
        let over = never_over u leaves contentions current within set cells encodes.1 in
        let alone : or_else (filter_below current filter) (cells_over current cells) ≡ filter_below current filter =
        ap (or_else (filter_below current filter)) over ∙ or_none (filter_below current filter) in
        subst (IsShortIf contentions current) (sym alone)
        (subst (λ (f : List SentTerm). IsShortIf contentions current (filter_below current f)) (sym encodes.0) (short_filter terms 0))
    short_refusal (p.Delete terms) (c.Delete filter) encodes =
        subst (λ (f : List SentTerm). IsShortIf contentions current (filter_below current f)) (sym encodes) (short_filter terms 0)
    short_refusal (p.Begin kind pairs) (c.Begin sent tokens) encodes = tt
    short_refusal (p.Step job limit) (c.Step asked most) encodes = tt
    short_refusal (p.End job) (c.End asked) encodes = tt
    short_refusal (p.Abandon job) (c.Abandon asked) encodes = tt
    short_refusal (p.Raise field asked) (c.Raise named to) encodes = tt
    short_refusal plain command encodes = absurd encodes

-- so a command that is sent is never refused as over, and as below only by the current contention
module _ (contentions : Contentions) (state : State) where
  unless_over : (refused : Option Reply) (other : Done) → IsShortIf contentions state.current refused → was_served (outcome_of other.reply) ≡ true
      → (field got now : ℕ) → outcome_of (unless_refused state refused other).reply ≡ o.ContentionOver field got now → ⊥
  unless_over None other short was field got now is = false≢true (sym (ap was_served is) ∙ was)
  unless_over (Some (r.ContentionBelow f g n)) other short was field got now is = cc
  unless_over (Some reply) other short was field got now is = absurd short

  unless_below : (refused : Option Reply) (other : Done) → IsShortIf contentions state.current refused → was_served (outcome_of other.reply) ≡ true
      → (field got now : ℕ) → outcome_of (unless_refused state refused other).reply ≡ o.ContentionBelow field got now
      → (got ≡ contention_of contentions field) × ((now ≡ current_of state.current field) × (got < now))
  unless_below None other short was field got now is = absurd (false≢true (sym (ap was_served is) ∙ was))
  unless_below (Some (r.ContentionBelow f g n)) other short was field got now is =
      let fields : f ≡ field = cc in
      let gots : g ≡ got = cc in
      let nows : n ≡ now = cc in
      subst (λ (x : ℕ × ℕ × ℕ). (x.1 ≡ contention_of contentions x.0) × ((x.2 ≡ current_of state.current x.0) × (x.1 < x.2)))
      (λ i. (fields i, gots i, nows i)) short
  unless_below (Some reply) other short was field got now is = absurd short

-- ---- a contention above the first one was raised
abbrev first_at : List Field → ℕ → ℕ
first_at fields field = current_of (map (λ (f : Field). first_contention f.kind) fields) field

low_raise : List Field → Option ℕ → ℕ → Type 0
low_raise fields None to = Unit {0}
low_raise fields (Some field) to = first_at fields field ≤ to

low_taught : List Field → PlainCommand → Reply → Type 0
low_taught fields plain (r.Raised to) = low_raise fields (raised_field plain) to
low_taught fields plain (r.NotRaised asked now) = low_raise fields (raised_field plain) now
low_taught fields plain (r.ContentionBelow field got now) = first_at fields field ≤ now
low_taught fields plain _ = Unit {0}

module _ (fields : List Field) (contentions : Contentions) (low : (field : ℕ) → first_at fields field ≤ contention_of contentions field) where
  put_low : (field to : ℕ) → first_at fields field ≤ to → (other : ℕ) → first_at fields other ≤ contention_of (slice_set contentions field to) other
  put_low field to above other = elim (put_cases contentions field to other) [
    | inl here ↦ subst (λ n. first_at fields other ≤ n) (sym here.1) (subst (λ f. first_at fields f ≤ to) (sym here.0) above)
    | inr there ↦ subst (λ n. first_at fields other ≤ n) (sym there) (low other)
  ]

  raise_low : (field : Option ℕ) (to : ℕ) → low_raise fields field to → (other : ℕ) → first_at fields other ≤ contention_of (with_contention contentions field to) other
  unfolding low_raise
  raise_low None to above other = low other
  raise_low (Some field) to above other = put_low field to above other

  learned_low : (plain : PlainCommand) (reply : Reply) → low_taught fields plain reply → (other : ℕ)
      → first_at fields other ≤ contention_of (learned contentions plain (outcome_of reply)) other
  unfolding low_taught
  learned_low plain (r.Raised to) taught other = raise_low (raised_field plain) to taught other
  learned_low plain (r.NotRaised asked now) taught other = raise_low (raised_field plain) now taught other
  learned_low plain (r.ContentionBelow field got now) taught other = put_low field now taught other
  learned_low plain r.Inserted taught other = low other
  learned_low plain r.DuplicateId taught other = low other
  learned_low plain (r.Updated count) taught other = low other
  learned_low plain (r.Deleted count) taught other = low other
  learned_low plain (r.Found rows) taught other = low other
  learned_low plain (r.Ids ids) taught other = low other
  learned_low plain (r.Begun job) taught other = low other
  learned_low plain (r.Stepped left) taught other = low other
  learned_low plain (r.Ended leaves) taught other = low other
  learned_low plain r.Abandoned taught other = low other
  learned_low plain (r.JobRunning job) taught other = low other
  learned_low plain (r.NoJob asked running) taught other = low other
  learned_low plain (r.TokenMissing field) taught other = low other
  learned_low plain (r.TokenMismatch field) taught other = low other
  learned_low plain (r.NotDone left) taught other = low other
  learned_low plain (r.ContentionOver field got now) taught other = low other

module _ (fields : List Field) (current : List ℕ) (floor : (field : ℕ) → first_at fields field ≤ current_of current field) where
  told_low : (plain : PlainCommand) → raised_field plain ≡ None → (reply : Reply) → IsTold current reply → low_taught fields plain reply
  unfolding low_taught low_raise
  told_low plain none (r.Raised to) told = subst (λ (f : Option ℕ). low_raise fields f to) (sym none) tt
  told_low plain none (r.NotRaised asked now) told = subst (λ (f : Option ℕ). low_raise fields f now) (sym none) tt
  told_low plain none (r.ContentionBelow field got now) told = subst (λ n. first_at fields field ≤ n) (sym told) (floor field)
  told_low plain none r.Inserted told = tt
  told_low plain none r.DuplicateId told = tt
  told_low plain none (r.Updated count) told = tt
  told_low plain none (r.Deleted count) told = tt
  told_low plain none (r.Found rows) told = tt
  told_low plain none (r.Ids ids) told = tt
  told_low plain none (r.Begun job) told = tt
  told_low plain none (r.Stepped left) told = tt
  told_low plain none (r.Ended leaves) told = tt
  told_low plain none r.Abandoned told = tt
  told_low plain none (r.JobRunning job) told = tt
  told_low plain none (r.NoJob asked running) told = tt
  told_low plain none (r.TokenMissing field) told = tt
  told_low plain none (r.TokenMismatch field) told = tt
  told_low plain none (r.NotDone left) told = tt
  told_low plain none (r.ContentionOver field got now) told = tt

-- each current contention is the first one, or was raised
abbrev Caused : List Field → List JournalEntry → List ℕ → Type 0
Caused fields past current = (field : ℕ) → (current_of current field ≡ first_at fields field) ⊎ HasRaise past field (current_of current field)

-- what a command leads to
record Led (fields : List Field) (past : List JournalEntry) (entry : JournalEntry) (plain : PlainCommand) (done : Done) : Type 0 where
  taught : low_taught fields plain done.reply
  caused : Caused fields (past ++ entry ∷ []) done.state.current

module _ (u : Under) (leaves : Bool) (contentions : Contentions) (schema : IsSchema u.schema) (state : State) (many : length state.current ≡ length u.schema)
    (floor : (field : ℕ) → first_at u.schema field ≤ current_of state.current field) (past : List JournalEntry) (caused : Caused u.schema past state.current)
    (entry : JournalEntry) where
  still_led : (plain : PlainCommand) → raised_field plain ≡ None → (done : Done) → done.state.current ≡ state.current → IsTold state.current done.reply
      → Led u.schema past entry plain done
  still_led plain none done same told = record {
    taught = told_low u.schema state.current floor plain none done.reply told;
    caused = subst (Caused u.schema (past ++ entry ∷ [])) (sym same)
        (λ field. elim (caused field) [
          | inl first ↦ inl first
          | inr raised ↦ inr (raise_front past (entry ∷ []) field (current_of state.current field) raised)
        ]);
  }

  raise_led : (field asked : ℕ) → field < length state.current → entry.command ≡ c.Raise field asked
      → entry.outcome ≡ outcome_of (raise state field asked).reply → Led u.schema past entry (p.Raise field asked) (raise state field asked)
  unfolding low_taught low_raise
  raise_led field asked below is_raise =
      cond_both (nat_le asked (current_of state.current field)) _ _
      (λ (done : Done). entry.outcome ≡ outcome_of done.reply → Led u.schema past entry (p.Raise field asked) done)
      (λ _ same. record {
        taught = floor field;
        caused = λ other. elim (caused other) [
          | inl first ↦ inl first
          | inr raised ↦ inr (raise_front past (entry ∷ []) other (current_of state.current other) raised)
        ];
      })
      (λ no same. record {
        taught = omega (arith, floor field, leb-false asked (current_of state.current field) no);
        caused = λ other. elim (put_cases state.current field asked other) [
          | inl here ↦ inr (subst (λ (x : ℕ × ℕ). HasRaise (past ++ entry ∷ []) x.0 x.1) (λ i. (sym here.0 i, sym here.1 i))
              (raise_last past entry field asked (record { command = is_raise; outcome = same })))
          | inr there ↦ elim (caused other) [
            | inl first ↦ inl (there ∙ first)
            | inr raised ↦ inr (subst (λ n. HasRaise (past ++ entry ∷ []) other n) (sym there)
                (raise_front past (entry ∷ []) other (current_of state.current other) raised))
          ]
        ];
      })

  led : (plain : PlainCommand) (command : Command) → entry.command ≡ command → Encodes u leaves contentions plain command → Fits u.schema command
      → (nonces : List (List ℕ)) (counts : List Count) → entry.outcome ≡ outcome_of (next state command nonces counts).reply
      → Led u.schema past entry plain (next state command nonces counts)
  led (p.Raise field asked) (c.Raise named to) is encodes fits nonces counts same =
      let there = (fitting_laws u.schema (c.Raise named to) schema fits).of_schema in
      subst (λ (x : ℕ × ℕ). Led u.schema past entry (p.Raise x.0 x.1) (raise state named to)) (λ i. (encodes.0 i, encodes.1 i))
      (raise_led named to (omega (arith, there.below, many)) is same)
  led (p.Insert document) (c.Insert id cells) is encodes fits nonces counts same =
      still_led (p.Insert document) refl (next state (c.Insert id cells) nonces counts) (next-rises state (c.Insert id cells) nonces counts) (next_tells state (c.Insert id cells) nonces counts)
  led (p.Find terms ids) (c.Find filter only) is encodes fits nonces counts same =
      still_led (p.Find terms ids) refl (next state (c.Find filter only) nonces counts) (next-rises state (c.Find filter only) nonces counts) (next_tells state (c.Find filter only) nonces counts)
  led (p.Update terms set) (c.Update filter cells) is encodes fits nonces counts same =
      still_led (p.Update terms set) refl (next state (c.Update filter cells) nonces counts) (next-rises state (c.Update filter cells) nonces counts) (next_tells state (c.Update filter cells) nonces counts)
  led (p.Delete terms) (c.Delete filter) is encodes fits nonces counts same =
      still_led (p.Delete terms) refl (next state (c.Delete filter) nonces counts) (next-rises state (c.Delete filter) nonces counts) (next_tells state (c.Delete filter) nonces counts)
  led (p.Begin kind pairs) (c.Begin sent tokens) is encodes fits nonces counts same =
      still_led (p.Begin kind pairs) refl (next state (c.Begin sent tokens) nonces counts) (next-rises state (c.Begin sent tokens) nonces counts) (next_tells state (c.Begin sent tokens) nonces counts)
  led (p.Step job limit) (c.Step asked most) is encodes fits nonces counts same =
      still_led (p.Step job limit) refl (next state (c.Step asked most) nonces counts) (next-rises state (c.Step asked most) nonces counts) (next_tells state (c.Step asked most) nonces counts)
  led (p.End job) (c.End asked) is encodes fits nonces counts same =
      still_led (p.End job) refl (next state (c.End asked) nonces counts) (next-rises state (c.End asked) nonces counts) (next_tells state (c.End asked) nonces counts)
  led (p.Abandon job) (c.Abandon asked) is encodes fits nonces counts same =
      still_led (p.Abandon job) refl (next state (c.Abandon asked) nonces counts) (next-rises state (c.Abandon asked) nonces counts) (next_tells state (c.Abandon asked) nonces counts)
  led plain command is encodes fits nonces counts same = absurd encodes

caller_low : (fields : List Field) (own : Bool) (next other : Caller) → ((field : ℕ) → first_at fields field ≤ contention_of next.contentions field)
    → ((field : ℕ) → first_at fields field ≤ contention_of other.contentions field)
    → (field : ℕ) → first_at fields field ≤ contention_of (if own then next else other).contentions field
caller_low fields true next other first second field = first field
caller_low fields false next other first second field = second field

-- what holds of a state and its callers after some entries
record Past (u : Under) (past : List JournalEntry) (state : State) (callers : Callers) : Type 0 where
  within : AreWithin u.schema state.current callers
  low : (who field : ℕ) → first_at u.schema field ≤ contention_of (callers who).contentions field
  caused : Caused u.schema past state.current

module _ (u : Under) (is : IsUnder u) where
  past_next : (past : List JournalEntry) (state : State) (callers : Callers) → Past u past state callers → (leaves : Bool) (plain : PlainCommand) (entry : JournalEntry)
      → Encodes u leaves (callers entry.caller).contentions plain entry.command → Fits u.schema entry.command
      → entry.outcome ≡ outcome_of (next state entry.command entry.nonces entry.counts).reply
      → Past u (past ++ entry ∷ []) (next state entry.command entry.nonces entry.counts).state (callers_next callers entry.caller plain entry.outcome)
  past_next past state callers was leaves plain entry encodes fits same =
      let floor : (field : ℕ) → first_at u.schema field ≤ current_of state.current field =
      λ field. omega (arith, was.low entry.caller field, was.within.each entry.caller field) in
      let to = led u leaves (callers entry.caller).contentions is.schema state was.within.many floor past was.caused entry plain entry.command refl encodes fits entry.nonces entry.counts same in
      record {
        within = within_next u leaves is.schema state callers was.within entry.caller plain entry.command encodes fits entry.nonces entry.counts entry.outcome same;
        low = λ who field. caller_low u.schema (who == entry.caller) (caller_next (callers who) plain entry.outcome) (callers who)
            (λ f. subst (λ (x : Outcome). first_at u.schema f ≤ contention_of (learned (callers who).contentions plain x) f) (sym same)
            (learned_low u.schema (callers who).contentions (was.low who) plain (next state entry.command entry.nonces entry.counts).reply to.taught f))
            (was.low who) field;
        caused = to.caused;
      }

  -- of the last entry of a journal
  record IsCaused (past : List JournalEntry) (entry : JournalEntry) : Type 0 where
    over : (field got now : ℕ) → entry.outcome ≡ o.ContentionOver field got now → ⊥
    below : (field got now : ℕ) → entry.outcome ≡ o.ContentionBelow field got now → HasRaise past field now × (got < now)

  last_caused : (callers : Callers) (plains : List PlainCommand) (entries : List JournalEntry) (entry : JournalEntry) (past : List JournalEntry) (state : State)
      → IsLegalFrom u.schema state (entries ++ entry ∷ []) → EncodedFrom u callers plains (entries ++ entry ∷ []) → Past u past state callers
      → IsCaused (past ++ entries) entry
  unfolding done
  last_caused callers [] [] entry past state legal encoded was = absurd encoded
  last_caused callers [] (e ∷ entries) entry past state legal encoded was = absurd encoded
  last_caused callers (plain ∷ plains) [] entry past state legal encoded was =
      let contentions = (callers entry.caller).contentions in
      let short = short_refusal u contentions state.current encoded.0.leaves (was.within.each entry.caller) plain entry.command encoded.0.encodes in
      let served_so = served_was state entry.command entry.nonces entry.counts in
      subst (λ (all : List JournalEntry). IsCaused all entry) (sym (append-nil past)) (record {
        over = λ field got now at.
            unless_over contentions state (refusal state.current entry.command) (served state entry.command entry.nonces entry.counts) short served_so field got now (sym legal.0.outcome ∙ at);
        below = λ field got now at.
            let found = unless_below contentions state (refusal state.current entry.command) (served state entry.command entry.nonces entry.counts) short served_so field got now
            (sym legal.0.outcome ∙ at) in (
              elim (was.caused field) [
                | inl first ↦ absurd (omega (arith, first, found.0, found.1.0, found.1.1, was.low entry.caller field))
                | inr raised ↦ subst (λ n. HasRaise past field n) (sym found.1.0) raised
              ],
              found.1.1,
            );
      })
  last_caused callers (plain ∷ plains) (e ∷ entries) entry past state legal encoded was =
      let now = past_next past state callers was encoded.0.leaves plain e encoded.0.encodes legal.0.fits legal.0.outcome in
      subst (λ (all : List JournalEntry). IsCaused all entry) (append_assoc past (e ∷ []) entries)
      (last_caused (callers_next callers e.caller plain e.outcome) plains entries entry (past ++ e ∷ []) (done state e).state legal.1 encoded.1 now)

  pub refusals_have_their_cause : RefusalsHaveTheirCause u
  unfolding IsLegal
  refusals_have_their_cause =
      let start : Past u [] (opening u.schema) (opening_callers u.schema) = record {
        within = record { many = length-map u.schema (λ (f : Field). first_contention f.kind); each = λ who field. omega arith };
        low = λ who field. omega arith;
        caused = λ field. inl refl;
      } in
      record {
        over = λ plains journal entry encoded.
            (last_caused (opening_callers u.schema) plains journal entry [] (opening u.schema) encoded.legal encoded.encoded start).over;
        below = λ plains journal entry encoded.
            (last_caused (opening_callers u.schema) plains journal entry [] (opening u.schema) encoded.legal encoded.encoded start).below;
      }
