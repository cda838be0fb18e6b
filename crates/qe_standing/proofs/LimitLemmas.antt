-- Contentions: no value is sent above its field's current one, and no caller learns of a greater one than there is.
use Rattle.std.proofs.Common.{◌≡◌, ◌≤◌, ◌<◌, ℕ, List, [], ◌∷◌, ◌++◌, length, Bool, true, false, Option, None, Some, if◌then◌else◌, refl, sym, ap, ◌∙◌, subst, arith, inl, inr, ◌⊎◌}
use Rattle.std.specs.Prelude.{◌==◌, filter, nat_le, nat_lt, slice_set}
use Rattle.std.specs.List.{AllByRecursion, AllZip, list_any}
use Rattle.std.proofs.lemmas.Bool.{cases_Bool, cases_eq, cases_lt, cond_both, leb-false, ltb-true}
use Rattle.std.proofs.lemmas.List.{get_or-set_other, get_or-set_same, get_or_past, length-set}
use Rattle.qe_base.specs.declared.maintenance.Count.{Count}
use Rattle.qe_base.specs.declared.maintenance.JobKind.{JobKind}
use Rattle.qe_tokens.specs.declared.words.FieldToken.{FieldToken}
use Rattle.qe_value.specs.declared.value.Plain.{Plain}
use Rattle.qe_field.specs.declared.field.FieldKind.{FieldKind}
use Rattle.qe_field.specs.declared.field.FieldKind.TheVariants as k
use Rattle.qe_field.specs.Schema.{IsSchema}
use Rattle.qe_plain.specs.declared.command.PlainCell.{PlainCell}
use Rattle.qe_plain.specs.declared.command.PlainCommand.{PlainCommand}
use Rattle.qe_plain.specs.declared.command.PlainCommand.TheVariants as p
use Rattle.qe_store.specs.declared.stored.Stored.{Stored}
use Rattle.qe_command.specs.declared.cells.SentCell.{SentCell}
use Rattle.qe_command.specs.declared.cells.SentCell.TheVariants as sent
use Rattle.qe_command.specs.declared.command.Command.{Command}
use Rattle.qe_command.specs.declared.command.Command.TheVariants as c
use Rattle.qe_command.specs.declared.filter.SentTerm.{SentTerm}
use Rattle.qe_command.specs.declared.filter.SentTerm.TheVariants as t
use Rattle.qe_command_document.specs.CommandDocument.{Fits}
use Rattle.qe_command_fits.proofs.FittingLemmas.{fitting_laws}
use Rattle.qe_protocol.specs.declared.reply.Outcome.{Outcome}
use Rattle.qe_protocol.specs.declared.reply.Reply.{Reply}
use Rattle.qe_protocol.specs.declared.reply.Reply.TheVariants as r
use Rattle.qe_protocol.specs.Contention.{below_at, cell_over, cells_over, current_of, filter_below, or_else, over_at, raise, refusal, term_below}
use Rattle.qe_protocol.specs.Documents.{has_document}
use Rattle.qe_protocol.specs.Filters.{matches}
use Rattle.qe_protocol.specs.Jobs.{begin_beside, begin_with, end_running, first_missing, on_job, step_done, step_units, will_be_aside}
use Rattle.qe_protocol.specs.Next.{find_reply, next, outcome_of, served, sets_for, unless_refused}
use Rattle.qe_protocol.specs.State.{Done, Job, State, left_of}
use Rattle.qe_protocol.specs.Units.{UnitsDone}
use Rattle.qe_protocol.proofs.ContentionLemmas.{next-rises}
use Rattle.qe_labels.specs.Tags.{words_under}
use Rattle.qe_labels.specs.Under.{Under}
use Rattle.qe_encodes.specs.Callers.{Caller, Callers, Contentions, callers_next, caller_next, contention_of, learned, raised_field, with_contention}
use Rattle.qe_encodes.specs.Encodes.{Encodes, SendsCell}
use Rattle.qe_encodes.specs.Fields.{kind_at}
use Rattle.qe_encodes.specs.Items.{value_items}
use Rattle.qe_encodes.specs.Payloads.{Drawn, sent_value}
use Rattle.qe_encodes.specs.Words.{cell_words, cells_words, value_words}
use Rattle.qe_standing.specs.Stands.{AreWithin}
use Rattle.qe_standing.proofs.NumberLemmas.{IsWithin}

each_under : (current : List ℕ) (field factor : ℕ) → factor ≤ current_of current field → (items : List (List ℕ)) → AllByRecursion (IsWithin current) (words_under field factor items)
each_under current field factor within [] = tt
each_under current field factor within (item ∷ items) = (within, each_under current field factor within items)

each_joined : {A : Type 0} (P : A → Type 0) (xs ys : List A) → AllByRecursion P xs → AllByRecursion P ys → AllByRecursion P (xs ++ ys)
each_joined P [] ys first second = second
each_joined P (x ∷ xs) ys first second = (first.0, each_joined P xs ys first.1 second)

module _ (u : Under) (leaves : Bool) (contentions : Contentions) (current : List ℕ)
    (within : (field : ℕ) → contention_of contentions field ≤ current_of current field) where
  value_within : (field : ℕ) (drawn : Drawn) → drawn.factor ≤ current_of current field → (kind : FieldKind) (value : Plain)
      → AllByRecursion (IsWithin current) (value_words field kind value (sent_value u leaves field drawn kind value))
  value_within field drawn below k.Plain value = tt
  value_within field drawn below (k.Equality key_id value_kind contention greatest) value =
      each_under current field drawn.factor below (value_items (k.Equality key_id value_kind contention greatest) value)
  value_within field drawn below (k.Range key_id value_kind contention greatest domain) value =
      each_under current field drawn.factor below (value_items (k.Range key_id value_kind contention greatest domain) value)

  not_above : (field got : ℕ) → got ≤ current_of current field → over_at current field got ≡ None
  not_above field got below =
      elim (cases_Bool (nat_lt (current_of current field) got)) [
        | inl less ↦ absurd (omega (arith, below, ltb-true (current_of current field) got less))
        | inr more ↦ rw more refl
      ]

  value_not_over : (field : ℕ) (drawn : Drawn) → drawn.factor ≤ current_of current field → (kind : FieldKind) (value : Plain)
      → cell_over current field (sent_value u leaves field drawn kind value) ≡ None
  value_not_over field drawn below k.Plain value = refl
  value_not_over field drawn below (k.Equality key_id value_kind contention greatest) value = not_above field drawn.factor below
  value_not_over field drawn below (k.Range key_id value_kind contention greatest domain) value = not_above field drawn.factor below

  drawn_below : (cell : PlainCell) (one : ℕ × SentCell) (sends : SendsCell u leaves contentions cell one) → sends.drawn.factor ≤ current_of current cell.field
  drawn_below cell one sends = omega (arith, sends.are_drawn.factor, within cell.field)

  -- the words of what is sent have factors within the current contentions
  pub words_within : (cells : List PlainCell) (sents : List (ℕ × SentCell)) → AllZip (SendsCell u leaves contentions) cells sents
      → AllByRecursion (IsWithin current) (cells_words u.schema cells sents)
  words_within [] sents each = tt
  words_within (cell ∷ cells) [] each = tt
  words_within (cell ∷ cells) (one ∷ sents) each =
      each_joined (IsWithin current) (cell_words u.schema cell one.1) (cells_words u.schema cells sents)
      (subst (λ (x : SentCell). AllByRecursion (IsWithin current) (cell_words u.schema cell x)) (sym each.0.value)
      (value_within cell.field each.0.drawn (drawn_below cell one each.0) (kind_at u.schema cell.field) cell.value))
      (words_within cells sents each.1)

  -- no value that is sent is above its field's current contention
  pub never_over : (cells : List PlainCell) (sents : List (ℕ × SentCell)) → AllZip (SendsCell u leaves contentions) cells sents → cells_over current sents ≡ None
  never_over [] [] each = refl
  never_over [] (one ∷ sents) each = absurd each
  never_over (cell ∷ cells) [] each = refl
  never_over (cell ∷ cells) (one ∷ sents) each =
      let first : cell_over current one.0 one.1 ≡ None =
      (λ i. cell_over current (each.0.field i) (each.0.value i))
      ∙ value_not_over cell.field each.0.drawn (drawn_below cell one each.0) (kind_at u.schema cell.field) cell.value in
      ap (λ (x : Option Reply). or_else x (cells_over current sents)) first ∙ never_over cells sents each.1

-- a refusal for too few factors tells the current contention
abbrev pub IsTold : List ℕ → Reply → Type 0
IsTold current (r.ContentionBelow field got now) = now ≡ current_of current field
IsTold current _ = Unit {0}

abbrev IsToldIf : List ℕ → Option Reply → Type 0
IsToldIf current None = Unit {0}
IsToldIf current (Some reply) = IsTold current reply

module _ (current : List ℕ) where
  told_or : (one other : Option Reply) → IsToldIf current one → IsToldIf current other → IsToldIf current (or_else one other)
  told_or None other first second = second
  told_or (Some reply) other first second = first

  told_below : (field got : ℕ) → IsToldIf current (below_at current field got)
  told_below field got =
      cond_both (nat_lt got (current_of current field)) (Some (r.ContentionBelow field got (current_of current field))) None (IsToldIf current) (λ _. refl) (λ _. tt)

  told_over : (field got : ℕ) → IsToldIf current (over_at current field got)
  told_over field got =
      cond_both (nat_lt (current_of current field) got) (Some (r.ContentionOver field got (current_of current field))) None (IsToldIf current) (λ _. tt) (λ _. tt)

  told_term : (term : SentTerm) → IsToldIf current (term_below current term)
  told_term (t.Id id) = tt
  told_term (t.Equal field payload) = told_below field _
  told_term (t.Range field payload) = told_below field _

  told_filter : (terms : List SentTerm) → IsToldIf current (filter_below current terms)
  told_filter [] = tt
  told_filter (term ∷ terms) = told_or (term_below current term) (filter_below current terms) (told_term term) (told_filter terms)

  told_cell : (field : ℕ) (cell : SentCell) → IsToldIf current (cell_over current field cell)
  told_cell field (sent.Plain value) = tt
  told_cell field (sent.Payload payload) = told_over field _

  told_cells : (cells : List (ℕ × SentCell)) → IsToldIf current (cells_over current cells)
  told_cells [] = tt
  told_cells (cell ∷ cells) = told_or (cell_over current cell.0 cell.1) (cells_over current cells) (told_cell cell.0 cell.1) (told_cells cells)

  told_refusal : (command : Command) → IsToldIf current (refusal current command)
  told_refusal (c.Insert id cells) = told_cells cells
  told_refusal (c.Find terms ids) = told_filter terms
  told_refusal (c.Update terms set) = told_or (filter_below current terms) (cells_over current set) (told_filter terms) (told_cells set)
  told_refusal (c.Delete terms) = told_filter terms
  told_refusal (c.Begin kind tokens) = tt
  told_refusal (c.Step job limit) = tt
  told_refusal (c.End job) = tt
  told_refusal (c.Abandon job) = tt
  told_refusal (c.Raise field contention) = tt

-- no other reply speaks of too few factors
module _ (state : State) where
  abbrev Tells : Done → Type 0
  Tells done = IsTold state.current done.reply

  begin_tells : (kind : JobKind) (tokens : List FieldToken) (missing : Option ℕ) → Tells (begin_with kind tokens state missing)
  begin_tells kind tokens (Some field) = tt
  begin_tells kind tokens None = tt

  beside_tells : (kind : JobKind) (tokens : List FieldToken) (job : Option Job) → Tells (begin_beside kind tokens state job)
  beside_tells kind tokens (Some job) = tt
  beside_tells kind tokens None = begin_tells kind tokens (first_missing tokens (will_be_aside state))

  job_tells : (asked : ℕ) (job : Option Job) (go : Job → Done) → ((job : Job) → Tells (go job)) → Tells (on_job state asked job go)
  job_tells asked None go each = tt
  job_tells asked (Some job) go each = cond_both (job.number == asked) _ _ Tells (λ _. each job) (λ _. tt)

  step_tells : (job : Job) (done : UnitsDone) (mismatch : Option ℕ) → Tells (step_done state job done mismatch)
  step_tells job done (Some field) = tt
  step_tells job done None = tt

  end_tells : (job : Job) → Tells (end_running state job)
  end_tells job = cond_both (left_of state.jobs == 0) _ _ Tells (λ _. tt) (λ _. tt)

  find_tells : (ids : Bool) (found : List Stored) → IsTold state.current (find_reply ids found)
  find_tells true found = tt
  find_tells false found = tt

  served_tells : (command : Command) (nonces : List (List ℕ)) (counts : List Count) → Tells (served state command nonces counts)
  served_tells (c.Insert id cells) nonces counts = cond_both (has_document id state.docs) _ _ Tells (λ _. tt) (λ _. tt)
  served_tells (c.Find terms ids) nonces counts = find_tells ids (filter (matches (sets_for state terms counts)) state.docs)
  served_tells (c.Update terms set) nonces counts = cond_both (list_any (matches (sets_for state terms counts)) state.docs) _ _ Tells (λ _. tt) (λ _. tt)
  served_tells (c.Delete terms) nonces counts = cond_both (list_any (matches (sets_for state terms counts)) state.docs) _ _ Tells (λ _. tt) (λ _. tt)
  served_tells (c.Begin kind tokens) nonces counts = beside_tells kind tokens state.jobs.job
  served_tells (c.Step job limit) nonces counts =
      job_tells job state.jobs.job _ (λ running. let done = step_units state running nonces counts in step_tells running done done.mismatch)
  served_tells (c.End job) nonces counts = job_tells job state.jobs.job _ end_tells
  served_tells (c.Abandon job) nonces counts = job_tells job state.jobs.job _ (λ running. tt)
  served_tells (c.Raise field contention) nonces counts = cond_both (nat_le contention (current_of state.current field)) _ _ Tells (λ _. tt) (λ _. tt)

  unless_tells : (refused : Option Reply) (done : Done) → IsToldIf state.current refused → Tells done → Tells (unless_refused state refused done)
  unless_tells None done refusal_told told = told
  unless_tells (Some reply) done refusal_told told = refusal_told

  pub next_tells : (command : Command) (nonces : List (List ℕ)) (counts : List Count) → Tells (next state command nonces counts)
  next_tells command nonces counts =
      unless_tells (refusal state.current command) (served state command nonces counts) (told_refusal state.current command) (served_tells command nonces counts)

-- ---- what callers learn
raised_within : List ℕ → Option ℕ → ℕ → Type 0
raised_within after None to = Unit {0}
raised_within after (Some field) to = to ≤ current_of after field

-- what a reply teaches the sender of a command is no more than is so
teaches : List ℕ → PlainCommand → Reply → Type 0
teaches after plain (r.Raised to) = raised_within after (raised_field plain) to
teaches after plain (r.NotRaised asked now) = raised_within after (raised_field plain) now
teaches after plain (r.ContentionBelow field got now) = now ≤ current_of after field
teaches after plain _ = Unit {0}

-- a number that is put in its place, or not there
pub put_cases : (xs : List ℕ) (field to other : ℕ) → ((other ≡ field) × (contention_of (slice_set xs field to) other ≡ to))
    ⊎ (contention_of (slice_set xs field to) other ≡ contention_of xs other)
put_cases xs field to other = elim (cases_eq other field) [
  | inl same ↦ elim (cases_lt field (length xs)) [
    | inl within ↦ inl (same, ap (contention_of (slice_set xs field to)) same ∙ get_or-set_same xs field to 0 within)
    | inr beyond ↦ inr (ap (contention_of (slice_set xs field to)) same
        ∙ get_or_past (slice_set xs field to) field 0 (subst (λ n. n ≤ field) (sym (length-set xs field to)) beyond)
        ∙ sym (ap (contention_of xs) same ∙ get_or_past xs field 0 beyond))
  ]
  | inr apart ↦ inr (get_or-set_other xs field other to 0 apart)
]

module _ (after : List ℕ) (contentions : Contentions) (within : (field : ℕ) → contention_of contentions field ≤ current_of after field) where
  put_within : (field to : ℕ) → to ≤ current_of after field → (other : ℕ) → contention_of (slice_set contentions field to) other ≤ current_of after other
  put_within field to below other = elim (put_cases contentions field to other) [
    | inl here ↦ subst (λ n. n ≤ current_of after other) (sym here.1) (subst (λ f. to ≤ current_of after f) (sym here.0) below)
    | inr there ↦ subst (λ n. n ≤ current_of after other) (sym there) (within other)
  ]

  raise_within : (field : Option ℕ) (to : ℕ) → raised_within after field to → (other : ℕ) → contention_of (with_contention contentions field to) other ≤ current_of after other
  unfolding raised_within
  raise_within None to below other = within other
  raise_within (Some field) to below other = put_within field to below other

  learned_within : (plain : PlainCommand) (reply : Reply) → teaches after plain reply → (other : ℕ)
      → contention_of (learned contentions plain (outcome_of reply)) other ≤ current_of after other
  unfolding teaches
  learned_within plain (r.Raised to) below other = raise_within (raised_field plain) to below other
  learned_within plain (r.NotRaised asked now) below other = raise_within (raised_field plain) now below other
  learned_within plain (r.ContentionBelow field got now) below other = put_within field now below other
  learned_within plain r.Inserted below other = within other
  learned_within plain r.DuplicateId below other = within other
  learned_within plain (r.Updated count) below other = within other
  learned_within plain (r.Deleted count) below other = within other
  learned_within plain (r.Found rows) below other = within other
  learned_within plain (r.Ids ids) below other = within other
  learned_within plain (r.Begun job) below other = within other
  learned_within plain (r.Stepped left) below other = within other
  learned_within plain (r.Ended leaves) below other = within other
  learned_within plain r.Abandoned below other = within other
  learned_within plain (r.JobRunning job) below other = within other
  learned_within plain (r.NoJob asked running) below other = within other
  learned_within plain (r.TokenMissing field) below other = within other
  learned_within plain (r.TokenMismatch field) below other = within other
  learned_within plain (r.NotDone left) below other = within other
  learned_within plain (r.ContentionOver field got now) below other = within other

-- a command that is no raise teaches by refusals alone
told_teaches : (current after : List ℕ) → after ≡ current → (plain : PlainCommand) → raised_field plain ≡ None → (reply : Reply) → IsTold current reply
    → teaches after plain reply
unfolding teaches raised_within
told_teaches current after same plain none (r.Raised to) told = subst (λ (f : Option ℕ). raised_within after f to) (sym none) tt
told_teaches current after same plain none (r.NotRaised asked now) told = subst (λ (f : Option ℕ). raised_within after f now) (sym none) tt
told_teaches current after same plain none (r.ContentionBelow field got now) told =
    let is : now ≡ current_of after field = told ∙ ap (λ (xs : List ℕ). current_of xs field) (sym same) in omega (arith, is)
told_teaches current after same plain none r.Inserted told = tt
told_teaches current after same plain none r.DuplicateId told = tt
told_teaches current after same plain none (r.Updated count) told = tt
told_teaches current after same plain none (r.Deleted count) told = tt
told_teaches current after same plain none (r.Found rows) told = tt
told_teaches current after same plain none (r.Ids ids) told = tt
told_teaches current after same plain none (r.Begun job) told = tt
told_teaches current after same plain none (r.Stepped left) told = tt
told_teaches current after same plain none (r.Ended leaves) told = tt
told_teaches current after same plain none r.Abandoned told = tt
told_teaches current after same plain none (r.JobRunning job) told = tt
told_teaches current after same plain none (r.NoJob asked running) told = tt
told_teaches current after same plain none (r.TokenMissing field) told = tt
told_teaches current after same plain none (r.TokenMismatch field) told = tt
told_teaches current after same plain none (r.NotDone left) told = tt
told_teaches current after same plain none (r.ContentionOver field got now) told = tt

-- what a command makes of the contentions: none falls, and its sender learns no more than is so
record Onward (before after : List ℕ) (plain : PlainCommand) (reply : Reply) : Type 0 where
  many : length after ≡ length before
  rises : (field : ℕ) → current_of before field ≤ current_of after field
  taught : teaches after plain reply

module _ (state : State) where
  still : (plain : PlainCommand) → raised_field plain ≡ None → (done : Done) → done.state.current ≡ state.current → IsTold state.current done.reply
      → Onward state.current done.state.current plain done.reply
  still plain none done same told = record {
    many = ap (λ (xs : List ℕ). length xs) same;
    rises = λ field. let is = ap (λ (xs : List ℕ). current_of xs field) same in omega (arith, is);
    taught = told_teaches state.current done.state.current same plain none done.reply told;
  }

  raise_onward : (field asked : ℕ) → field < length state.current
      → Onward state.current (raise state field asked).state.current (p.Raise field asked) (raise state field asked).reply
  unfolding teaches raised_within
  raise_onward field asked within =
      cond_both (nat_le asked (current_of state.current field)) _ _
      (λ (done : Done). Onward state.current done.state.current (p.Raise field asked) done.reply)
      (λ _. record { many = refl; rises = λ other. omega arith; taught = omega arith })
      (λ no.
      let less = leb-false asked (current_of state.current field) no in
      let put : current_of (slice_set state.current field asked) field ≡ asked = get_or-set_same state.current field asked 0 within in
      record {
        many = length-set state.current field asked;
        rises = λ other. elim (put_cases state.current field asked other) [
          | inl here ↦ let was = ap (current_of state.current) here.0 in omega (arith, here.1, less, was)
          | inr there ↦ omega (arith, there)
        ];
        taught = omega (arith, put);
      })

  -- of each command that is sent for a plain one
  onward : (u : Under) (leaves : Bool) (contentions : Contentions) → IsSchema u.schema → length state.current ≡ length u.schema
      → (plain : PlainCommand) (command : Command) → Encodes u leaves contentions plain command → Fits u.schema command
      → (nonces : List (List ℕ)) (counts : List Count)
      → Onward state.current (next state command nonces counts).state.current plain (next state command nonces counts).reply
  onward u leaves contentions schema many (p.Raise field asked) (c.Raise named to) encodes fits nonces counts =
      let there = (fitting_laws u.schema (c.Raise named to) schema fits).of_schema in
      subst (λ (x : ℕ × ℕ). Onward state.current (raise state named to).state.current (p.Raise x.0 x.1) (raise state named to).reply)
      (λ i. (encodes.0 i, encodes.1 i)) (raise_onward named to (omega (arith, there.below, many)))
  onward u leaves contentions schema many (p.Insert document) (c.Insert id cells) encodes fits nonces counts =
      still (p.Insert document) refl (next state (c.Insert id cells) nonces counts) (next-rises state (c.Insert id cells) nonces counts) (next_tells state (c.Insert id cells) nonces counts)
  onward u leaves contentions schema many (p.Find terms ids) (c.Find filter only) encodes fits nonces counts =
      still (p.Find terms ids) refl (next state (c.Find filter only) nonces counts) (next-rises state (c.Find filter only) nonces counts) (next_tells state (c.Find filter only) nonces counts)
  onward u leaves contentions schema many (p.Update terms set) (c.Update filter cells) encodes fits nonces counts =
      still (p.Update terms set) refl (next state (c.Update filter cells) nonces counts) (next-rises state (c.Update filter cells) nonces counts) (next_tells state (c.Update filter cells) nonces counts)
  onward u leaves contentions schema many (p.Delete terms) (c.Delete filter) encodes fits nonces counts =
      still (p.Delete terms) refl (next state (c.Delete filter) nonces counts) (next-rises state (c.Delete filter) nonces counts) (next_tells state (c.Delete filter) nonces counts)
  onward u leaves contentions schema many (p.Begin kind pairs) (c.Begin sent tokens) encodes fits nonces counts =
      still (p.Begin kind pairs) refl (next state (c.Begin sent tokens) nonces counts) (next-rises state (c.Begin sent tokens) nonces counts) (next_tells state (c.Begin sent tokens) nonces counts)
  onward u leaves contentions schema many (p.Step job limit) (c.Step asked most) encodes fits nonces counts =
      still (p.Step job limit) refl (next state (c.Step asked most) nonces counts) (next-rises state (c.Step asked most) nonces counts) (next_tells state (c.Step asked most) nonces counts)
  onward u leaves contentions schema many (p.End job) (c.End asked) encodes fits nonces counts =
      still (p.End job) refl (next state (c.End asked) nonces counts) (next-rises state (c.End asked) nonces counts) (next_tells state (c.End asked) nonces counts)
  onward u leaves contentions schema many (p.Abandon job) (c.Abandon asked) encodes fits nonces counts =
      still (p.Abandon job) refl (next state (c.Abandon asked) nonces counts) (next-rises state (c.Abandon asked) nonces counts) (next_tells state (c.Abandon asked) nonces counts)
  onward u leaves contentions schema many plain command encodes fits nonces counts = absurd encodes

caller_within : (after : List ℕ) (own : Bool) (next other : Caller) → ((field : ℕ) → contention_of next.contentions field ≤ current_of after field)
    → ((field : ℕ) → contention_of other.contentions field ≤ current_of after field)
    → (field : ℕ) → contention_of (if own then next else other).contentions field ≤ current_of after field
caller_within after true next other first second field = first field
caller_within after false next other first second field = second field

-- after a command no caller has learned of more than there is
pub within_next : (u : Under) (leaves : Bool) → IsSchema u.schema → (state : State) (callers : Callers) → AreWithin u.schema state.current callers
    → (who : ℕ) (plain : PlainCommand) (command : Command) → Encodes u leaves (callers who).contentions plain command → Fits u.schema command
    → (nonces : List (List ℕ)) (counts : List Count) (outcome : Outcome) → outcome ≡ outcome_of (next state command nonces counts).reply
    → AreWithin u.schema (next state command nonces counts).state.current (callers_next callers who plain outcome)
within_next u leaves schema state callers within who plain command encodes fits nonces counts outcome same =
    let done = next state command nonces counts in
    let after = done.state.current in
    let on = onward state u leaves (callers who).contentions schema within.many plain command encodes fits nonces counts in
    let others : (k field : ℕ) → contention_of (callers k).contentions field ≤ current_of after field = λ k field. omega (arith, within.each k field, on.rises field) in
    record {
      many = on.many ∙ within.many;
      each = λ k field. caller_within after (k == who) (caller_next (callers k) plain outcome) (callers k)
          (λ f. subst (λ (x : Outcome). contention_of (learned (callers k).contentions plain x) f ≤ current_of after f) (sym same)
          (learned_within after (callers k).contentions (others k) plain done.reply on.taught f))
          (others k) field;
    }
