-- What a command is answered can be learned: contentions stay within the greatest of their fields.
use Rattle.std.proofs.Common.{◌≡◌, ◌≤◌, ℕ, List, [], ◌∷◌, ◌++◌, Bool, true, false, Option, None, Some, refl, sym, ap, ◌∙◌, subst, arith, inl, inr}
use Rattle.std.specs.Prelude.{◌==◌, filter, map, nat_le, nat_lt, slice_get}
use Rattle.std.specs.List.{list_any}
use Rattle.std.proofs.lemmas.Bool.{cond_both}
use Rattle.std.proofs.lemmas.List.{get_or-map, get_or_past, length-map}
use Rattle.std.proofs.lemmas.Option.{slice_get_cases}
use Rattle.qe_base.specs.declared.maintenance.Count.{Count}
use Rattle.qe_base.specs.declared.maintenance.JobKind.{JobKind}
use Rattle.qe_tokens.specs.declared.words.FieldToken.{FieldToken}
use Rattle.qe_field.specs.declared.field.Field.{Field}
use Rattle.qe_field.specs.declared.field.FieldKind.{FieldKind}
use Rattle.qe_field.specs.declared.field.FieldKind.TheVariants as k
use Rattle.qe_field.specs.Lookup.{greatest_of, is_encrypted}
use Rattle.qe_field.specs.Schema.{IsKind}
use Rattle.qe_find.specs.declared.equal.FindEqual.{FindEqual}
use Rattle.qe_find.specs.declared.range.FindRange.{FindRange}
use Rattle.qe_plain.specs.declared.command.PlainCommand.{PlainCommand}
use Rattle.qe_plain.specs.declared.command.PlainCommand.TheVariants as p
use Rattle.qe_schema.specs.Resolved.{OfField}
use Rattle.qe_store.specs.declared.stored.Stored.{Stored}
use Rattle.qe_command.specs.declared.cells.SentCell.{SentCell}
use Rattle.qe_command.specs.declared.cells.SentCell.TheVariants as sent
use Rattle.qe_command.specs.declared.command.Command.{Command}
use Rattle.qe_command.specs.declared.command.Command.TheVariants as c
use Rattle.qe_command.specs.declared.filter.SentTerm.{SentTerm}
use Rattle.qe_command.specs.declared.filter.SentTerm.TheVariants as t
use Rattle.qe_command_document.specs.CommandDocument.{Fits}
use Rattle.qe_command_fits.specs.OfSchema.{AreTermsOf, IsEqualOf, IsFieldAt, IsRaiseOf, IsRangeOf, IsTermOf}
use Rattle.qe_command_fits.proofs.FittingLemmas.{fitting_laws}
use Rattle.qe_protocol.specs.declared.journal.JournalEntry.{JournalEntry}
use Rattle.qe_protocol.specs.declared.reply.Reply.{Reply}
use Rattle.qe_protocol.specs.declared.reply.Reply.TheVariants as r
use Rattle.qe_protocol.specs.Contention.{below_at, cell_over, cells_over, current_of, filter_below, or_else, over_at, raise, refusal, term_below}
use Rattle.qe_protocol.specs.Documents.{has_document}
use Rattle.qe_protocol.specs.Filters.{matches}
use Rattle.qe_protocol.specs.Jobs.{begin_beside, begin_with, end_running, first_missing, on_job, step_done, step_units, will_be_aside}
use Rattle.qe_protocol.specs.Journal.{IsLegal, IsLegalFrom, done, first_contention, opening}
use Rattle.qe_protocol.specs.Next.{find_reply, next, outcome_of, served, sets_for, unless_refused}
use Rattle.qe_protocol.specs.State.{Done, Job, State, left_of}
use Rattle.qe_protocol.specs.Units.{UnitsDone}
use Rattle.qe_protocol.proofs.ContentionLemmas.{next-rises}
use Rattle.qe_labels.specs.Under.{Under}
use Rattle.qe_encodes.specs.Callers.{Callers, Contentions, callers_next, opening_callers}
use Rattle.qe_encodes.specs.Encoded.{EncodedFrom}
use Rattle.qe_encodes.specs.Encodes.{Encodes}
use Rattle.qe_encodes.specs.Fields.{IsUnder, kind_at, kind_or_plain}
use Rattle.qe_encodes.proofs.FieldLemmas.{kind_there}
use Rattle.qe_standing.specs.Laws.{AnswersCanBeLearned, CanLearn, IsUpTo}
use Rattle.qe_standing.proofs.LimitLemmas.{put_cases}

-- current contentions are within the greatest of their fields
abbrev IsGreatest : List Field → List ℕ → Type 0
IsGreatest fields current = (field : ℕ) → current_of current field ≤ greatest_of (kind_at fields field)

up_to : (fields : List Field) (field : Field) (number now : ℕ) → slice_get fields number ≡ Some field → is_encrypted field.kind ≡ true
    → now ≤ greatest_of (kind_at fields number) → IsUpTo fields number now
up_to fields field number now there encrypted below = record {
  field = field;
  there = there;
  allows = (encrypted, subst (λ (o : Option Field). now ≤ greatest_of (kind_or_plain o)) there below);
}

-- a refusal of a filter names an encrypted field and its current contention
abbrev IsFair : List Field → List ℕ → Reply → Type 0
IsFair fields current (r.ContentionBelow field got now) = (now ≡ current_of current field) × OfField fields field (λ kind. is_encrypted kind ≡ true)
IsFair fields current (r.Raised to) = ⊥
IsFair fields current (r.NotRaised asked now) = ⊥
IsFair fields current _ = Unit {0}

abbrev IsFairIf : List Field → List ℕ → Option Reply → Type 0
IsFairIf fields current None = Unit {0}
IsFairIf fields current (Some reply) = IsFair fields current reply

encrypted_equal : (payload : FindEqual) (kind : FieldKind) → IsEqualOf payload kind → is_encrypted kind ≡ true
encrypted_equal payload k.Plain is = absurd is
encrypted_equal payload (k.Equality id kind contention greatest) is = refl
encrypted_equal payload (k.Range id kind contention greatest domain) is = absurd is

encrypted_range : (payload : FindRange) (kind : FieldKind) → IsRangeOf payload kind → is_encrypted kind ≡ true
encrypted_range payload k.Plain is = absurd is
encrypted_range payload (k.Equality id kind contention greatest) is = absurd is
encrypted_range payload (k.Range id kind contention greatest domain) is = refl

module _ (fields : List Field) (current : List ℕ) where
  fair_or : (one other : Option Reply) → IsFairIf fields current one → IsFairIf fields current other → IsFairIf fields current (or_else one other)
  fair_or None other first second = second
  fair_or (Some reply) other first second = first

  fair_below : (field got : ℕ) → OfField fields field (λ kind. is_encrypted kind ≡ true) → IsFairIf fields current (below_at current field got)
  fair_below field got there =
      cond_both (nat_lt got (current_of current field)) (Some (r.ContentionBelow field got (current_of current field))) None (IsFairIf fields current) (λ _. (refl, there)) (λ _. tt)

  fair_over : (field got : ℕ) → IsFairIf fields current (over_at current field got)
  fair_over field got =
      cond_both (nat_lt (current_of current field) got) (Some (r.ContentionOver field got (current_of current field))) None (IsFairIf fields current) (λ _. tt) (λ _. tt)

  fair_term : (term : SentTerm) → IsTermOf fields term → IsFairIf fields current (term_below current term)
  fair_term (t.Id id) is = tt
  fair_term (t.Equal field payload) is = fair_below field _ (record { field = is.field; there = is.there; allows = encrypted_equal payload is.field.kind is.kind })
  fair_term (t.Range field payload) is = fair_below field _ (record { field = is.field; there = is.there; allows = encrypted_range payload is.field.kind is.kind })

  fair_filter : (terms : List SentTerm) → AreTermsOf fields terms → IsFairIf fields current (filter_below current terms)
  fair_filter [] are = tt
  fair_filter (term ∷ terms) are = fair_or (term_below current term) (filter_below current terms) (fair_term term are.0) (fair_filter terms are.1)

  fair_cell : (field : ℕ) (cell : SentCell) → IsFairIf fields current (cell_over current field cell)
  fair_cell field (sent.Plain value) = tt
  fair_cell field (sent.Payload payload) = fair_over field _

  fair_cells : (cells : List (ℕ × SentCell)) → IsFairIf fields current (cells_over current cells)
  fair_cells [] = tt
  fair_cells (cell ∷ cells) = fair_or (cell_over current cell.0 cell.1) (cells_over current cells) (fair_cell cell.0 cell.1) (fair_cells cells)

module _ (fields : List Field) (state : State) where
  abbrev Fair : Done → Type 0
  Fair done = IsFair fields state.current done.reply

  unless_fair : (refused : Option Reply) (done : Done) → IsFairIf fields state.current refused → Fair done → Fair (unless_refused state refused done)
  unless_fair None done first second = second
  unless_fair (Some reply) done first second = first

  begin_fair : (kind : JobKind) (tokens : List FieldToken) (missing : Option ℕ) → Fair (begin_with kind tokens state missing)
  begin_fair kind tokens (Some field) = tt
  begin_fair kind tokens None = tt

  beside_fair : (kind : JobKind) (tokens : List FieldToken) (job : Option Job) → Fair (begin_beside kind tokens state job)
  beside_fair kind tokens (Some job) = tt
  beside_fair kind tokens None = begin_fair kind tokens (first_missing tokens (will_be_aside state))

  job_fair : (asked : ℕ) (job : Option Job) (go : Job → Done) → ((job : Job) → Fair (go job)) → Fair (on_job state asked job go)
  job_fair asked None go each = tt
  job_fair asked (Some job) go each = cond_both (job.number == asked) _ _ Fair (λ _. each job) (λ _. tt)

  step_fair : (job : Job) (done : UnitsDone) (mismatch : Option ℕ) → Fair (step_done state job done mismatch)
  step_fair job done (Some field) = tt
  step_fair job done None = tt

  end_fair : (job : Job) → Fair (end_running state job)
  end_fair job = cond_both (left_of state.jobs == 0) _ _ Fair (λ _. tt) (λ _. tt)

  find_fair : (ids : Bool) (found : List Stored) → IsFair fields state.current (find_reply ids found)
  find_fair true found = tt
  find_fair false found = tt

-- what a fair reply tells can be learned
fair_learned : (fields : List Field) (current : List ℕ) → IsGreatest fields current → (plain : PlainCommand) (reply : Reply) → IsFair fields current reply
    → CanLearn fields plain (outcome_of reply)
fair_learned fields current greatest plain (r.ContentionBelow field got now) (is, there) =
    up_to fields there.field field now there.there there.allows (subst (λ n. n ≤ greatest_of (kind_at fields field)) (sym is) (greatest field))
fair_learned fields current greatest plain (r.Raised to) fair = absurd fair
fair_learned fields current greatest plain (r.NotRaised asked now) fair = absurd fair
fair_learned fields current greatest plain r.Inserted fair = tt
fair_learned fields current greatest plain r.DuplicateId fair = tt
fair_learned fields current greatest plain (r.Updated count) fair = tt
fair_learned fields current greatest plain (r.Deleted count) fair = tt
fair_learned fields current greatest plain (r.Found rows) fair = tt
fair_learned fields current greatest plain (r.Ids ids) fair = tt
fair_learned fields current greatest plain (r.Begun job) fair = tt
fair_learned fields current greatest plain (r.Stepped left) fair = tt
fair_learned fields current greatest plain (r.Ended leaves) fair = tt
fair_learned fields current greatest plain r.Abandoned fair = tt
fair_learned fields current greatest plain (r.JobRunning job) fair = tt
fair_learned fields current greatest plain (r.NoJob asked running) fair = tt
fair_learned fields current greatest plain (r.TokenMissing field) fair = tt
fair_learned fields current greatest plain (r.TokenMismatch field) fair = tt
fair_learned fields current greatest plain (r.NotDone left) fair = tt
fair_learned fields current greatest plain (r.ContentionOver field got now) fair = tt

-- what a command leads to: its answer can be learned, and contentions are still within the greatest
record Taught (fields : List Field) (plain : PlainCommand) (done : Done) : Type 0 where
  learned : CanLearn fields plain (outcome_of done.reply)
  greatest : IsGreatest fields done.state.current

module _ (u : Under) (is : IsUnder u) (leaves : Bool) (contentions : Contentions) (state : State) (greatest : IsGreatest u.schema state.current) where
  fair_taught : (plain : PlainCommand) (done : Done) → done.state.current ≡ state.current → IsFair u.schema state.current done.reply → Taught u.schema plain done
  fair_taught plain done same fair = record {
    learned = fair_learned u.schema state.current greatest plain done.reply fair;
    greatest = subst (IsGreatest u.schema) (sym same) greatest;
  }

  raise_taught : (field asked : ℕ) → (there : IsFieldAt u.schema field (IsRaiseOf asked)) → Taught u.schema (p.Raise field asked) (raise state field asked)
  raise_taught field asked there =
      let within : asked ≤ greatest_of (kind_at u.schema field) =
      kind_there u.schema field there.field (λ kind. asked ≤ greatest_of kind) there.there there.kind.within in
      cond_both (nat_le asked (current_of state.current field)) _ _ (Taught u.schema (p.Raise field asked))
      (λ _. record {
        learned = up_to u.schema there.field field (current_of state.current field) there.there there.kind.encrypted (greatest field);
        greatest = greatest;
      })
      (λ _. record {
        learned = up_to u.schema there.field field asked there.there there.kind.encrypted within;
        greatest = λ other. elim (put_cases state.current field asked other) [
          | inl here ↦ subst (λ n. n ≤ greatest_of (kind_at u.schema other)) (sym here.1)
              (subst (λ f. asked ≤ greatest_of (kind_at u.schema f)) (sym here.0) within)
          | inr still ↦ subst (λ n. n ≤ greatest_of (kind_at u.schema other)) (sym still) (greatest other)
        ];
      })

  next_taught : (plain : PlainCommand) (command : Command) → Encodes u leaves contentions plain command → Fits u.schema command
      → (nonces : List (List ℕ)) (counts : List Count) → Taught u.schema plain (next state command nonces counts)
  next_taught (p.Raise field asked) (c.Raise named to) encodes fits nonces counts =
      subst (λ (x : ℕ × ℕ). Taught u.schema (p.Raise x.0 x.1) (raise state named to)) (λ i. (encodes.0 i, encodes.1 i))
      (raise_taught named to (fitting_laws u.schema (c.Raise named to) is.schema fits).of_schema)
  next_taught (p.Insert document) (c.Insert id cells) encodes fits nonces counts =
      fair_taught (p.Insert document) (next state (c.Insert id cells) nonces counts) (next-rises state (c.Insert id cells) nonces counts)
      (unless_fair u.schema state (refusal state.current (c.Insert id cells)) (served state (c.Insert id cells) nonces counts)
      (fair_cells u.schema state.current cells) (cond_both (has_document id state.docs) _ _ (Fair u.schema state) (λ _. tt) (λ _. tt)))
  next_taught (p.Find terms ids) (c.Find filter only) encodes fits nonces counts =
      fair_taught (p.Find terms ids) (next state (c.Find filter only) nonces counts) (next-rises state (c.Find filter only) nonces counts)
      (unless_fair u.schema state (refusal state.current (c.Find filter only)) (served state (c.Find filter only) nonces counts)
      (fair_filter u.schema state.current filter (fitting_laws u.schema (c.Find filter only) is.schema fits).of_schema)
      (find_fair u.schema state only _))
  next_taught (p.Update terms set) (c.Update filter cells) encodes fits nonces counts =
      fair_taught (p.Update terms set) (next state (c.Update filter cells) nonces counts) (next-rises state (c.Update filter cells) nonces counts)
      (unless_fair u.schema state (refusal state.current (c.Update filter cells)) (served state (c.Update filter cells) nonces counts)
      (fair_or u.schema state.current (filter_below state.current filter) (cells_over state.current cells)
      (fair_filter u.schema state.current filter (fitting_laws u.schema (c.Update filter cells) is.schema fits).of_schema.0)
      (fair_cells u.schema state.current cells))
      (cond_both (list_any (matches (sets_for state filter counts)) state.docs) _ _ (Fair u.schema state) (λ _. tt) (λ _. tt)))
  next_taught (p.Delete terms) (c.Delete filter) encodes fits nonces counts =
      fair_taught (p.Delete terms) (next state (c.Delete filter) nonces counts) (next-rises state (c.Delete filter) nonces counts)
      (unless_fair u.schema state (refusal state.current (c.Delete filter)) (served state (c.Delete filter) nonces counts)
      (fair_filter u.schema state.current filter (fitting_laws u.schema (c.Delete filter) is.schema fits).of_schema)
      (cond_both (list_any (matches (sets_for state filter counts)) state.docs) _ _ (Fair u.schema state) (λ _. tt) (λ _. tt)))
  next_taught (p.Begin kind pairs) (c.Begin sent tokens) encodes fits nonces counts =
      fair_taught (p.Begin kind pairs) (next state (c.Begin sent tokens) nonces counts) (next-rises state (c.Begin sent tokens) nonces counts)
      (beside_fair u.schema state sent tokens state.jobs.job)
  next_taught (p.Step job limit) (c.Step asked most) encodes fits nonces counts =
      fair_taught (p.Step job limit) (next state (c.Step asked most) nonces counts) (next-rises state (c.Step asked most) nonces counts)
      (job_fair u.schema state asked state.jobs.job _ (λ running. let done = step_units state running nonces counts in step_fair u.schema state running done done.mismatch))
  next_taught (p.End job) (c.End asked) encodes fits nonces counts =
      fair_taught (p.End job) (next state (c.End asked) nonces counts) (next-rises state (c.End asked) nonces counts)
      (job_fair u.schema state asked state.jobs.job _ (end_fair u.schema state))
  next_taught (p.Abandon job) (c.Abandon asked) encodes fits nonces counts =
      fair_taught (p.Abandon job) (next state (c.Abandon asked) nonces counts) (next-rises state (c.Abandon asked) nonces counts)
      (job_fair u.schema state asked state.jobs.job _ (λ running. tt))
  next_taught plain command encodes fits nonces counts = absurd encodes

first_within : (kind : FieldKind) → IsKind kind → first_contention kind ≤ greatest_of kind
first_within k.Plain is = omega arith
first_within (k.Equality id kind contention greatest) is = is.1.ordered
first_within (k.Range id kind contention greatest domain) is = is.2.ordered

module _ (u : Under) (is : IsUnder u) where
  -- at first each field has its own contention
  opening_greatest : IsGreatest u.schema (opening u.schema).current
  opening_greatest number = elim ((slice_get_cases u.schema number).1) [
    | inl found ↦
        let now : current_of (opening u.schema).current number ≡ first_contention found.0.kind =
        get_or-map (λ (field : Field). first_contention field.kind) u.schema number found.0 0 found.1 ∙ ap (λ (field : Field). first_contention field.kind) found.3 in
        subst (λ n. n ≤ greatest_of (kind_at u.schema number)) (sym now)
        (subst (λ (o : Option Field). first_contention found.0.kind ≤ greatest_of (kind_or_plain o)) (sym found.2)
        (first_within found.0.kind (subst (λ (field : Field). IsKind field.kind) found.3 (is.schema.each number found.0 found.1).kind)))
    | inr beyond ↦
        let none : current_of (opening u.schema).current number ≡ 0 =
        get_or_past (map (λ (field : Field). first_contention field.kind) u.schema) number 0 (subst (λ n. n ≤ number) (sym (length-map u.schema (λ (field : Field). first_contention field.kind))) beyond.0) in
        omega (arith, none)
  ]

  -- the last command of a journal, from a state
  last_learned : (callers : Callers) (plains : List PlainCommand) (plain : PlainCommand) (entries : List JournalEntry) (entry : JournalEntry) (state : State)
      → IsLegalFrom u.schema state (entries ++ entry ∷ []) → EncodedFrom u callers (plains ++ plain ∷ []) (entries ++ entry ∷ []) → IsGreatest u.schema state.current
      → CanLearn u.schema plain entry.outcome
  unfolding done
  last_learned callers [] plain [] entry state legal encoded greatest =
      let taught = next_taught u is encoded.0.leaves (callers entry.caller).contentions state greatest plain entry.command encoded.0.encodes legal.0.fits entry.nonces entry.counts in
      subst (CanLearn u.schema plain) (sym legal.0.outcome) taught.learned
  last_learned callers [] plain (e ∷ []) entry state legal encoded greatest = absurd encoded.1
  last_learned callers [] plain (e ∷ f ∷ entries) entry state legal encoded greatest = absurd encoded.1
  last_learned callers (q ∷ []) plain [] entry state legal encoded greatest = absurd encoded.1
  last_learned callers (q ∷ s ∷ plains) plain [] entry state legal encoded greatest = absurd encoded.1
  last_learned callers (q ∷ plains) plain (e ∷ entries) entry state legal encoded greatest =
      let taught = next_taught u is encoded.0.leaves (callers e.caller).contentions state greatest q e.command encoded.0.encodes legal.0.fits e.nonces e.counts in
      last_learned (callers_next callers e.caller q e.outcome) plains plain entries entry (done state e).state legal.1 encoded.1 taught.greatest

  pub answers_can_be_learned : AnswersCanBeLearned u
  unfolding IsLegal
  answers_can_be_learned plains plain journal entry encoded =
      last_learned (opening_callers u.schema) plains plain journal entry (opening u.schema) encoded.legal encoded.encoded opening_greatest
