-- What an entry opened, and what it was searched for, tell its stray words.
use Rattle.std.proofs.Common.{◌≡◌, ℕ, Bool, true, false, List, [], ◌∷◌, ◌++◌, map, Option, None, Some, refl, sym, ap, ◌∙◌, subst}
use Rattle.std.proofs.lemmas.Bool.{cond_both, MatchBool-at_false, MatchBool-at_true}
use Rattle.std.specs.Bool.{MatchBool}
use Rattle.std.specs.List.{list_any}
use Rattle.std.specs.Prelude.{◌==◌, bytes_eq, nat_le, if◌then◌else◌}
use Rattle.qe_base.specs.declared.maintenance.Count.{Count}
use Rattle.qe_base.specs.declared.maintenance.JobKind.{JobKind}
use Rattle.qe_command.specs.declared.command.Command.{Command}
use Rattle.qe_command.specs.declared.command.Command.TheVariants as c
use Rattle.qe_ecoc.specs.declared.rows.Entry.{Entry}
use Rattle.qe_encodes.specs.Counted.{opened_by, stray_words, strays_of}
use Rattle.qe_encodes.specs.Payloads.{ecoc_token}
use Rattle.qe_labels.specs.Under.{Under}
use Rattle.qe_protocol.specs.Contention.{current_of, refusal}
use Rattle.qe_protocol.specs.Documents.{has_document}
use Rattle.qe_protocol.specs.Filters.{matches}
use Rattle.qe_protocol.specs.Jobs.{AllowedOn, begin_beside, begin_with, end_running, first_missing, on_job, step_done, step_units, will_be_aside, work_of}
use Rattle.qe_protocol.specs.Next.{AllowedCounts, next, served, sets_for, unless_refused}
use Rattle.qe_protocol.specs.State.{Done, Job, State, answered, left_of}
use Rattle.qe_protocol.specs.Units.{AllowedUnit, AllowedUnits, UnitsDone, Work, captured_done, doomed_done, is_mismatch, opened_row, row_done, stopped, token_for, unit_then, units, with_opened}
use Rattle.qe_protocol.specs.declared.reply.Reply.{Reply}
use Rattle.qe_protocol.specs.declared.reply.Reply.TheVariants as r
use Rattle.qe_tokens.specs.declared.words.FieldToken.{FieldToken}
use Rattle.qe_tokens.specs.declared.words.Word.{Word}
use Rattle.qe_tokens.specs.declared.words.Word.TheVariants.{Stray}
use Rattle.qe_strays.specs.Strays.{opened_strays}

abbrev fields_of : List Entry → List ℕ
fields_of rows = map (λ row. row.field) rows

module _ (u : Under) (kind : JobKind) (tokens : List FieldToken) where
  abbrev Match : List Count → UnitsDone → Type 0
  Match counts done = opened_strays u tokens (fields_of done.opened) counts ≡ strays_of u tokens done.opened

  abbrev one_word : Entry → List ℕ → List Word
  one_word row token = if bytes_eq (token_for tokens row.field) (ecoc_token u row.field) then [] else Stray token ∷ []

  match_by : (nonce : List ℕ) (nonces : List (List ℕ)) (rows : List Entry) (doomed captured : List (List ℕ)) (work : Work) (counts : List Count)
      → ((after : Work) (left : List Count) → AllowedUnits kind tokens nonces after left → Match left (units kind tokens nonces after left))
      → AllowedUnit (AllowedUnits kind tokens nonces) kind tokens nonce rows doomed captured work counts
      → Match counts (unit_then (units kind tokens nonces) kind tokens nonce rows doomed captured work counts)
  match_by nonce nonces (row ∷ rest) doomed captured work [] more allowed = absurd allowed
  match_by nonce nonces (row ∷ rest) doomed captured work (count ∷ counts) more allowed =
      let after = row_done kind tokens nonce work row rest count in
      let one : one_word row count.token ≡ one_word row (opened_row tokens row).token = ap (one_word row) allowed.0.searched in
      cond_both (is_mismatch work.rows count) (stopped work (Some row.field) (row ∷ []) counts) (with_opened row (units kind tokens nonces after counts))
      (Match (count ∷ counts))
      (λ _. ap (λ words. words ++ []) one)
      (λ no i. one i ++ more after counts (MatchBool-at_false (counts ≡ []) (AllowedUnits kind tokens nonces after counts) no allowed.1) i)
  match_by nonce nonces [] (id ∷ rest) captured work counts more allowed = more (doomed_done work id rest) counts allowed
  match_by nonce nonces [] [] (id ∷ rest) work counts more allowed = more (captured_done work id rest) counts allowed
  match_by nonce nonces [] [] [] work counts more allowed = refl

  units_match : (nonces : List (List ℕ)) (work : Work) (counts : List Count) → AllowedUnits kind tokens nonces work counts → Match counts (units kind tokens nonces work counts)
  units_match [] work counts allowed = refl
  units_match (nonce ∷ nonces) work counts allowed =
      match_by nonce nonces work.aside work.doomed work.captured work counts (λ after left is. units_match nonces after left is) allowed

-- the tokens are those of the job that runs, if one does
abbrev pub Holds : List FieldToken → Option Job → Type 0
Holds tokens None = Unit {0}
Holds tokens (Some job) = job.tokens ≡ tokens

module _ (u : Under) (state : State) (nonces : List (List ℕ)) (counts : List Count) where
  step_opened : (job : Job) (done : UnitsDone) (mismatch : Option ℕ) → (step_done state job done mismatch).opened ≡ fields_of done.opened
  step_opened job done (Some field) = refl
  step_opened job done None = refl

  abbrev stepping : Job → Done
  stepping job = let done = step_units state job nonces counts in step_done state job done done.mismatch

  abbrev words_by : ℕ → Option Job → List Word
  words_by asked job = let opened = opened_by state asked nonces counts job in strays_of u opened.0 opened.1

  abbrev opened_if : Bool → Job → List FieldToken × List Entry
  opened_if b job = if b then (job.tokens, (step_units state job nonces counts).opened) else ([], [])

  step_by : (asked : ℕ) (tokens : List FieldToken) (job : Option Job) (opened : List ℕ) → Holds tokens job → opened ≡ (on_job state asked job stepping).opened
      → AllowedOn asked job counts (λ running. AllowedUnits running.kind running.tokens nonces (work_of state running) counts)
      → opened_strays u tokens opened counts ≡ words_by asked job
  step_by asked tokens None opened holds is allowed = ap (λ fields. opened_strays u tokens fields counts) is
  step_by asked tokens (Some job) opened holds is allowed =
      (elim (job.number == asked) as (λ b. opened ≡ (if b then stepping job else answered state (r.NoJob asked job.number)).opened
      → MatchBool b (AllowedUnits job.kind job.tokens nonces (work_of state job) counts) (counts ≡ [])
      → opened_strays u tokens opened counts ≡ strays_of u (opened_if b job).0 (opened_if b job).1) [
        | true ↦ λ same may.
            let done = step_units state job nonces counts in
            let fields : opened ≡ fields_of done.opened = same ∙ step_opened job done done.mismatch in
            ap (λ f. opened_strays u tokens f counts) fields ∙ ap (λ t. opened_strays u t (fields_of done.opened) counts) (sym holds)
            ∙ units_match u job.kind job.tokens nonces (work_of state job) counts may
        | false ↦ λ same may. ap (λ fields. opened_strays u tokens fields counts) same
      ]) is allowed

-- no other command opens a row
module _ (state : State) where
  abbrev Nothing : Done → Type 0
  Nothing done = done.opened ≡ []

  begin_with-nothing : (kind : JobKind) (tokens : List FieldToken) (missing : Option ℕ) → Nothing (begin_with kind tokens state missing)
  begin_with-nothing kind tokens (Some field) = refl
  begin_with-nothing kind tokens None = refl

  begin-nothing : (kind : JobKind) (tokens : List FieldToken) (job : Option Job) → Nothing (begin_beside kind tokens state job)
  begin-nothing kind tokens (Some job) = refl
  begin-nothing kind tokens None = begin_with-nothing kind tokens (first_missing tokens (will_be_aside state))

  on_job-nothing : (asked : ℕ) (job : Option Job) (go : Job → Done) → ((job : Job) → Nothing (go job)) → Nothing (on_job state asked job go)
  on_job-nothing asked None go each = refl
  on_job-nothing asked (Some job) go each = cond_both (job.number == asked) _ _ Nothing (λ _. each job) (λ _. refl)

  end-nothing : (job : Job) → Nothing (end_running state job)
  end-nothing job = cond_both (left_of state.jobs == 0) _ _ Nothing (λ _. refl) (λ _. refl)

  refused-nothing : (refused : Option Reply) (done : Done) → Nothing done → Nothing (unless_refused state refused done)
  refused-nothing None done nothing = nothing
  refused-nothing (Some reply) done nothing = refl

module _ (u : Under) (state : State) (nonces : List (List ℕ)) (counts : List Count) (tokens : List FieldToken) (opened : List ℕ) where
  none_opened : opened ≡ [] → opened_strays u tokens opened counts ≡ []
  none_opened none = ap (λ fields. opened_strays u tokens fields counts) none

  pub opened_match : (command : Command) → opened ≡ (next state command nonces counts).opened → AllowedCounts state command nonces counts → Holds tokens state.jobs.job
      → opened_strays u tokens opened counts ≡ stray_words u state command nonces counts
  opened_match (c.Insert id cells) is allowed holds =
      none_opened (is ∙ refused-nothing state (refusal state.current (c.Insert id cells)) (served state (c.Insert id cells) nonces counts)
      (cond_both (has_document id state.docs) _ _ (Nothing state) (λ _. refl) (λ _. refl)))
  opened_match (c.Find terms ids) is allowed holds =
      none_opened (is ∙ refused-nothing state (refusal state.current (c.Find terms ids)) (served state (c.Find terms ids) nonces counts) refl)
  opened_match (c.Update terms set) is allowed holds =
      none_opened (is ∙ refused-nothing state (refusal state.current (c.Update terms set)) (served state (c.Update terms set) nonces counts)
      (cond_both (list_any (matches (sets_for state terms counts)) state.docs) _ _ (Nothing state) (λ _. refl) (λ _. refl)))
  opened_match (c.Delete terms) is allowed holds =
      none_opened (is ∙ refused-nothing state (refusal state.current (c.Delete terms)) (served state (c.Delete terms) nonces counts)
      (cond_both (list_any (matches (sets_for state terms counts)) state.docs) _ _ (Nothing state) (λ _. refl) (λ _. refl)))
  opened_match (c.Begin kind sent) is allowed holds = none_opened (is ∙ begin-nothing state kind sent state.jobs.job)
  opened_match (c.Step asked limit) is allowed holds = step_by u state nonces counts asked tokens state.jobs.job opened holds is allowed
  opened_match (c.End asked) is allowed holds = none_opened (is ∙ on_job-nothing state asked state.jobs.job _ (end-nothing state))
  opened_match (c.Abandon asked) is allowed holds = none_opened (is ∙ on_job-nothing state asked state.jobs.job _ (λ job. refl))
  opened_match (c.Raise field contention) is allowed holds =
      none_opened (is ∙ cond_both (nat_le contention (current_of state.current field)) _ _ (Nothing state) (λ _. refl) (λ _. refl))
