-- The line at a place: its caller's client plays it, what is answered is read and can be learned, and lines were run up to and with it.
use Rattle.std.proofs.Common.{◌≡◌, ◌<◌, ◌+◌, ℕ, zero, suc, List, [], ◌∷◌, ◌++◌, length, get_or, set, take, true, refl, sym, ap, ◌∙◌, subst, arith}
use Rattle.std.proofs.lemmas.List.{take_more}
use Rattle.std.specs.List.{AllByRecursion}
use Rattle.qe_field.specs.declared.field.Field.{Field}
use Rattle.qe_plain.specs.declared.command.PlainCommand.{PlainCommand}
use Rattle.qe_schema.specs.Fits.{fits}
use Rattle.qe_schema.specs.Resolved.{IsResolved}
use Rattle.qe_protocol.specs.declared.journal.JournalEntry.{JournalEntry}
use Rattle.qe_protocol.specs.Journal.{IsAllowed, done, state_of}
use Rattle.qe_script.specs.declared.script.Line.{Line}
use Rattle.qe_script.specs.declared.script.Script.{Script}
use Rattle.qe_script.specs.Read as script_read
use Rattle.qe_labels.specs.Under.{Under}
use Rattle.qe_encodes.specs.Callers.{Caller, Callers, caller_next, callers_next, learned, opening_callers}
use Rattle.qe_encodes.specs.Encoded.{IsEncoded}
use Rattle.qe_encodes.specs.Fields.{IsUnder}
use Rattle.qe_encodes.specs.Meant.{IsMeant}
use Rattle.qe_encodes.specs.Sending.{Sender, IsSent}
use Rattle.qe_standing.specs.Laws.{CanLearn}
use Rattle.qe_standing.proofs.LearnLemmas.{answers_can_be_learned}
use Rattle.qe_opening.specs.Laws.{IsRead}
use Rattle.qe_opening.proofs.LawLemmas.{journals_are_read}
use Rattle.qe_runs.specs.Runs.{Setting, IsRun, callers_after, commands_of, sender_of, setting_of}
use Rattle.qe_runs.proofs.RunLemmas.{run_encoded, runs_grow}
use Rattle.qe_engine.specs.Engines.{Engined, state_now}
use Rattle.qe_client.specs.Clients.{Held}
use Rattle.qe_line_played.specs.Played.{IsEntered}
use Rattle.qe_line_run.specs.Playing.{IsMeantScript, IsReadAlways}
use Rattle.qe_line_run.specs.Running.{AreClients, HaveRun, IsClient, callers_now}
use Rattle.qe_line_run.proofs.ClientLemmas.{clients_next}
use Rattle.qe_line_run.proofs.FoldLemmas.{callers_more, commands_more}

each_at : {A : Type 0} (P : A → Type 0) (xs : List A) (i : ℕ) (d : A) → AllByRecursion P xs → i < length xs → P (get_or xs i d)
each_at P [] i d all below = absurd (omega arith)
each_at P (x ∷ xs) zero d all below = all.0
each_at P (x ∷ xs) (suc i) d all below = each_at P xs i d all.1 (omega arith)

each_before : {A : Type 0} (P : A → Type 0) (xs : List A) (i : ℕ) → AllByRecursion P xs → AllByRecursion P (take i xs)
each_before P xs zero all = tt
each_before P [] (suc i) all = tt
each_before P (x ∷ xs) (suc i) all = (all.0, each_before P xs i all.1)

-- what is known of the line at a place of a script
pub record LineAt (script : Script) (place : ℕ) (line : Line) : Type 0 where
  pub at : take (place + 1) script.lines ≡ take place script.lines ++ line ∷ []
  pub read : script_read.IsRead script.schema script.callers line
  pub means : IsMeant script.schema line.command
  pub meant : AllByRecursion (λ (l : Line). IsMeant script.schema l.command) (take place script.lines ++ line ∷ [])

pub line_at : (script : Script) (place : ℕ) (line : Line) → IsMeantScript script → place < length script.lines → line ≡ get_or script.lines place line
    → LineAt script place line
line_at script place line is below there =
    let at : take (place + 1) script.lines ≡ take place script.lines ++ line ∷ [] =
    take_more script.lines place line below ∙ ap (λ (l : Line). take place script.lines ++ l ∷ []) (sym there) in
    record {
      at = at;
      read = subst (script_read.IsRead script.schema script.callers) (sym there)
          (each_at (script_read.IsRead script.schema script.callers) script.lines place line is.read.lines below);
      means = subst (λ (l : Line). IsMeant script.schema l.command) (sym there)
          (each_at (λ (l : Line). IsMeant script.schema l.command) script.lines place line is.meant below);
      meant = subst (AllByRecursion (λ (l : Line). IsMeant script.schema l.command)) at
          (each_before (λ (l : Line). IsMeant script.schema l.command) script.lines (place + 1) is.meant);
    }

-- a client of a run
module _ (setting : Setting) (lines : List Line) (line : Line) (engine : Engined) (clients : List Held) (client : Held)
    (have : HaveRun setting lines engine clients) (client_is : IsClient setting (callers_now setting lines engine.journal) line.caller client) where
  under_is : client.sender.under ≡ setting.under
  under_is = ap (λ (sender : Sender). sender.under) client_is.sender

  pub schema_is : engine.schema ≡ client.sender.under.schema
  schema_is = have.schema ∙ sym (ap (λ (u : Under). u.schema) under_is)

  pub means_here : IsMeant setting.under.schema line.command → IsResolved client.sender.under.schema line.command
  means_here means = subst (λ (u : Under). IsResolved u.schema line.command) (sym under_is) means.resolved

  pub fits_here : fits setting.under.schema line.command ≡ true → fits client.sender.under.schema line.command ≡ true
  fits_here fit = subst (λ (u : Under). fits u.schema line.command ≡ true) (sym under_is) fit

  -- an entry that the client sends for the line
  module _ (entry : JournalEntry) (caller : entry.caller ≡ line.caller) (allowed : IsAllowed engine.schema (state_now engine) entry)
      (sent : IsSent client.sender client.caller line.command entry) where
    run_more : IsRun setting (lines ++ line ∷ []) (engine.journal ++ entry ∷ [])
    run_more = (runs_grow setting).more lines engine.journal line entry have.run
        (subst (λ (fields : List Field). IsAllowed fields (state_of fields engine.journal) entry) have.schema allowed)
        (record {
          caller = caller;
          sent = subst (λ (x : Sender × Caller). IsSent x.0 x.1 line.command entry) (λ i. (client_is.sender i, client_is.caller i)) sent;
        })

    module _ (meant : AllByRecursion (λ (l : Line). IsMeant setting.under.schema l.command) (lines ++ line ∷ [])) (is : IsUnder setting.under) where
      encoded_more : IsEncoded setting.under (commands_of lines ++ line.command ∷ []) (engine.journal ++ entry ∷ [])
      encoded_more =
          subst (λ (plains : List PlainCommand). IsEncoded setting.under plains (engine.journal ++ entry ∷ [])) (commands_more lines line)
          (run_encoded setting (lines ++ line ∷ []) (engine.journal ++ entry ∷ []) meant run_more)

      read_here : IsRead client.sender.under (done (state_now engine) entry).reply
      read_here =
          subst (λ (u : Under). IsRead u (done (state_now engine) entry).reply) (sym under_is)
          (subst (λ (fields : List Field). IsRead setting.under (done (state_of fields engine.journal) entry).reply) (sym have.schema)
          (journals_are_read setting.under is (commands_of lines ++ line.command ∷ []) engine.journal entry encoded_more))

      pub can_learn : CanLearn setting.under.schema line.command entry.outcome
      can_learn = answers_can_be_learned setting.under is (commands_of lines) line.command engine.journal entry encoded_more

  pub read_always : AllByRecursion (λ (l : Line). IsMeant setting.under.schema l.command) (lines ++ line ∷ []) → IsUnder setting.under
      → IsReadAlways client engine line
  read_always meant is entry caller allowed sent = read_here entry caller allowed sent meant is

  -- lines were run up to and with it, by the client as it stands after it was taught
  module _ (entry : JournalEntry) (engine_after : Engined) (client_after client_taught : Held) (within : line.caller < length clients)
      (entered : IsEntered client client_after engine engine_after line.caller line.command entry)
      (sender : client_taught.sender ≡ client_after.sender)
      (caller : client_taught.caller ≡ record { number = client_after.caller.number; contentions = learned client_after.caller.contentions line.command entry.outcome }) where
    abbrev callers : Callers
    callers = callers_now setting lines engine.journal

    taught : client_taught.caller ≡ caller_next (callers line.caller) line.command entry.outcome
    taught =
        caller
        ∙ ap (λ (k : Caller). record { number = k.number; contentions = learned k.contentions line.command entry.outcome }) entered.next
        ∙ ap (λ (k : Caller). caller_next k line.command entry.outcome) client_is.caller

    callers_are : callers_now setting (lines ++ line ∷ []) engine_after.journal ≡ callers_next callers line.caller line.command entry.outcome
    callers_are =
        ap (λ (journal : List JournalEntry). callers_now setting (lines ++ line ∷ []) journal) entered.added
        ∙ callers_more (opening_callers setting.under.schema) lines engine.journal line entry ((runs_grow setting).many lines engine.journal have.run)

    pub have_more : HaveRun setting (lines ++ line ∷ []) engine_after (set clients line.caller client_taught)
    have_more = record {
      schema = entered.schema ∙ have.schema;
      run = subst (IsRun setting (lines ++ line ∷ [])) (sym entered.added) (run_more entry entered.caller entered.allowed entered.sent);
      clients_are = subst (λ (cs : Callers). AreClients setting cs (set clients line.caller client_taught)) (sym callers_are)
          (clients_next setting callers clients have.clients_are line.caller line.command entry.outcome client_taught within
          (sender ∙ entered.sender ∙ client_is.sender) taught);
    }
