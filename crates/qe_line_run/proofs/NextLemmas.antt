-- The line at a place, played by its caller's client.
use Rattle.std.proofs.Common.{◌≡◌, ◌<◌, ◌+◌, ℕ, List, [], ◌∷◌, ◌++◌, length, get_or, set, take, true, Ok, sym, ap, ◌∙◌, subst, arith}
use Rattle.qe_plain.specs.declared.command.PlainCommand.{PlainCommand}
use Rattle.qe_fits.specs.Fits.{fits}
use Rattle.qe_field.specs.declared.field.Field.{Field}
use Rattle.qe_schema.specs.Resolved.{IsResolved}
use Rattle.qe_protocol.specs.declared.journal.JournalEntry.{JournalEntry}
use Rattle.qe_protocol.specs.declared.reply.Outcome.{Outcome}
use Rattle.qe_protocol.specs.declared.reply.Reply.{Reply}
use Rattle.qe_protocol.specs.Journal.{done, state_of}
use Rattle.qe_protocol.specs.Next.{outcome_of}
use Rattle.qe_script.specs.declared.script.Line.{Line}
use Rattle.qe_script.specs.declared.script.Script.{Script}
use Rattle.qe_labels.specs.Under.{Under}
use Rattle.qe_encodes.specs.Callers.{Caller, Contentions, learned}
use Rattle.qe_encodes.specs.Fields.{IsUnder}
use Rattle.qe_encodes.specs.Sending.{Sender}
use Rattle.qe_encodes.specs.Words.{sought_words, stored_words}
use Rattle.qe_standing.specs.Laws.{CanLearn}
use Rattle.qe_meant.specs.Held.{under_of}
use Rattle.qe_opening.specs.Answer.{answer_of}
use Rattle.qe_runs.specs.Runs.{setting_of}
use Rattle.qe_engine.specs.Engines.{Engined, state_now}
use Rattle.qe_client.specs.Clients.{Held, with_contentions}
use Rattle.qe_line_played.specs.Played.{IsAnswered}
use Rattle.qe_line_played.specs.declared.played.Played.{Played}
use Rattle.qe_line_run.specs.Playing.{HasPlayed, IsMeantScript, IsReadAlways, TeachesAs}
use Rattle.qe_line_run.specs.Running.{HaveRun, IsClient, callers_now}
use Rattle.qe_line_run.proofs.LineLemmas as line_lemmas
use Rattle.qe_line_run.proofs.LineLemmas.{LineAt, line_at}

-- a client and a line at a place, where the lines before it were run
pub record IsNext (script : Script) (place : ℕ) (engine : Engined) (clients : List Held) (line : Line) (client : Held) : Type 0 where
  pub line_is : LineAt script place line
  pub have : HaveRun (setting_of script) (take place script.lines) engine clients
  pub client_is : IsClient (setting_of script) (callers_now (setting_of script) (take place script.lines) engine.journal) line.caller client
  pub within : line.caller < length clients
  pub under : IsUnder (under_of script)

module _ (script : Script) (place : ℕ) (engine : Engined) (clients : List Held) (line : Line) (is : IsMeantScript script)
    (have : HaveRun (setting_of script) (take place script.lines) engine clients) (below : place < length script.lines)
    (there : line ≡ get_or script.lines place line) where
  pub caller_within : line.caller < length clients
  caller_within = let at = line_at script place line is below there in omega (arith, at.read.caller, have.clients_are.count)

  pub is_next : (client : Held) → client ≡ get_or clients line.caller client → IsNext script place engine clients line client
  is_next client client_there = record {
    line_is = line_at script place line is below there;
    have = have;
    client_is = subst (IsClient (setting_of script) (callers_now (setting_of script) (take place script.lines) engine.journal) line.caller)
        (sym client_there) (have.clients_are.each line.caller client caller_within);
    within = caller_within;
    under = is.under;
  }

module _ (script : Script) (place : ℕ) (engine : Engined) (clients : List Held) (line : Line) (client : Held)
    (next : IsNext script place engine clients line client) where
  abbrev lines : List Line
  lines = take place script.lines

  pub schema_next : engine.schema ≡ client.sender.under.schema
  schema_next = line_lemmas.schema_is (setting_of script) lines line engine clients client next.have next.client_is

  pub resolved_next : IsResolved client.sender.under.schema line.command
  resolved_next = line_lemmas.means_here (setting_of script) lines line engine clients client next.have next.client_is next.line_is.means

  pub fits_next : fits client.sender.under.schema line.command ≡ true
  fits_next = line_lemmas.fits_here (setting_of script) lines line engine clients client next.have next.client_is next.line_is.read.fitting

  pub read_next : IsReadAlways client engine line
  read_next = line_lemmas.read_always (setting_of script) lines line engine clients client next.have next.client_is next.line_is.meant next.under

  -- it was played
  module _ (client_after : Held) (engine_after : Engined) (played : Played)
      (answered : IsAnswered client client_after engine engine_after line.caller line.command played) (outcome : Outcome) (reply : Reply)
      (outcome_is : outcome ≡ answered.entry.outcome) (teaches : TeachesAs outcome reply) where
    abbrev entry : JournalEntry
    entry = answered.entry

    under_is : client.sender.under ≡ under_of script
    under_is = ap (λ (sender : Sender). sender.under) next.client_is.sender

    pub can_learn_next : CanLearn client_after.sender.under.schema line.command (outcome_of reply)
    can_learn_next =
        subst (λ (sender : Sender). CanLearn sender.under.schema line.command (outcome_of reply)) (sym (answered.entered.sender ∙ next.client_is.sender))
        (teaches.can script.schema line.command
        (subst (CanLearn script.schema line.command) (sym outcome_is)
        (line_lemmas.can_learn (setting_of script) lines line engine clients client next.have next.client_is entry answered.entered.caller
        answered.entered.allowed answered.entered.sent next.line_is.meant next.under)))

    learned_is : (contentions : Contentions) → learned contentions line.command (outcome_of reply) ≡ learned contentions line.command entry.outcome
    learned_is contentions = teaches.same contentions line.command ∙ ap (learned contentions line.command) outcome_is

    pub has_played : (taught : Held) → taught ≡ with_contentions client_after (learned client_after.caller.contentions line.command (outcome_of reply))
        → HasPlayed script place engine engine_after (set clients line.caller taught) played
    has_played taught taught_is = record {
      line = line;
      at = next.line_is.at;
      entry = entry;
      added = answered.entered.added;
      have = subst (λ (ls : List Line). HaveRun (setting_of script) ls engine_after (set clients line.caller taught)) (sym next.line_is.at)
          (line_lemmas.have_more (setting_of script) lines line engine clients client next.have next.client_is entry engine_after client_after taught
          next.within answered.entered (ap (λ (held : Held). held.sender) taught_is)
          (ap (λ (held : Held). held.caller) taught_is
          ∙ ap (λ (cs : Contentions). record { number = client_after.caller.number; contentions = cs }) (learned_is client_after.caller.contentions)));
      indexed = answered.sent.indexed ∙ ap (λ (u : Under). stored_words u.schema line.command entry.command) under_is;
      asked = answered.sent.asked ∙ ap (λ (u : Under). sought_words u.schema line.command entry.command) under_is;
      reply = subst (λ (x : Under × List Field). answer_of x.0 (done (state_of x.1 engine.journal) entry).reply ≡ Ok played.reply)
          (λ i. (under_is i, next.have.schema i)) answered.reply;
    }
