-- One line of a run.
use Rattle.std.specs.Prelude.{◌≡◌, ℕ, ◌<◌, ◌+◌, List, [], ◌∷◌, ◌++◌, length, take, Ok}
use Rattle.std.specs.List.{AllByRecursion}
use Rattle.qe_field.specs.declared.field.Field.{Field}
use Rattle.qe_plain.specs.declared.command.PlainCommand.{PlainCommand}
use Rattle.qe_protocol.specs.declared.journal.JournalEntry.{JournalEntry}
use Rattle.qe_protocol.specs.declared.reply.Outcome.{Outcome}
use Rattle.qe_protocol.specs.Journal.{IsAllowed, done, state_of}
use Rattle.qe_protocol.specs.Next.{outcome_of}
use Rattle.qe_protocol.specs.declared.reply.Reply.{Reply}
use Rattle.qe_script.specs.declared.script.Line.{Line}
use Rattle.qe_script.specs.declared.script.Script.{Script}
use Rattle.qe_script.specs.Read.{IsScript}
use Rattle.qe_encodes.specs.Callers.{Contentions, learned}
use Rattle.qe_encodes.specs.Fields.{IsUnder}
use Rattle.qe_encodes.specs.Meant.{IsMeant}
use Rattle.qe_encodes.specs.Sending.{IsSent}
use Rattle.qe_encodes.specs.Words.{sought_words, stored_words}
use Rattle.qe_meant.specs.Held.{under_of}
use Rattle.qe_opening.specs.Answer.{answer_of}
use Rattle.qe_opening.specs.Laws.{IsRead}
use Rattle.qe_runs.specs.Runs.{setting_of}
use Rattle.qe_standing.specs.Laws.{CanLearn}
use Rattle.qe_engine.specs.Engines.{Engined, state_now}
use Rattle.qe_client.specs.Clients.{Held}
use Rattle.qe_line_played.specs.declared.played.Played.{Played}
use Rattle.qe_line_run.specs.Running.{HaveRun}

-- a script that was read, whose commands mean something
pub record IsMeantScript (script : Script) : Type 0 where
  pub read : IsScript script
  pub under : IsUnder (under_of script)
  pub meant : AllByRecursion (λ line. IsMeant script.schema line.command) script.lines

-- whatever an engine answers to what a client sends for a line is read
abbrev pub IsReadAlways : Held → Engined → Line → Type 0
IsReadAlways client engine line = (entry : JournalEntry) → entry.caller ≡ line.caller → IsAllowed engine.schema (state_now engine) entry
    → IsSent client.sender client.caller line.command entry → IsRead client.sender.under (done (state_now engine) entry).reply

-- a reply teaches the same contention as an outcome does
pub record TeachesAs (outcome : Outcome) (reply : Reply) : Type 0 where
  pub same : (contentions : Contentions) (plain : PlainCommand) → learned contentions plain (outcome_of reply) ≡ learned contentions plain outcome
  pub can : (fields : List Field) (plain : PlainCommand) → CanLearn fields plain outcome → CanLearn fields plain (outcome_of reply)

-- the line at a place was played: lines were run up to and with it, by one entry more
pub record HasPlayed (script : Script) (place : ℕ) (engine engine_after : Engined) (clients_after : List Held) (played : Played) : Type 0 where
  pub line : Line
  pub at : take (place + 1) script.lines ≡ take place script.lines ++ line ∷ []
  pub entry : JournalEntry
  pub added : engine_after.journal ≡ engine.journal ++ entry ∷ []
  pub have : HaveRun (setting_of script) (take (place + 1) script.lines) engine_after clients_after
  pub indexed : played.sent.indexed ≡ stored_words script.schema line.command entry.command
  pub asked : played.sent.asked ≡ sought_words script.schema line.command entry.command
  pub reply : answer_of (under_of script) (done (state_of script.schema engine.journal) entry).reply ≡ Ok played.reply
