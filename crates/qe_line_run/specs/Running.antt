-- How far the engine and the clients of a run of a script's lines have come.
use Rattle.std.specs.Prelude.{◌≡◌, ℕ, ◌<◌, List, length, slice_index_or}
use Rattle.qe_protocol.specs.declared.journal.JournalEntry.{JournalEntry}
use Rattle.qe_script.specs.declared.script.Line.{Line}
use Rattle.qe_encodes.specs.Callers.{Callers, opening_callers}
use Rattle.qe_runs.specs.Runs.{Setting, IsRun, callers_after, sender_of}
use Rattle.qe_engine.specs.Engines.{Engined}
use Rattle.qe_client.specs.Clients.{Held}

-- a client is the caller of a number, as it stands
pub record IsClient (setting : Setting) (callers : Callers) (who : ℕ) (client : Held) : Type 0 where
  pub sender : client.sender ≡ sender_of setting who
  pub caller : client.caller ≡ callers who

-- there is one for each caller
pub record AreClients (setting : Setting) (callers : Callers) (clients : List Held) : Type 0 where
  pub count : length clients ≡ length setting.names
  pub each : (who : ℕ) (other : Held) → who < length clients → IsClient setting callers who (slice_index_or clients who other)

-- the callers after lines
abbrev pub callers_now : Setting → List Line → List JournalEntry → Callers
callers_now setting lines journal = callers_after (opening_callers setting.under.schema) lines journal

-- lines were run by an engine and clients
pub record HaveRun (setting : Setting) (lines : List Line) (engine : Engined) (clients : List Held) : Type 0 where
  pub schema : engine.schema ≡ setting.under.schema
  pub run : IsRun setting lines engine.journal
  pub clients_are : AreClients setting (callers_now setting lines engine.journal) clients
