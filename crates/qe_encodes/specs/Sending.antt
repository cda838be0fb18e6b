-- What a sender sends for a plain command: a function of its keys, seed and name, and of the command's number and the
-- caller's contentions.
use Rattle.std.specs.Prelude.{◌≡◌, ℕ, ◌+◌, List, [], ◌∷◌, Bool}
use Rattle.qe_plain.specs.declared.command.PlainCell.{PlainCell}
use Rattle.qe_plain.specs.declared.command.PlainCommand.{PlainCommand}
use Rattle.qe_plain.specs.declared.command.PlainCommand.TheVariants as p
use Rattle.qe_command.specs.declared.cells.SentCell.{SentCell}
use Rattle.qe_command.specs.declared.command.Command.{Command}
use Rattle.qe_command.specs.declared.command.Command.TheVariants as c
use Rattle.qe_command.specs.Nonces.{nonces_of}
use Rattle.qe_command_document.specs.Values.{value_of}
use Rattle.qe_protocol.specs.declared.journal.JournalEntry.{JournalEntry}
use Rattle.qe_labels.specs.Under.{Under}
use Rattle.qe_encodes.specs.Fields.{kind_at}
use Rattle.qe_encodes.specs.Callers.{Caller, contention_of}
use Rattle.qe_encodes.specs.Draws.{Stream, draws_key, drawn_at, cell_draws, cells_draws, ivs_from}
use Rattle.qe_encodes.specs.Payloads.{sent_value, sent_filter, sent_tokens}
use Rattle.qe_encodes.specs.Words.{plain_cells}

-- what stays of a caller: the schema and its keys, whether leaf bytes are written, the seed, and the name
pub record Sender : Type 0 where
  pub under : Under
  pub leaves : Bool
  pub seed : List ℕ
  pub name : List ℕ

abbrev pub stream_of : Sender → ℕ → Stream
stream_of sender number = record { key = draws_key sender.seed sender.name; number = number }

-- the cells in the order of their fields, each with the words that follow those of the ones before it
abbrev pub cells_sent : Sender → Caller → List PlainCell → ℕ → List (ℕ × SentCell)
cells_sent sender caller [] place = []
cells_sent sender caller (cell ∷ cells) place =
    let drawn = drawn_at (stream_of sender caller.number) (contention_of caller.contentions cell.field) place in
    (cell.field, sent_value sender.under sender.leaves cell.field drawn (kind_at sender.under.schema cell.field) cell.value)
    ∷ cells_sent sender caller cells (place + cell_draws sender.under.schema cell)

-- the command
unfoldable pub command_of : Sender → Caller → PlainCommand → Command
command_of sender caller (p.Insert document) = c.Insert (value_of document.id) (cells_sent sender caller document.cells 0)
command_of sender caller (p.Find terms ids) = c.Find (sent_filter sender.under caller.contentions terms 0) ids
command_of sender caller (p.Update terms set) = c.Update (sent_filter sender.under caller.contentions terms 0) (cells_sent sender caller set 0)
command_of sender caller (p.Delete terms) = c.Delete (sent_filter sender.under caller.contentions terms 0)
command_of sender caller (p.Begin kind pairs) = c.Begin kind (sent_tokens sender.under pairs)
command_of sender caller (p.Step job limit) = c.Step job limit
command_of sender caller (p.End job) = c.End job
command_of sender caller (p.Abandon job) = c.Abandon job
command_of sender caller (p.Raise field contention) = c.Raise field contention

-- how many words it draws
abbrev pub words_used : Sender → PlainCommand → ℕ
words_used sender plain = cells_draws sender.under.schema (plain_cells plain)

-- so many nonces from a place of the command's stream on
unfoldable pub nonces_at : Sender → ℕ → ℕ → ℕ → List (List ℕ)
nonces_at sender number place count = ivs_from (stream_of sender number) count place

-- an entry's command and nonces are the sender's: the nonces follow the command's words
pub record IsSent (sender : Sender) (caller : Caller) (plain : PlainCommand) (entry : JournalEntry) : Type 0 where
  pub command : entry.command ≡ command_of sender caller plain
  pub nonces : entry.nonces ≡ nonces_at sender caller.number (words_used sender plain) (nonces_of (command_of sender caller plain))
