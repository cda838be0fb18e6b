-- THE RELATION: which commands are sent for a plain one, whatever is drawn.
use Rattle.std.specs.Prelude.{◌≡◌, ◌≤◌, ℕ, List, Bool}
use Rattle.std.specs.List.{AllZip}
use Rattle.qe_aes.specs.Laws.{IsBlock}
use Rattle.qe_document.specs.Spelling.{document_bytes}
use Rattle.qe_plain.specs.declared.command.PlainCell.{PlainCell}
use Rattle.qe_plain.specs.declared.command.PlainCommand.{PlainCommand}
use Rattle.qe_plain.specs.declared.command.PlainCommand.TheVariants as p
use Rattle.qe_command.specs.declared.cells.SentCell.{SentCell}
use Rattle.qe_command.specs.declared.command.Command.{Command}
use Rattle.qe_command.specs.declared.command.Command.TheVariants as c
use Rattle.qe_command_document.specs.Values.{value_of}
use Rattle.qe_command_written.specs.Written.{command_elements}
use Rattle.qe_labels.specs.Under.{Under}
use Rattle.qe_encodes.specs.Fields.{kind_at}
use Rattle.qe_encodes.specs.Callers.{Contentions, contention_of}
use Rattle.qe_encodes.specs.Payloads.{Drawn, sent_value, sent_filter, sent_tokens}

-- such as may be drawn: a factor up to a number, and IVs
pub record AreDrawn (most : ℕ) (drawn : Drawn) : Type 0 where
  pub factor : drawn.factor ≤ most
  pub value_iv : IsBlock drawn.value_iv
  pub token_iv : IsBlock drawn.token_iv
  pub edge_iv : (place : ℕ) → IsBlock (drawn.edge_iv place)

module _ (u : Under) (leaves : Bool) (contentions : Contentions) where
  -- a cell is sent for a plain one: under one factor up to the caller's number of the field
  pub record SendsCell (cell : PlainCell) (one : ℕ × SentCell) : Type 0 where
    pub field : one.0 ≡ cell.field
    pub drawn : Drawn
    pub are_drawn : AreDrawn (contention_of contentions cell.field) drawn
    pub value : one.1 ≡ sent_value u leaves cell.field drawn (kind_at u.schema cell.field) cell.value

  -- a command is sent for a plain one; `leaves` is whether the sender writes leaf bytes
  abbrev pub Encodes : PlainCommand → Command → Type 0
  Encodes (p.Insert document) (c.Insert id cells) = (id ≡ value_of document.id) × AllZip SendsCell document.cells cells
  Encodes (p.Find terms ids) (c.Find filter only) = (filter ≡ sent_filter u contentions terms 0) × (only ≡ ids)
  Encodes (p.Update terms set) (c.Update filter cells) = (filter ≡ sent_filter u contentions terms 0) × AllZip SendsCell set cells
  Encodes (p.Delete terms) (c.Delete filter) = filter ≡ sent_filter u contentions terms 0
  Encodes (p.Begin kind pairs) (c.Begin sent tokens) = (sent ≡ kind) × (tokens ≡ sent_tokens u pairs)
  Encodes (p.Step job limit) (c.Step asked most) = (asked ≡ job) × (most ≡ limit)
  Encodes (p.End job) (c.End asked) = asked ≡ job
  Encodes (p.Abandon job) (c.Abandon asked) = asked ≡ job
  Encodes (p.Raise field contention) (c.Raise named asked) = (named ≡ field) × (asked ≡ contention)
  Encodes _ _ = ⊥

  -- the bytes that are sent: the command's document in written order
  pub record EncodesAs (plain : PlainCommand) (bytes : List ℕ) : Type 0 where
    pub command : Command
    pub encodes : Encodes plain command
    pub written : bytes ≡ document_bytes (command_elements u.schema command)
