-- One command of a journal, and what is kept by it.
use Rattle.std.specs.Prelude.{◌≡◌, ◌≤◌, ℕ, List, length, Bool}
use Rattle.qe_base.specs.declared.maintenance.Count.{Count}
use Rattle.qe_plain.specs.declared.command.PlainCommand.{PlainCommand}
use Rattle.qe_plain.specs.declared.command.PlainDocument.{PlainDocument}
use Rattle.qe_plain.specs.declared.command.PlainReply.{PlainReply}
use Rattle.qe_command.specs.declared.command.Command.{Command}
use Rattle.qe_command.specs.Nonces.{nonces_of}
use Rattle.qe_command_document.specs.CommandDocument.{Fits}
use Rattle.qe_protocol.specs.declared.reply.Outcome.{Outcome}
use Rattle.qe_protocol.specs.Contention.{current_of}
use Rattle.qe_protocol.specs.Laws.{AreLong}
use Rattle.qe_protocol.specs.Next.{AllowedCounts, next, outcome_of}
use Rattle.qe_protocol.specs.State.{State}
use Rattle.qe_labels.specs.Laws.{IsFree}
use Rattle.qe_labels.specs.Numbers.{Numbers, StraysAreZero}
use Rattle.qe_labels.specs.Under.{Under, root_of}
use Rattle.qe_encodes.specs.Callers.{Contentions, contention_of}
use Rattle.qe_encodes.specs.Counted.{numbers_by}
use Rattle.qe_encodes.specs.Encodes.{Encodes}
use Rattle.qe_encodes.specs.Kept.{is_kept}
use Rattle.qe_encodes.specs.Meant.{IsMeant}
use Rattle.qe_encodes.specs.Replies.{Answers}
use Rattle.qe_standing.specs.Stands.{IsDue, Stands}

module _ (u : Under) (numbers : Numbers) (state : State) (documents : List PlainDocument) (contentions : Contentions)
    (plain : PlainCommand) (command : Command) (nonces : List (List ℕ)) (counts : List Count) (outcome : Outcome) where
  -- a command is sent for a plain one, by a caller whose numbers are within the current contentions, and allowed in the state
  pub record CommandSent : Type 0 where
    pub meant : IsMeant u.schema plain
    pub leaves : Bool
    pub encodes : Encodes u leaves contentions plain command
    pub within : (field : ℕ) → contention_of contentions field ≤ current_of state.current field
    pub fits : Fits u.schema command
    pub long : AreLong nonces
    pub many : length nonces ≡ nonces_of command
    pub allowed : AllowedCounts state command nonces counts
    pub outcome_is : outcome ≡ outcome_of (next state command nonces counts).reply
    pub strays : StraysAreZero numbers
    pub free : IsFree (root_of u) (numbers_by u state plain command nonces counts outcome numbers)

  -- the relation stands afterwards, and the reply is the plain one, or told by the outcome
  pub record CommandKept : Type 0 where
    pub later : List PlainDocument
    pub reply : PlainReply
    pub stands : Stands u (numbers_by u state plain command nonces counts outcome numbers) (next state command nonces counts).state later
    pub answers : Answers u (next state command nonces counts).reply reply
    pub due : IsDue (is_kept plain outcome) documents plain outcome later reply
