-- THE RELATION of a state and a plain collection: the server's rows and lists stand for a run's words, its documents stand
-- for the plain ones, and no word and no caller has a contention above its field's.
use Rattle.std.specs.Prelude.{◌≡◌, ◌≤◌, ℕ, List, length, Bool, true, false, Some}
use Rattle.qe_field.specs.declared.field.Field.{Field}
use Rattle.qe_plain.specs.Collection.{plain_step}
use Rattle.qe_plain.specs.declared.command.PlainCommand.{PlainCommand}
use Rattle.qe_plain.specs.declared.command.PlainDocument.{PlainDocument}
use Rattle.qe_plain.specs.declared.command.PlainReply.{PlainReply}
use Rattle.qe_protocol.specs.declared.reply.Outcome.{Outcome}
use Rattle.qe_protocol.specs.Contention.{current_of}
use Rattle.qe_protocol.specs.State.{Done, State}
use Rattle.qe_labels.specs.Numbers.{Numbers}
use Rattle.qe_labels.specs.Under.{Under, root_of}
use Rattle.qe_relation.specs.Stands.{AllLimited, StateStands}
use Rattle.qe_encodes.specs.Callers.{Callers, contention_of}
use Rattle.qe_encodes.specs.Replies.{Answers, told}
use Rattle.qe_standing.specs.Standing.{StandDocuments}

pub record Stands (u : Under) (numbers : Numbers) (state : State) (documents : List PlainDocument) : Type 0 where
  pub index : StateStands (root_of u) numbers state
  pub docs : StandDocuments u numbers state.docs documents
  pub limited : AllLimited state.current numbers

-- there is a current contention for each field, and each caller's number of a field is at most that
pub record AreWithin (fields : List Field) (current : List ℕ) (callers : Callers) : Type 0 where
  pub many : length current ≡ length fields
  pub each : (who field : ℕ) → contention_of (callers who).contentions field ≤ current_of current field

-- after a command the state stands for what the plain command leads to, and the reply means the plain one
pub record Acted (u : Under) (numbers : Numbers) (done : Done) (documents : List PlainDocument) (reply : PlainReply) : Type 0 where
  pub stands : Stands u numbers done.state documents
  pub answers : Answers u done.reply reply

-- a command that isn't maintenance, and that no contention refuses, does what it does plainly; any other changes no plain
-- document, and its reply is told by its outcome
abbrev pub IsDue : Bool → List PlainDocument → PlainCommand → Outcome → List PlainDocument → PlainReply → Type 0
IsDue true documents plain outcome later reply = plain_step documents plain ≡ Some (later, reply)
IsDue false documents plain outcome later reply = (later ≡ documents) × (reply ≡ told outcome)
