-- Commands that are sent for plain ones which fit.
use Rattle.std.specs.Prelude.{◌≡◌, List, true}
use Rattle.qe_field.specs.declared.field.Field.{Field}
use Rattle.qe_plain.specs.declared.command.PlainCommand.{PlainCommand}
use Rattle.qe_fits.specs.Fits.{fits}
use Rattle.qe_schema.specs.Resolved.{IsResolved}
use Rattle.qe_command.specs.declared.command.Command.{Command}
use Rattle.qe_encodes.specs.Callers.{Caller}
use Rattle.qe_encodes.specs.Sending.{Sender, command_of}
use Rattle.qe_sending.specs.Sendable.{AreWithin}

-- a sender with these fields sends the command for the plain one, which was resolved under them and fits, and under
-- contentions that aren't above the greatest ones
pub record IsSentFor (fields : List Field) (plain : PlainCommand) (command : Command) : Type 0 where
  pub sender : Sender
  pub caller : Caller
  pub schema : sender.under.schema ≡ fields
  pub resolved : IsResolved fields plain
  pub fit : fits fields plain ≡ true
  pub within : AreWithin fields caller.contentions
  pub is : command ≡ command_of sender caller plain
