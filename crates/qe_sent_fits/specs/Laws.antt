-- How long the documents of commands that are sent are.
use Rattle.std.specs.Prelude.{◌≡◌, ◌≤◌, List, Bool, length}
use Rattle.qe_value.specs.Spelling.{document_bytes}
use Rattle.qe_field.specs.declared.field.Field.{Field}
use Rattle.qe_plain.specs.declared.command.PlainCommand.{PlainCommand}
use Rattle.qe_fits.specs.Sizes.{counted_length}
use Rattle.qe_schema.specs.Resolved.{IsResolved}
use Rattle.qe_command.specs.declared.command.Command.{Command}
use Rattle.qe_command_written.specs.Written.{command_elements}
use Rattle.qe_labels.specs.Under.{Under}
use Rattle.qe_encodes.specs.Callers.{Contentions}
use Rattle.qe_encodes.specs.Encodes.{Encodes}

-- whatever the keys are, and whatever is drawn, the document of a command that is sent for a plain one has no more bytes
-- than the counted length
abbrev pub CountedIsEnough : List Field → Type 0
CountedIsEnough fields = (u : Under) (leaves : Bool) (contentions : Contentions) (plain : PlainCommand) (command : Command)
    → u.schema ≡ fields → IsResolved fields plain → Encodes u leaves contentions plain command
    → length (document_bytes (command_elements fields command)) ≤ counted_length fields plain
