-- What holds of the words of a run.
use Rattle.std.specs.Prelude.{List}
use Rattle.qe_plain.specs.declared.command.PlainCommand.{PlainCommand}
use Rattle.qe_protocol.specs.declared.journal.JournalEntry.{JournalEntry}
use Rattle.qe_labels.specs.Under.{Under}
use Rattle.qe_census.specs.Noted.{HasFields}
use Rattle.qe_census.specs.Roots.{IsEncrypted}
use Rattle.qe_encodes.specs.Counted.{numbers_of}
use Rattle.qe_encodes.specs.Encoded.{IsEncoded}

-- the items of a journal of encoded commands are of encrypted fields, so that each has keys
abbrev pub ItemsAreEncrypted : Type 0
ItemsAreEncrypted = (u : Under) (plains : List PlainCommand) (journal : List JournalEntry) → IsEncoded u plains journal
    → HasFields (IsEncrypted u.schema) (numbers_of u plains journal)
