-- The laws of command documents.
use Rattle.std.specs.Prelude.{◌≡◌, ℕ, ◌<◌, List, length, take, Ok}
use Rattle.qe_base.specs.Bytes.{AreBytes}
use Rattle.qe_value.specs.declared.fault.BsonFault.TheVariants.{At}
use Rattle.qe_value.specs.declared.fault.BsonKind.TheVariants.{Short}
use Rattle.qe_field.specs.declared.field.Field.{Field}
use Rattle.qe_layout.specs.declared.malformed.Kind.TheVariants.{Bson}
use Rattle.qe_layout.specs.Blobs.{whole}
use Rattle.qe_layout.specs.Refusal.{wrong}
use Rattle.qe_command.specs.declared.command.Command.{Command}
use Rattle.qe_command_document.specs.CommandDocument.{command_at, IsCommandDocument}

-- bytes are read as a command exactly where they are its document, and are that of one command at most; cut short they are refused
pub record CommandLaws (fields : List Field) : Type 0 where
  pub laid_is_read : (command : Command) (bytes : List ℕ) → IsCommandDocument fields command bytes → command_at fields bytes ≡ Ok command
  pub read_is_laid : (command : Command) (bytes : List ℕ) → AreBytes bytes → command_at fields bytes ≡ Ok command → IsCommandDocument fields command bytes
  pub one : (command other : Command) (bytes : List ℕ) → IsCommandDocument fields command bytes → IsCommandDocument fields other bytes → command ≡ other
  pub cut : (command : Command) (bytes : List ℕ) (count : ℕ) → IsCommandDocument fields command bytes → count < length bytes
      → command_at fields (take count bytes) ≡ wrong whole (Bson (At count Short))
