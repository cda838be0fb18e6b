-- Which replies can't be printed.
use Rattle.std.specs.Prelude.{◌≡◌, ◌↔◌, ◌||◌, List, All, Bool, true, false, Some, Err}
use Rattle.std.specs.List.{list_any}
use Rattle.qe_bson.specs.JsonWriting.{formless}
use Rattle.qe_field.specs.declared.field.Field.{Field}
use Rattle.qe_plain.specs.declared.command.PlainCell.{PlainCell}
use Rattle.qe_plain.specs.declared.command.PlainCommand.{PlainCommand}
use Rattle.qe_plain.specs.declared.command.PlainCommand.TheVariants as c
use Rattle.qe_plain.specs.declared.command.PlainDocument.{PlainDocument}
use Rattle.qe_plain.specs.declared.command.PlainReply.{PlainReply}
use Rattle.qe_plain.specs.declared.command.PlainReply.TheVariants as r
use Rattle.qe_plain.specs.Collection.{plain_replay}
use Rattle.qe_texts.specs.declared.fault.PrintFault.TheVariants as f
use Rattle.qe_texts.specs.Replies.{reply_line}

abbrev pub is_formless_cell : PlainCell → Bool
is_formless_cell cell = formless cell.value

-- a double, a decimal or a timestamp stands in the id or in a cell
abbrev pub is_formless : PlainDocument → Bool
is_formless document = formless document.id || list_any is_formless_cell document.cells

abbrev pub holds_formless : PlainReply → Bool
holds_formless (r.Found documents) = list_any is_formless documents
holds_formless (r.Ids ids) = list_any formless ids
holds_formless _ = false

-- a command to insert or to set such a value
abbrev pub brings_formless : PlainCommand → Bool
brings_formless (c.Insert document) = is_formless document
brings_formless (c.Update terms set) = list_any is_formless_cell set
brings_formless _ = false

-- exactly the replies with such a value
abbrev pub UnprintableExactly : Type 0
UnprintableExactly = (fields : List Field) (reply : PlainReply) → (reply_line fields reply ≡ Err f.Unprintable) ↔ (holds_formless reply ≡ true)

-- where no command brings such a value, no reply holds one
abbrev pub BringNoneHoldNone : Type 0
BringNoneHoldNone = (commands : List PlainCommand) (last : List PlainDocument × List PlainReply)
    → All (λ command. brings_formless command ≡ false) commands → plain_replay commands ≡ Some last → All (λ reply. holds_formless reply ≡ false) last.1
