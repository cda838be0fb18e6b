-- What the laws say.
use Rattle.std.specs.Prelude.{◌≡◌, ◌≢◌, ◌↔◌, ℕ, List, All, true, Some}
use Rattle.qe_value.specs.declared.value.Plain.{Plain}
use Rattle.qe_value.specs.Spelling.{IsAlone, spelled}
use Rattle.qe_field.specs.Values.{kind_of}
use Rattle.qe_plain.specs.declared.command.PlainCell.{PlainCell}
use Rattle.qe_plain.specs.declared.command.PlainCommand.{PlainCommand}
use Rattle.qe_plain.specs.declared.command.PlainCommand.TheVariants as c
use Rattle.qe_plain.specs.declared.command.PlainDocument.{PlainDocument}
use Rattle.qe_plain.specs.declared.command.PlainReply.{PlainReply}
use Rattle.qe_plain.specs.Collection.{IsPlainCollection, IsPlainDocument, plain_replay, plain_step, put_cell, same_value, value_in}

-- a document to insert has its cells in rising field number
abbrev pub StoresInOrder : PlainCommand → Type 0
StoresInOrder (c.Insert document) = IsPlainDocument document
StoresInOrder _ = Unit {0}

-- a step makes a collection of a collection
abbrev pub StepsKeepCollections : Type 0
StepsKeepCollections = (documents : List PlainDocument) (command : PlainCommand) (next : List PlainDocument × PlainReply)
    → IsPlainCollection documents → StoresInOrder command → plain_step documents command ≡ Some next → IsPlainCollection next.0

-- .. and so does a list of commands of no document
abbrev pub ReplaysMakeCollections : Type 0
ReplaysMakeCollections = (commands : List PlainCommand) (last : List PlainDocument × List PlainReply)
    → All StoresInOrder commands → plain_replay commands ≡ Some last → IsPlainCollection last.0

-- a cell that is put among others is the value of its field; other fields keep theirs
abbrev pub PutsOne : Type 0
PutsOne = (new : PlainCell) (cells : List PlainCell)
    → (value_in new.field (put_cell new cells) ≡ Some new.value)
    × ((field : ℕ) → field ≢ new.field → value_in field (put_cell new cells) ≡ value_in field cells)

-- a value that BSON has, alone
abbrev pub IsWritable : Plain → Type 0
IsWritable value = IsAlone (kind_of value) (spelled value).bytes value

-- values that can be written are the same exactly where they are equal
abbrev pub SameAreEqual : Type 0
SameAreEqual = (a b : Plain) → IsWritable a → IsWritable b → (same_value a b ≡ true) ↔ (a ≡ b)
