-- What those who hold the keys read of a reply: each stored value opened, or the first cell that has none.
use Rattle.std.specs.Prelude.{ℕ, List, [], ◌∷◌, Option, Result, Ok, Err}
use Rattle.qe_field.specs.Judgements.{bind}
use Rattle.qe_value.specs.declared.value.Plain.{Plain}
use Rattle.qe_value.specs.Views.{plain}
use Rattle.qe_plain.specs.declared.command.PlainCell.{PlainCell}
use Rattle.qe_plain.specs.declared.command.PlainDocument.{PlainDocument}
use Rattle.qe_plain.specs.declared.command.PlainReply.{PlainReply}
use Rattle.qe_plain.specs.declared.command.PlainReply.TheVariants as p
use Rattle.qe_store.specs.declared.stored.Cell.{Cell}
use Rattle.qe_store.specs.declared.stored.Cell.TheVariants as kept
use Rattle.qe_protocol.specs.declared.reply.Reply.{Reply}
use Rattle.qe_protocol.specs.declared.reply.Reply.TheVariants as r
use Rattle.qe_protocol.specs.declared.row.Row.{Row}
use Rattle.qe_labels.specs.Under.{Under}
use Rattle.qe_opening.specs.declared.fault.ReadFault.{ReadFault}
use Rattle.qe_opening.specs.declared.fault.ReadFault.TheVariants.{At}
use Rattle.qe_opening.specs.declared.fault.ReadKind.{ReadKind}
use Rattle.qe_opening.specs.declared.keys.FieldKey.{FieldKey}
use Rattle.qe_opening.specs.Keys.{key_at, opening_keys}
use Rattle.qe_opening.specs.Opening.{value_in}

-- what is read of each item, in order, or the first fault
abbrev pub each_of : {A B : Type 0} → (A → Result B ReadFault) → List A → Result (List B) ReadFault
each_of read [] = Ok []
each_of read (x ∷ xs) = bind (read x) (λ y. bind (each_of read xs) (λ ys. Ok (y ∷ ys)))

-- a field's value, or its fault
abbrev pub in_field : ℕ → Result Plain ReadKind → Result PlainCell ReadFault
in_field field (Ok value) = Ok (record { field = field; value = value })
in_field field (Err kind) = Err (At field kind)

module _ (keys : List (Option FieldKey)) where
  -- a plain value is what is stored
  abbrev pub value_of : ℕ → Cell → Result Plain ReadKind
  value_of field (kept.Plain stored) = Ok (plain stored)
  value_of field (kept.Indexed bytes) = value_in (key_at keys field) bytes

  abbrev pub cell_of : ℕ × Cell → Result PlainCell ReadFault
  cell_of cell = in_field cell.0 (value_of cell.0 cell.1)

  abbrev pub cells_of : List (ℕ × Cell) → Result (List PlainCell) ReadFault
  cells_of cells = each_of cell_of cells

  -- a document of the same id
  abbrev pub document_of : Row → Result PlainDocument ReadFault
  document_of row = bind (cells_of row.cells) (λ cells. Ok (record { id = plain row.id; cells = cells }))

  abbrev pub documents_of : List Row → Result (List PlainDocument) ReadFault
  documents_of rows = each_of document_of rows

  -- documents are read, and everything else is as it stands
  abbrev pub answered : Reply → Result PlainReply ReadFault
  answered r.Inserted = Ok p.Inserted
  answered r.DuplicateId = Ok p.DuplicateId
  answered (r.Updated count) = Ok (p.Updated count)
  answered (r.Deleted count) = Ok (p.Deleted count)
  answered (r.Found rows) = bind (documents_of rows) (λ documents. Ok (p.Found documents))
  answered (r.Ids ids) = Ok (p.Ids ids)
  answered (r.Begun job) = Ok (p.Begun job)
  answered (r.Stepped left) = Ok (p.Stepped left)
  answered (r.Ended leaves) = Ok (p.Ended leaves)
  answered r.Abandoned = Ok p.Abandoned
  answered (r.JobRunning job) = Ok (p.JobRunning job)
  answered (r.NoJob asked running) = Ok (p.NoJob asked running)
  answered (r.TokenMissing field) = Ok (p.TokenMissing field)
  answered (r.TokenMismatch field) = Ok (p.TokenMismatch field)
  answered (r.NotDone left) = Ok (p.NotDone left)
  answered (r.Raised to) = Ok (p.Raised to)
  answered (r.NotRaised asked current) = Ok (p.NotRaised asked current)
  answered (r.ContentionBelow field got current) = Ok (p.ContentionBelow field got current)
  answered (r.ContentionOver field got current) = Ok (p.ContentionOver field got current)

-- THE ANSWER to a reply, under a schema and its keys
abbrev pub answer_of : Under → Reply → Result PlainReply ReadFault
answer_of u reply = answered (opening_keys u) reply
