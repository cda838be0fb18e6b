-- Stored documents that stand for plain ones: they decode, and they have the tags of their items' words.
use Rattle.std.specs.Prelude.{◌≡◌, ℕ, List, true}
use Rattle.std.specs.List.{AllZip}
use Rattle.qe_field.specs.Values.{is_id}
use Rattle.qe_plain.specs.Collection.{IsPlainDocument}
use Rattle.qe_plain.specs.declared.command.PlainCell.{PlainCell}
use Rattle.qe_plain.specs.declared.command.PlainDocument.{PlainDocument}
use Rattle.qe_schema.specs.Resolved.{IsKeptBy}
use Rattle.qe_store.specs.declared.stored.Cell.{Cell}
use Rattle.qe_store.specs.declared.stored.Stored.{Stored}
use Rattle.qe_protocol.specs.Indexing.{cell_tags, tags_of}
use Rattle.qe_protocol.specs.Next.{row_of}
use Rattle.qe_labels.specs.Numbers.{Numbers}
use Rattle.qe_labels.specs.Tags.{AreTagsOf, words_under}
use Rattle.qe_labels.specs.Under.{Under, root_of}
use Rattle.qe_encodes.specs.Decodes.{Decodes}
use Rattle.qe_encodes.specs.Fields.{kind_at}
use Rattle.qe_encodes.specs.Items.{value_items}
use Rattle.qe_encodes.specs.Meant.{IsSpelled}

module _ (u : Under) (numbers : Numbers) where
  -- a cell's value is one of its field, and its blocks have the tags of the value's items, in their order and all under
  -- one factor
  pub record StandsCell (cell : ℕ × Cell) (plain : PlainCell) : Type 0 where
    pub field : plain.field ≡ cell.0
    pub kept : IsKeptBy plain.value (kind_at u.schema plain.field)
    pub factor : ℕ
    pub tags : AreTagsOf (root_of u) numbers (words_under plain.field factor (value_items (kind_at u.schema plain.field) plain.value)) (cell_tags cell.1)

  -- a document decodes, its tags are those of its blocks, and its cells stand for the plain ones, one after another
  pub record StandsDocument (stored : Stored) (document : PlainDocument) : Type 0 where
    pub decodes : Decodes u (row_of stored) document
    pub tags : stored.tags ≡ tags_of stored.cells
    pub cells : AllZip StandsCell stored.cells document.cells
    pub ordered : IsPlainDocument document
    pub id : is_id document.id ≡ true
    pub spelled : IsSpelled document.id

  -- documents stand for plain ones, one after another
  abbrev pub StandDocuments : List Stored → List PlainDocument → Type 0
  StandDocuments docs documents = AllZip StandsDocument docs documents
