-- What a stored document means to those who have the keys.
use Rattle.std.specs.Prelude.{◌≡◌, ℕ, List, take, drop}
use Rattle.std.specs.List.{AllZip}
use Rattle.qe_base.specs.Bytes.{AreBytes}
use Rattle.qe_aes.specs.Laws.{IsBlock}
use Rattle.qe_seal.specs.Enciphered.{deciphered}
use Rattle.qe_seal.specs.Sealed.{Seals}
use Rattle.qe_value.specs.declared.value.Plain.{Plain}
use Rattle.qe_value.specs.Spelling.{IsAlone}
use Rattle.qe_value.specs.Views.{plain}
use Rattle.qe_indexed.specs.Parts.{Indexed}
use Rattle.qe_indexed.specs.Spelling.{IsLaidOut}
use Rattle.qe_plain.specs.declared.command.PlainCell.{PlainCell}
use Rattle.qe_plain.specs.declared.command.PlainDocument.{PlainDocument}
use Rattle.qe_store.specs.declared.stored.Cell.{Cell}
use Rattle.qe_store.specs.declared.stored.Cell.TheVariants as kept
use Rattle.qe_protocol.specs.declared.row.Row.{Row}
use Rattle.qe_labels.specs.Under.{Under, key_of}
use Rattle.qe_encodes.specs.Fields.{key_id_of}
use Rattle.qe_encodes.specs.Payloads.{cipher_token}

-- the bytes seal others under a key and its id
pub record SealsBytes (key id plain_bytes bytes : List ℕ) : Type 0 where
  pub iv : List ℕ
  pub iv_is : IsBlock iv
  pub are_bytes : AreBytes plain_bytes
  pub seals : Seals key id iv plain_bytes bytes

module _ (u : Under) where
  -- the server-encrypted value of an indexed value, deciphered
  abbrev pub user_value : ℕ → Indexed → List ℕ
  user_value field indexed = deciphered (cipher_token u field) indexed.server_value

  -- Stored bytes have a value in a field: they are an indexed value of the field's key, whose server-encrypted value
  -- deciphers to the key's id and behind it the sealed bytes of a value of the stored type.
  pub record HoldsValue (field : ℕ) (bytes : List ℕ) (value : Plain) : Type 0 where
    pub indexed : Indexed
    pub laid : IsLaidOut indexed bytes
    pub index_key : indexed.key_id ≡ key_id_of u field
    pub user_key : take 16 (user_value field indexed) ≡ key_id_of u field
    pub plain_bytes : List ℕ
    pub sealed : SealsBytes (key_of u field) (key_id_of u field) plain_bytes (drop 16 (user_value field indexed))
    pub is : IsAlone indexed.value_kind plain_bytes value

  -- a cell's value: a plain one's is what is stored
  abbrev pub CellValue : ℕ → Cell → Plain → Type 0
  CellValue field (kept.Plain stored) value = value ≡ plain stored
  CellValue field (kept.Indexed bytes) value = HoldsValue field bytes value

  pub record DecodesCell (cell : ℕ × Cell) (to : PlainCell) : Type 0 where
    pub field : to.field ≡ cell.0
    pub value : CellValue cell.0 cell.1 to.value

  -- a document of the same id, whose cells are the stored ones' values
  pub record Decodes (row : Row) (document : PlainDocument) : Type 0 where
    pub id : document.id ≡ plain row.id
    pub cells : AllZip DecodesCell row.cells document.cells
