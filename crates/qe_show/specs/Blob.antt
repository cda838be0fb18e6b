-- The line that shows a blob: its parts by name, or the first refusal and its path.
use Rattle.std.specs.Prelude.{◌≡◌, ◌⊎◌, ℕ, pos, List, ◌++◌, slice_index, codes, ◌==◌, Bool, true, false, if◌then◌else◌, Option, Some, Result, Err, None}
use Rattle.std.specs.Fmt.{decimal}
use Rattle.qe_indexed.specs.declared.block.Block.{Block}
use Rattle.qe_indexed.specs.declared.fault.IndexedFault.{IndexedFault}
use Rattle.qe_indexed.specs.Parts.{Indexed}
use Rattle.qe_indexed.specs.Spelling.{IsLaidOut}
use Rattle.qe_indexed.specs.Reading.{indexed_at}
use Rattle.qe_find.specs.Equal.{equal_at, IsEqualBlob}
use Rattle.qe_insert.specs.Insert.{insert_at, IsInsertBlob}
use Rattle.qe_find.specs.Range.{range_at, IsRangeBlob}
use Rattle.qe_layout.specs.Refusal.{Refusal}
use Rattle.qe_show.specs.Kinds.{kind_text, indexed_text}
use Rattle.qe_show.specs.Parts.{hex_part, number_part, uuid_part, parts_from}
use Rattle.qe_show.specs.Payloads.{insert_line, equal_line, range_line}
use Rattle.qe_show.specs.declared.blob.Form.{Form}
use Rattle.qe_show.specs.declared.blob.Form.TheVariants as form

-- a block of an indexed value, by its place from 0
abbrev pub block_part : ℕ → Block → List ℕ
block_part place block = hex_part (codes "b" ++ decimal place) block.0

-- the first byte
abbrev pub indexed_head : Bool → List ℕ
indexed_head false = codes "indexed 14"
indexed_head true = codes "indexed 15"

-- the first byte, the key's id, the type of BSON, the server-encrypted value, and the blocks
unfoldable pub indexed_line : Indexed → List ℕ
indexed_line v =
    indexed_head v.range ++ uuid_part (codes "key") v.key_id ++ number_part (codes "type") (pos v.value_kind)
    ++ hex_part (codes "value") v.server_value ++ parts_from block_part 0 v.blocks

-- the path and the kind of a refusal
unfoldable pub refusal_line : List ℕ → List ℕ → List ℕ
refusal_line path kind = codes "malformed " ++ path ++ codes " " ++ kind

-- the blob is laid out as a value, and the line has its parts
pub record ShowsParts {A : Type 0} (IsBlobOf : A → List ℕ → Type 0) (line_of : A → List ℕ) (blob line : List ℕ) : Type 0 where
  pub value : A
  pub is_blob : IsBlobOf value blob
  pub printed : line ≡ line_of value

-- the line of a refusal
abbrev pub IsLineOf : Option Refusal → List ℕ → Type 0
IsLineOf None line = ⊥
IsLineOf (Some refusal) line = line ≡ refusal_line refusal.path (kind_text refusal.kind)

-- the blob is refused, and the line has the refusal
pub record ShowsRefusal {P : Type 0} (due : Result P Refusal) (line : List ℕ) : Type 0 where
  pub refusal : Refusal
  pub is_due : due ≡ Err refusal
  pub printed : line ≡ refusal_line refusal.path (kind_text refusal.kind)

-- an indexed value's path is the whole
pub record ShowsFault (due : Result Indexed IndexedFault) (line : List ℕ) : Type 0 where
  pub fault : IndexedFault
  pub is_due : due ≡ Err fault
  pub printed : line ≡ refusal_line (codes ".") (indexed_text fault)

-- the first byte says what a blob is
unfoldable pub form_of : List ℕ → Form
form_of blob =
    if slice_index blob 0 == 11 then form.Insert
    else (if slice_index blob 0 == 12 then form.Equal else (if slice_index blob 0 == 13 then form.Range else form.Indexed))

abbrev pub ShowsAs : Form → List ℕ → List ℕ → Type 0
ShowsAs form.Insert blob line = ShowsParts IsInsertBlob insert_line blob line ⊎ ShowsRefusal (insert_at blob) line
ShowsAs form.Equal blob line = ShowsParts IsEqualBlob equal_line blob line ⊎ ShowsRefusal (equal_at blob) line
ShowsAs form.Range blob line = ShowsParts IsRangeBlob range_line blob line ⊎ ShowsRefusal (range_at blob) line
ShowsAs form.Indexed blob line = ShowsParts IsLaidOut indexed_line blob line ⊎ ShowsFault (indexed_at blob) line

abbrev pub ShowsBlob : List ℕ → List ℕ → Type 0
ShowsBlob blob line = ShowsAs (form_of blob) blob line
