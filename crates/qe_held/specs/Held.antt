-- What the types of a command's parts tell of them: tokens have their lengths, bytes are bytes, and numbers fit their bits.
use Rattle.std.specs.Prelude.{◌≡◌, ◌≤◌, ◌<◌, ℕ, length, All, List, false, FitsSigned, Option, None, Some}
use Rattle.std.specs.Int.{w32, w64}
use Rattle.qe_base.specs.Bytes.{AreBytes}
use Rattle.qe_value.specs.declared.value.Plain.{Plain, out-Plain}
use Rattle.qe_value.specs.declared.value.Value.{Value}
use Rattle.qe_value.specs.declared.value.Value.TheVariants as v
use Rattle.qe_value.specs.Measures.{depth, zero_in}
use Rattle.qe_value.specs.Spelling.{FieldsFit, Fits_with, ItemsFit, spelled}
use Rattle.qe_value.specs.Views.{plain}
use Rattle.qe_ecoc.specs.declared.forms.Cipher.{Cipher}
use Rattle.qe_ecoc.specs.Forms.{cipher_bytes, cipher_from}
use Rattle.qe_parts.specs.declared.edges.EdgeTokens.{EdgeTokens}
use Rattle.qe_parts.specs.declared.edges.FindEdge.{FindEdge}
use Rattle.qe_insert.specs.declared.insert.InsertPayload.{InsertPayload}
use Rattle.qe_find.specs.declared.equal.FindEqual.{FindEqual}
use Rattle.qe_find.specs.declared.range.FindRange.{FindRange}
use Rattle.qe_tokens.specs.declared.words.FieldToken.{FieldToken}
use Rattle.qe_command.specs.declared.cells.SentCell.{SentCell}
use Rattle.qe_command.specs.declared.cells.SentCell.TheVariants as sent
use Rattle.qe_command.specs.declared.filter.SentTerm.{SentTerm}
use Rattle.qe_command.specs.declared.filter.SentTerm.TheVariants as t
use Rattle.qe_command.specs.declared.command.Command.{Command}
use Rattle.qe_command.specs.declared.command.Command.TheVariants as c

-- of values that hold no other
abbrev pub IsOfBytes : Value → Type 0
IsOfBytes (v.Double bytes) = AreBytes bytes
IsOfBytes (v.Str text) = AreBytes text
IsOfBytes (v.Binary subtype bytes) = (subtype < 256) × AreBytes bytes
IsOfBytes (v.ObjectId bytes) = AreBytes bytes
IsOfBytes (v.Decimal bytes) = AreBytes bytes
IsOfBytes _ = Unit {0}

-- a name, and a value that is spelled by bytes
abbrev pub IsFieldOfBytes : List ℕ × Value → Type 0
IsFieldOfBytes field = AreBytes field.0 × AreBytes (spelled (plain field.1)).bytes

-- a value is spelled by bytes, and fits where its levels do and no name in it has a byte 0
pub record IsHeldValue (value : Plain) : Type 0 where
  pub bytes : AreBytes (spelled value).bytes
  pub fits : (room : ℕ) → depth value ≤ room → zero_in value ≡ false → Fits_with (FieldsFit room) (ItemsFit room) (out-Plain value)

-- a token of 32 bytes
pub record IsToken (token : List ℕ) : Type 0 where
  pub long : length token ≡ 32
  pub bytes : AreBytes token

pub record IsHeldCipher (cipher : Cipher) : Type 0 where
  pub again : cipher_from (cipher_bytes cipher) ≡ Some cipher
  pub bytes : AreBytes (cipher_bytes cipher)

pub record IsHeldEdge (edge : EdgeTokens) : Type 0 where
  pub d : IsToken edge.d
  pub s : IsToken edge.s
  pub l : IsToken edge.l
  pub p : IsHeldCipher edge.p

abbrev pub AreHeldEdges : Option (List EdgeTokens) → Type 0
AreHeldEdges None = Unit {0}
AreHeldEdges (Some edges) = All IsHeldEdge edges

pub record IsHeldInsert (payload : InsertPayload) : Type 0 where
  pub d : IsToken payload.d
  pub s : IsToken payload.s
  pub e : IsToken payload.e
  pub l : IsToken payload.l
  pub p : IsHeldCipher payload.p
  pub u_long : length payload.u ≡ 16
  pub u_bytes : AreBytes payload.u
  pub v : AreBytes payload.v
  pub t : FitsSigned w32 payload.t
  pub k : FitsSigned w64 payload.k
  pub g : AreHeldEdges payload.g

abbrev pub IsHeldCell : SentCell → Type 0
IsHeldCell (sent.Plain value) = IsHeldValue (plain value)
IsHeldCell (sent.Payload payload) = IsHeldInsert payload

pub record IsHeldFindEdge (edge : FindEdge) : Type 0 where
  pub d : IsToken edge.d
  pub s : IsToken edge.s
  pub l : IsToken edge.l

pub record IsHeldEqual (payload : FindEqual) : Type 0 where
  pub d : IsToken payload.d
  pub s : IsToken payload.s
  pub l : IsToken payload.l
  pub cm : FitsSigned w64 payload.cm

pub record IsHeldRange (payload : FindRange) : Type 0 where
  pub g : All IsHeldFindEdge payload.g
  pub cm : FitsSigned w64 payload.cm
  pub payload_id : FitsSigned w32 payload.payload_id

abbrev pub IsHeldTerm : SentTerm → Type 0
IsHeldTerm (t.Id id) = IsHeldValue (plain id)
IsHeldTerm (t.Equal field payload) = IsHeldEqual payload
IsHeldTerm (t.Range field payload) = IsHeldRange payload

abbrev pub AreHeldCells : List (ℕ × SentCell) → Type 0
AreHeldCells cells = All (λ cell. IsHeldCell cell.1) cells

abbrev pub AreHeldTokens : List FieldToken → Type 0
AreHeldTokens tokens = All (λ token. IsToken token.token.0) tokens

abbrev pub IsHeldCommand : Command → Type 0
IsHeldCommand (c.Insert id cells) = IsHeldValue (plain id) × AreHeldCells cells
IsHeldCommand (c.Find terms ids) = All IsHeldTerm terms
IsHeldCommand (c.Update terms set) = All IsHeldTerm terms × AreHeldCells set
IsHeldCommand (c.Delete terms) = All IsHeldTerm terms
IsHeldCommand (c.Begin kind tokens) = AreHeldTokens tokens
IsHeldCommand _ = Unit {0}
