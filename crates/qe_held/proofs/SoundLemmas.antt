-- Values that documents may hold, and whose bytes are bytes.
use Rattle.std.proofs.Common.{◌≡◌, ℕ, ℤ, pos, suc, ◌<◌, ◌≤◌, ◌+◌, ◌^◌, Bool, List, [], ◌∷◌, length, sym, subst, arith, true, false}
use Rattle.std.specs.Prelude.{FitsSigned}
use Rattle.std.specs.Int.{cast_unsigned, w32, w64}
use Rattle.std.specs.List.{AllByRecursion}
use Rattle.qe_base.specs.Bytes.{AreBytes}
use Rattle.qe_aes.proofs.ByteLemmas.{AreBytes-cons, AreBytes-nil}
use Rattle.qe_value.specs.declared.value.Plain.{Plain, out-Plain}
use Rattle.qe_value.specs.declared.value.Plain.TheOpen.{Plain-F}
use Rattle.qe_value.specs.declared.value.Plain.TheVariants as p
use Rattle.qe_value.specs.Names.{Distinct}
use Rattle.qe_value.specs.Spelling.{FieldsFit, Fits_with, IsDocument, IsName, ItemsFit, Spelled, document_bytes, flag, spelled}
use Rattle.qe_value.proofs.PlainLemmas.{out-Array, out-Binary, out-Bool, out-Doc, out-Int32, out-Int64, out-Str, spelled-Array, spelled-Binary, spelled-Bool, spelled-Doc, spelled-Int32, spelled-Int64, spelled-Str}
use Rattle.qe_layout.specs.Layouts.{Element}
use Rattle.qe_held.proofs.BytesLemmas.{IsPart, bytes_32, bytes_64, bytes_array, bytes_as, bytes_binary, bytes_document, bytes_string, flag_small}
use Rattle.qe_held.proofs.NameLemmas.{IsSoundName}

abbrev pub FitsIn : ℕ → Plain → Type 0
FitsIn room v = Fits_with (FieldsFit room) (ItemsFit room) (out-Plain v)

-- a value that fits in a document of so many levels below it, and is spelled by bytes
pub record IsSound (room : ℕ) (v : Plain) : Type 0 where
  pub fits : FitsIn room v
  pub bytes : AreBytes (spelled v).bytes

fits_as : (room : ℕ) (v : Plain) (w : Plain-F Plain) → out-Plain v ≡ w → Fits_with (FieldsFit room) (ItemsFit room) w → FitsIn room v
fits_as room v w is fits = subst (Fits_with (FieldsFit room) (ItemsFit room)) (sym is) fits

pub binary_sound : (room subtype : ℕ) (bytes : List ℕ) → subtype < 256 → AreBytes bytes → IsSound room (p.Binary subtype bytes)
binary_sound room subtype bytes small are = record {
  fits = fits_as room (p.Binary subtype bytes) _ (out-Binary subtype bytes) tt;
  bytes = bytes_as (p.Binary subtype bytes) _ (spelled-Binary subtype bytes) (bytes_binary subtype bytes small are);
}

pub text_sound : (room : ℕ) (text : List ℕ) → IsSoundName text → IsSound room (p.Str text)
text_sound room text sound = record {
  fits = fits_as room (p.Str text) _ (out-Str text) sound.name.utf8;
  bytes = bytes_as (p.Str text) _ (spelled-Str text) (bytes_string text sound.bytes);
}

pub flag_sound : (room : ℕ) (b : Bool) → IsSound room (p.Bool b)
flag_sound room b = record {
  fits = fits_as room (p.Bool b) _ (out-Bool b) tt;
  bytes = bytes_as (p.Bool b) _ (spelled-Bool b) (AreBytes-cons (flag b) [] (flag_small b) AreBytes-nil);
}

pub int32_sound : (room : ℕ) (z : ℤ) → FitsSigned w32 z → IsSound room (p.Int32 z)
int32_sound room z fits = record {
  fits = fits_as room (p.Int32 z) _ (out-Int32 z) fits;
  bytes = bytes_as (p.Int32 z) _ (spelled-Int32 z) (bytes_32 (cast_unsigned w32 z));
}

pub int64_sound : (room : ℕ) (z : ℤ) → FitsSigned w64 z → IsSound room (p.Int64 z)
int64_sound room z fits = record {
  fits = fits_as room (p.Int64 z) _ (out-Int64 z) fits;
  bytes = bytes_as (p.Int64 z) _ (spelled-Int64 z) (bytes_64 (cast_unsigned w64 z));
}

-- an element of a document
abbrev pub IsSoundElement : ℕ → Element → Type 0
IsSoundElement room e = IsSoundName e.0 × IsSound room e.1

parts_fit : (room : ℕ) (elements : List Element) → AllByRecursion (IsSoundElement room) elements → AllByRecursion (λ e. IsName e.0 × FitsIn room e.1) elements
parts_fit room [] each = tt
parts_fit room (e ∷ elements) each = ((each.0.0.name, each.0.1.fits), parts_fit room elements each.1)

parts_bytes : (room : ℕ) (elements : List Element) → AllByRecursion (IsSoundElement room) elements → AllByRecursion IsPart elements
parts_bytes room [] each = tt
parts_bytes room (e ∷ elements) each = ((each.0.0.bytes, each.0.1.bytes), parts_bytes room elements each.1)

-- a document of distinct names
pub record AreSound (room : ℕ) (elements : List Element) : Type 0 where
  pub apart : Distinct elements
  pub each : AllByRecursion (IsSoundElement room) elements

pub fields_fit : (room : ℕ) (elements : List Element) → AreSound room elements → FieldsFit (suc room) elements
unfolding FieldsFit
fields_fit room elements sound = (sound.apart, parts_fit room elements sound.each)

pub fields_bytes : (room : ℕ) (elements : List Element) → AreSound room elements → AreBytes (document_bytes elements)
fields_bytes room elements sound = bytes_document elements (parts_bytes room elements sound.each)

pub document_sound : (room : ℕ) (elements : List Element) → AreSound room elements → IsSound (suc room) (p.Doc elements)
document_sound room elements sound = record {
  fits = fits_as (suc room) (p.Doc elements) _ (out-Doc elements) (fields_fit room elements sound);
  bytes = bytes_as (p.Doc elements) _ (spelled-Doc elements) (fields_bytes room elements sound);
}

-- a whole document, that isn't too long
pub document_is : (elements : List Element) → AreSound 99 elements → length (document_bytes elements) ≤ 16777216 → IsDocument elements
document_is elements sound short = record { fits = fields_fit 99 elements sound; short = short }

items_fit : (room : ℕ) (vs : List Plain) → AllByRecursion (IsSound room) vs → AllByRecursion (FitsIn room) vs
items_fit room [] each = tt
items_fit room (v ∷ vs) each = (each.0.fits, items_fit room vs each.1)

items_bytes : (room : ℕ) (vs : List Plain) → AllByRecursion (IsSound room) vs → AllByRecursion (λ v. AreBytes (spelled v).bytes) vs
items_bytes room [] each = tt
items_bytes room (v ∷ vs) each = (each.0.bytes, items_bytes room vs each.1)

levels_fit : (room : ℕ) (vs : List Plain) → AllByRecursion (FitsIn room) vs → ItemsFit (suc room) vs
unfolding FieldsFit
levels_fit room vs each = each

pub array_sound : (room : ℕ) (vs : List Plain) → length vs ≤ 2 ^ 64 → AllByRecursion (IsSound room) vs → IsSound (suc room) (p.Array vs)
array_sound room vs few each = record {
  fits = fits_as (suc room) (p.Array vs) _ (out-Array vs) (levels_fit room vs (items_fit room vs each));
  bytes = bytes_as (p.Array vs) _ (spelled-Array vs) (bytes_array vs few (items_bytes room vs each));
}
