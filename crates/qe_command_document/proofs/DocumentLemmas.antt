-- Bytes are read as a command exactly where they are its document.
use Rattle.std.proofs.Common.{◌≡◌, ℕ, ◌<◌, List, ◌∷◌, length, drop, refl, sym, ap, ◌∙◌, subst, arith, zero, suc, Result, Ok, Err, inl, inr}
use Rattle.std.specs.Prelude.{bytes_eq, codes, nat_lt}
use Rattle.std.proofs.lemmas.Bool.{cases_Bool, or_left, or_right, cond-true, cond-false}
use Rattle.qe_base.specs.Bytes.{AreBytes}
use Rattle.qe_document.specs.Names.{is_named}
use Rattle.qe_document.specs.Spelling.{Begins}
use Rattle.qe_field.specs.declared.field.Field.{Field}
use Rattle.qe_layout.specs.declared.malformed.Kind.TheVariants.{Unknown, ContentionAbove, Bson}
use Rattle.qe_layout.specs.Blobs.{alone, whole}
use Rattle.qe_layout.specs.Layouts.{Element, Knows}
use Rattle.qe_layout.specs.Refusal.{Refusal, wrong, bind, Reads}
use Rattle.qe_layout.proofs.BlobLemmas.{blob_opened, opened_then, IsBlob-distinct}
use Rattle.qe_layout.proofs.LaidLemmas.{built_laid, laid_built}
use Rattle.qe_value.specs.declared.fault.BsonFault.TheVariants.{At}
use Rattle.qe_value.specs.declared.fault.BsonKind.TheVariants.{Short}
use Rattle.qe_layout.specs.declared.malformed.Malformed.{Malformed}
use Rattle.qe_layout.proofs.CutLemmas.{opened_cut}
use Rattle.std.specs.Prelude.{IfOk, take}
use Rattle.qe_command_document.specs.CommandLaws.{CommandLaws}
use Rattle.qe_command.specs.declared.command.Command.{Command}
use Rattle.qe_command.specs.declared.command.Command.TheVariants as c
use Rattle.qe_command_document.specs.declared.part.Op.{Op}
use Rattle.qe_command_document.specs.declared.part.Part.{Part}
use Rattle.qe_command_document.specs.declared.part.Part.TheVariants as part
use Rattle.qe_command_document.specs.CommandDocument.{op_name, op_of, element_rows, command_rows, command_reads, command_build, element_reads, elements_of, greatest_at, within, command_of, command_at, IsCommandDocument}

-- a name that is read is one of the command's
knows : (which : Op) (fields : List Field) → Knows (command_reads which fields) (command_rows which)
unfolding command_reads
knows which fields name value out is =
    elim (cases_Bool (bytes_eq name op_name)) [
      | inl own ↦ or_left (bytes_eq name op_name) (is_named name (element_rows which)) own
      | inr other ↦ elim (cases_Bool (is_named name (element_rows which))) [
        | inl known ↦ or_right (bytes_eq name op_name) (is_named name (element_rows which)) known
        | inr unknown ↦
            let refused : Result Part Refusal = wrong name Unknown in
            let last = cond-false (is_named name (element_rows which)) (element_reads fields name value) refused unknown in
            let step = cond-false (bytes_eq name op_name) (Ok part.Op) _ other in
            let both : refused ≡ Ok out = sym last ∙ sym step ∙ is in
            absurd (cc)
      ]
    ]

-- what was read in two steps
split : {A B : Type 0} (first : Result A Refusal) (on : A → Result B Refusal) (out : B) → bind first on ≡ Ok out → (x : A) × ((first ≡ Ok x) × (on x ≡ Ok out))
split (Ok x) on out is = (x, (refl, is))
split (Err refusal) on out is = absurd (cc)

-- bytes that are a document alone, as a blob without its first byte
opened_alone : (bytes : List ℕ) (elements : List Element) → Begins bytes elements (length bytes) → alone bytes ≡ Ok elements
opened_alone bytes elements begins = blob_opened 11 elements (11 ∷ bytes) (record { rest = bytes; first = refl; document = begins })

bytes_behind : (bytes : List ℕ) → AreBytes bytes → AreBytes (11 ∷ bytes)
bytes_behind bytes are zero = omega arith
bytes_behind bytes are (suc k) = are k

module _ (fields : List Field) where
  laid_read : (command : Command) (bytes : List ℕ) → IsCommandDocument fields command bytes → command_at fields bytes ≡ Ok command
  unfolding command_at command_of
  laid_read command bytes is =
      ap (λ read. bind read (command_of fields)) (opened_alone bytes is.elements is.document)
      ∙ ap (λ named. bind named (λ which. bind (elements_of fields is.elements which) (within fields))) is.named
      ∙ ap (λ built. bind built (within fields))
      (laid_built (command_reads is.which fields) (command_rows is.which) (command_build is.which) command is.elements is.laid)
      ∙ is.raise

  -- what is within is the same command
  within_same : (given command : Command) → within fields given ≡ Ok command → command ≡ given
  within_same (c.Insert id cells) command is = cc
  within_same (c.Find terms ids) command is = cc
  within_same (c.Update terms set) command is = cc
  within_same (c.Delete terms) command is = cc
  within_same (c.Begin kind tokens) command is = cc
  within_same (c.Step job limit) command is = cc
  within_same (c.End job) command is = cc
  within_same (c.Abandon job) command is = cc
  within_same (c.Raise field contention) command is =
      let above : Result Command Refusal = wrong (codes "contention") (ContentionAbove contention (greatest_at fields field)) in
      elim (cases_Bool (nat_lt (greatest_at fields field) contention)) [
        | inl over ↦
            let refused : above ≡ Ok command = sym (cond-true (nat_lt (greatest_at fields field) contention) above (Ok (c.Raise field contention)) over) ∙ is in
            absurd (cc)
        | inr fine ↦
            let kept : Ok (c.Raise field contention) ≡ Ok command = sym (cond-false (nat_lt (greatest_at fields field) contention) above (Ok (c.Raise field contention)) fine) ∙ is in
            cc
      ]

  read_laid : (command : Command) (bytes : List ℕ) → AreBytes bytes → command_at fields bytes ≡ Ok command → IsCommandDocument fields command bytes
  unfolding command_at command_of
  read_laid command bytes are is =
      let found = opened_then 11 (command_of fields) command (11 ∷ bytes) (bytes_behind bytes are) is in
      let rest : bytes ≡ found.1.0.rest = ap (drop 1) found.1.0.first in
      let named = split (op_of found.0) (λ which. bind (elements_of fields found.0 which) (within fields)) command found.1.1 in
      let made = split (elements_of fields found.0 named.0) (within fields) command named.1.1 in
      let same : command ≡ made.0 = within_same made.0 command made.1.1 in
      record {
        elements = found.0;
        document = subst (λ b. Begins b found.0 (length b)) (sym rest) found.1.0.document;
        which = named.0;
        named = named.1.0;
        laid = built_laid (command_reads named.0 fields) (command_rows named.0) (command_build named.0) command found.0
            (IsBlob-distinct 11 found.0 (11 ∷ bytes) found.1.0) (knows named.0 fields) (made.1.0 ∙ ap Ok (sym same));
        raise = ap (within fields) same ∙ made.1.1;
      }

  read_one : (command other : Command) (bytes : List ℕ) → command_at fields bytes ≡ Ok command → command_at fields bytes ≡ Ok other → command ≡ other
  read_one command other bytes is also = let same : Ok command ≡ Ok other = sym is ∙ also in cc

  cut_refused : (command : Command) (bytes : List ℕ) (count : ℕ) → IsCommandDocument fields command bytes → count < length bytes
      → command_at fields (take count bytes) ≡ wrong whole (Bson (At count Short))
  unfolding command_at
  cut_refused command bytes count is less =
      ap (λ read. bind read (command_of fields))
      (opened_cut 11 is.elements (11 ∷ bytes) (suc count) (record { rest = bytes; first = refl; document = is.document }) (omega (arith, less)))

  pub command_laws : CommandLaws fields
  command_laws = record {
    laid_is_read = laid_read;
    read_is_laid = read_laid;
    one = λ command other bytes is also. read_one command other bytes (laid_read command bytes is) (laid_read other bytes also);
    cut = cut_refused;
  }

  pub found : (result : Result Command Malformed) (bytes : List ℕ) → AreBytes bytes → Reads result (command_at fields bytes)
      → IfOk result (λ command. IsCommandDocument fields command bytes)
  found (Ok command) bytes are reads = read_laid command bytes are reads
  found (Err fault) bytes are reads = tt
