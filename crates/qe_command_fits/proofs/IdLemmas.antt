-- Ids that were read.
use Rattle.std.proofs.Common.{◌≡◌, ℕ, Bool, true, false, List, refl, ap, sym, subst, ◌∙◌, if◌then◌else◌, Ok}
use Rattle.qe_value.specs.declared.value.Plain.{Plain, out-Plain, roll-Plain}
use Rattle.qe_value.specs.declared.value.Plain.TheOpen.{Plain-F}
use Rattle.qe_value.specs.declared.value.Plain.TheVariants as p
use Rattle.qe_value.specs.declared.value.Value.{Value}
use Rattle.qe_value.specs.Spelling.{Spelled, spelled}
use Rattle.qe_value.specs.Types.{type_byte}
use Rattle.qe_value.proofs.PlainLemmas as o
use Rattle.qe_field.specs.Values.{is_id, is_id_kind}
use Rattle.qe_layout.specs.declared.malformed.Kind.TheVariants.{WrongType}
use Rattle.qe_layout.specs.Refusal.{wrong}
use Rattle.qe_command_document.specs.Values.{open_value, value_of}
use Rattle.qe_command_document.specs.CellDocuments.{id_reads}
use Rattle.qe_command_fits.specs.OfSchema.{IsIdValue}

-- a value of another type is no id
no_id : {A : Type 0} (value : Plain) (spelling : Spelled) → spelled value ≡ spelling → is_id_kind (type_byte spelling.kind) ≡ false → is_id value ≡ true → A
no_id value spelling is other id =
    let no : true ≡ false = sym id ∙ ap (λ (s : Spelled). is_id_kind (type_byte s.kind)) is ∙ other in
    absurd (cc)

same_open : (value other : Plain) (level : Plain-F Plain) → out-Plain value ≡ level → out-Plain other ≡ level → value ≡ other
same_open value other level is also = sym (o.rolled value) ∙ ap roll-Plain (is ∙ sym also) ∙ o.rolled other

pub id_value : (value : Plain) → is_id value ≡ true → IsIdValue (value_of value)
unfolding value_of
id_value value is = by_open (out-Plain value) refl
  where
    by_open : (level : Plain-F Plain) → out-Plain value ≡ level → IsIdValue (open_value level)
    by_open (Plain-F.Double b) opens = no_id value _ (ap spelled (same_open value (p.Double b) (Plain-F.Double b) opens (o.out-Double b)) ∙ o.spelled-Double b) refl is
    by_open (Plain-F.Str t) opens = tt
    by_open (Plain-F.Doc fs) opens = no_id value _ (ap spelled (same_open value (p.Doc fs) (Plain-F.Doc fs) opens (o.out-Doc fs)) ∙ o.spelled-Doc fs) refl is
    by_open (Plain-F.Array vs) opens = no_id value _ (ap spelled (same_open value (p.Array vs) (Plain-F.Array vs) opens (o.out-Array vs)) ∙ o.spelled-Array vs) refl is
    by_open (Plain-F.Binary s b) opens = no_id value _ (ap spelled (same_open value (p.Binary s b) (Plain-F.Binary s b) opens (o.out-Binary s b)) ∙ o.spelled-Binary s b) refl is
    by_open (Plain-F.ObjectId b) opens = tt
    by_open (Plain-F.Bool b) opens = no_id value _ (ap spelled (same_open value (p.Bool b) (Plain-F.Bool b) opens (o.out-Bool b)) ∙ o.spelled-Bool b) refl is
    by_open (Plain-F.Date z) opens = no_id value _ (ap spelled (same_open value (p.Date z) (Plain-F.Date z) opens (o.out-Date z)) ∙ o.spelled-Date z) refl is
    by_open Plain-F.Null opens = no_id value _ (ap spelled (same_open value p.Null Plain-F.Null opens o.out-Null) ∙ o.spelled-Null) refl is
    by_open (Plain-F.Int32 z) opens = tt
    by_open (Plain-F.Timestamp n) opens = no_id value _ (ap spelled (same_open value (p.Timestamp n) (Plain-F.Timestamp n) opens (o.out-Timestamp n)) ∙ o.spelled-Timestamp n) refl is
    by_open (Plain-F.Int64 z) opens = tt
    by_open (Plain-F.Decimal b) opens = no_id value _ (ap spelled (same_open value (p.Decimal b) (Plain-F.Decimal b) opens (o.out-Decimal b)) ∙ o.spelled-Decimal b) refl is

pub id_read : (name : List ℕ) (value : Plain) (id : Value) → id_reads name value ≡ Ok id → IsIdValue id
id_read name value id is = by_test (is_id value) refl is
  where
    by_test : (b : Bool) → is_id value ≡ b → (if b then Ok (value_of value) else wrong name WrongType) ≡ Ok id → IsIdValue id
    by_test true one is = let same : value_of value ≡ id = cc in subst IsIdValue same (id_value value one)
    by_test false other is = absurd (cc)
