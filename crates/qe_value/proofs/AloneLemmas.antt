-- A document of one field with the empty name.
use Rattle.std.proofs.Common.{◌≡◌, ℕ, ◌+◌, List, [], ◌∷◌, ◌++◌, length, take, not, eqb, Option, None, Some, Result, Ok, Err, refl, subst, sym, ap, ◌∙◌, arith}
use Rattle.std.proofs.lemmas.Bool.{eqb-true, not-false}
use Rattle.std.proofs.lemmas.List.{take_at, length-append}
use Rattle.std.proofs.lemmas.Str.{IsUtf8-from_ascii, is_utf8-from_IsUtf8}
use Rattle.qe_value.specs.declared.value.Plain.{Plain, out-Plain}
use Rattle.qe_value.specs.declared.value.Value.{Value}
use Rattle.qe_value.specs.Spelling.{spelled, document_bytes, Fits_with, FieldsFit, ItemsFit, IsCounted, IsAlone}
use Rattle.qe_value.specs.Views.{plain}
use Rattle.std.specs.Prelude.{IfOk}
use Rattle.qe_value.specs.declared.fault.BsonFault.{BsonFault}
use Rattle.qe_value.specs.declared.fault.BsonKind.TheVariants.{LengthWrong}
use Rattle.qe_base.specs.Answers.{Answers}
use Rattle.qe_value.specs.Faults.{bson_refusal}
use Rattle.qe_value.specs.Types.{type_byte, type_of}
use Rattle.qe_value.specs.declared.element_type.ElementType.{ElementType}
use Rattle.qe_value.specs.Reading.{unless, fields_in, items_in, value_at, typed_alone, alone_of, alone_at}
use Rattle.qe_value.proofs.LevelLemmas.{level_takes, level_again}
use Rattle.qe_base.specs.Bytes.{AreBytes}
use Rattle.qe_value.proofs.ReaderTools.{AreBytes-push, bind_ok, unless_ok, ok_is}
use Rattle.qe_value.proofs.TypeLemmas.{type_takes, type_again}
use Rattle.qe_value.proofs.ValueAgain.{value_again}
use Rattle.qe_value.proofs.ValueTakes.{value_takes}

pub alone_length : (v : Plain) → length (document_bytes (([], v) ∷ [])) ≡ length (spelled v).bytes + 7
alone_length v = omega (arith, length-append ((spelled v).bytes ++ []) (0 ∷ []), length-append (spelled v).bytes [])

pub alone_fits : (v : Plain) → Fits_with (FieldsFit 99) (ItemsFit 99) (out-Plain v) → FieldsFit 100 (([], v) ∷ [])
unfolding FieldsFit
alone_fits v fits =
    let no_bytes = is_utf8-from_IsUtf8 [] (IsUtf8-from_ascii [] (λ i. omega arith)) in
    ((refl, tt), ((record { utf8 = no_bytes; no_zero = refl }, fits), tt))

-- ---- a value that is read alone

-- a value that is read alone is spelled by all the bytes
typed_takes : (kind : ElementType) (bytes : List ℕ) (v : Plain) → AreBytes bytes → typed_alone kind bytes ≡ Ok v → IsAlone (type_byte kind) bytes v
unfolding typed_alone
typed_takes kind bytes v fits e =
    let until : ℕ = length bytes + 1 in
    let whole : List ℕ = bytes ++ 0 ∷ [] in
    let b = bind_ok (value_at 99 kind until whole) (λ x. unless (not (eqb (length x.1) 1)) until x.1 LengthWrong (Ok x.0)) v e in
    let u = unless_ok (not (eqb (length b.0.1) 1)) until b.0.1 LengthWrong (Ok b.0.0) v b.2 in
    let read = value_takes (FieldsFit 99) (ItemsFit 99) (fields_in 99) (items_in 99) (level_takes 99) kind until whole b.0 (AreBytes-push bytes fits) b.1 in
    let one : length b.0.1 ≡ 1 = eqb-true _ _ (not-false _ u.0) in
    let text : List ℕ = (spelled b.0.0).bytes in
    let len : length text ≡ length bytes = omega (arith, one, length-append bytes (0 ∷ []), length-append text b.0.1, ap (λ (t : List ℕ). length t) read.parts) in
    let same : bytes ≡ text = sym (take_at bytes (0 ∷ []) (length bytes) refl) ∙ ap (λ (t : List ℕ). take (length bytes) t) read.parts ∙ take_at text b.0.1 (length bytes) len in
    subst (λ (x : Plain). IsAlone (type_byte kind) bytes x) (ok_is b.0.0 v u.1) record { type_is = ap type_byte read.type_is; bytes_are = same; fits = read.fits; counted = read.counted }

alone_of_takes : (kind : ℕ) (o : Option ElementType) (bytes : List ℕ) (v : Plain) → AreBytes bytes → type_of kind ≡ o → alone_of bytes o ≡ Ok v → IsAlone kind bytes v
alone_of_takes kind None bytes v fits typed e = absurd cc
alone_of_takes kind (Some k) bytes v fits typed e = subst (λ (n : ℕ). IsAlone n bytes v) (sym (type_takes kind k typed)) (typed_takes k bytes v fits e)

pub alone_takes : (kind : ℕ) (bytes : List ℕ) (v : Plain) → AreBytes bytes → alone_at kind bytes ≡ Ok v → IsAlone kind bytes v
alone_takes kind bytes v fits e = alone_of_takes kind (type_of kind) bytes v fits refl e

-- a value that all the bytes spell is read
typed_again : (bytes : List ℕ) (v : Plain) → bytes ≡ (spelled v).bytes → Fits_with (FieldsFit 99) (ItemsFit 99) (out-Plain v) → IsCounted (out-Plain v) → typed_alone (spelled v).kind bytes ≡ Ok v
unfolding typed_alone
typed_again bytes v bytes_are fits counted =
    let until : ℕ = length bytes + 1 in
    let read : value_at 99 (spelled v).kind until ((spelled v).bytes ++ 0 ∷ []) ≡ Ok (v, 0 ∷ []) =
    value_again (FieldsFit 99) (ItemsFit 99) (fields_in 99) (items_in 99) (level_again 99) v fits until (0 ∷ []) (omega arith) counted in
    rw (ap (λ (t : List ℕ). value_at 99 (spelled v).kind until (t ++ 0 ∷ [])) bytes_are ∙ read) refl

pub alone_again : (kind : ℕ) (bytes : List ℕ) (v : Plain) → IsAlone kind bytes v → alone_at kind bytes ≡ Ok v
alone_again kind bytes v is =
    let typed : type_of kind ≡ Some (spelled v).kind = ap type_of is.type_is ∙ type_again (spelled v).kind in
    ap (λ (o : Option ElementType). alone_of bytes o) typed ∙ typed_again bytes v is.bytes_are is.fits is.counted

pub is_found_alone : (kind : ℕ) (bytes : List ℕ) (r : Result Value BsonFault) → AreBytes bytes → Answers plain bson_refusal r (alone_at kind bytes) → IfOk r (λ v. IsAlone kind bytes (plain v))
is_found_alone kind bytes (Ok v) fits given = alone_takes kind bytes (plain v) fits given
is_found_alone kind bytes (Err fault) fits given = tt

-- a type and bytes are those of one value
pub alone_one : (kind : ℕ) (bytes : List ℕ) (v w : Plain) → IsAlone kind bytes v → IsAlone kind bytes w → v ≡ w
alone_one kind bytes v w one other =
    let a = alone_again kind bytes v one in
    let b = alone_again kind bytes w other in
    ok_is v w (sym a ∙ b)
