-- The type and the name of an element: read as they are spelled, and spelled as they are read.
use Rattle.std.proofs.Common.{◌≡◌, ℕ, ◌<◌, not, eqb, List, [], ◌∷◌, ◌++◌, length, Option, Some, None, Ok, refl, ap, subst, ◌∙◌, arith}
use Rattle.std.specs.Str.{is_utf8}
use Rattle.std.proofs.lemmas.Bool.{eqb-true, not-false}
use Rattle.std.proofs.lemmas.List.{drop_at}
use Rattle.qe_value.specs.declared.element_type.ElementType.{ElementType}
use Rattle.qe_value.specs.declared.fault.BsonKind.TheVariants.{NoTerminator, LengthWrong, NotUtf8}
use Rattle.qe_value.specs.Reading.{typed_by, begins_at, split_zero, named_by, name_at}
use Rattle.qe_value.specs.Spelling.{IsName}
use Rattle.qe_value.specs.Types.{type_byte, type_of}
use Rattle.qe_base.specs.Bytes.{AreBytes}
use Rattle.qe_value.proofs.ReaderTools.{AreBytes-drop, AreBytes-rest, unless_ok, ok_is}
use Rattle.qe_value.proofs.TypeLemmas.{type_takes, type_again, type_not_zero}
use Rattle.qe_value.proofs.ZeroLemmas.{split_zero_parts, split_zero_again}

AreBytes-behind : (text rest : List ℕ) → AreBytes (text ++ rest) → AreBytes rest
AreBytes-behind text rest fits = subst AreBytes (drop_at text rest (length text) refl) (AreBytes-drop (length text) (text ++ rest) fits)

-- ---- types

typed_none : (end : ℕ) (after : List ℕ) (o : Option ElementType) → typed_by end after o ≡ Ok None → ⊥
typed_none end after None e = absurd cc
typed_none end after (Some kind) e = absurd cc

typed_some : (end : ℕ) (after : List ℕ) (o : Option ElementType) (k : ElementType × List ℕ) → typed_by end after o ≡ Ok (Some k) → (o ≡ Some k.0) × (after ≡ k.1)
typed_some end after None k e = absurd cc
typed_some end after (Some kind) k e =
    let is : (kind, after) ≡ k = cc in
    (ap (λ (y : ElementType × List ℕ). Some y.0) is, ap (λ (y : ElementType × List ℕ). y.1) is)

pub begins_none : (end : ℕ) (bytes : List ℕ) → begins_at end bytes ≡ Ok None → bytes ≡ 0 ∷ []
begins_none end [] e = absurd cc
begins_none end (b ∷ []) e = ap (λ (k : ℕ). k ∷ []) (eqb-true b 0 (not-false _ (unless_ok (not (eqb b 0)) end (b ∷ []) NoTerminator (Ok None) None e).0))
begins_none end (b ∷ (c ∷ bytes)) e = absurd (typed_none end (c ∷ bytes) (type_of b) (unless_ok (eqb b 0) end (b ∷ (c ∷ bytes)) LengthWrong (typed_by end (c ∷ bytes) (type_of b)) None e).1)

pub begins_some : (end : ℕ) (bytes : List ℕ) (k : ElementType × List ℕ) → begins_at end bytes ≡ Ok (Some k) → bytes ≡ type_byte k.0 ∷ k.1
begins_some end [] k e = absurd cc
begins_some end (b ∷ []) k e =
    let u = unless_ok (not (eqb b 0)) end (b ∷ []) NoTerminator (Ok None) (Some k) e in
    let wrong = u.1 in absurd cc
begins_some end (b ∷ (c ∷ bytes)) k e =
    let u = unless_ok (eqb b 0) end (b ∷ (c ∷ bytes)) LengthWrong (typed_by end (c ∷ bytes) (type_of b)) (Some k) e in
    let typed = typed_some end (c ∷ bytes) (type_of b) k u.1 in
    ap (λ (n : ℕ). n ∷ (c ∷ bytes)) (type_takes b k.0 typed.0) ∙ ap (λ (after : List ℕ). type_byte k.0 ∷ after) typed.1

pub begins_again : (end : ℕ) (kind : ElementType) (after : List ℕ) → 0 < length after → begins_at end (type_byte kind ∷ after) ≡ Ok (Some (kind, after))
begins_again end kind [] more = absurd (omega arith)
begins_again end kind (c ∷ after) more = rw (type_not_zero kind, type_again kind) refl

-- ---- names

named_ok : (end : ℕ) (bytes : List ℕ) (o : Option (List ℕ × List ℕ)) (x : List ℕ × List ℕ) → split_zero bytes ≡ o → named_by end bytes o ≡ Ok x → (bytes ≡ x.0 ++ (0 ∷ x.1)) × IsName x.0
named_ok end bytes None x cut e = absurd cc
named_ok end bytes (Some s) x cut e =
    let u = unless_ok (not (is_utf8 s.0)) end bytes NotUtf8 (Ok s) x e in
    let parts = split_zero_parts bytes s cut in
    subst (λ (y : List ℕ × List ℕ). (bytes ≡ y.0 ++ (0 ∷ y.1)) × IsName y.0) (ok_is s x u.1) (parts.0, record { utf8 = not-false _ u.0; no_zero = parts.1 })

pub name_takes : (end : ℕ) (bytes : List ℕ) (x : List ℕ × List ℕ) → AreBytes bytes → name_at end bytes ≡ Ok x → (bytes ≡ x.0 ++ (0 ∷ x.1)) × IsName x.0 × AreBytes x.1
unfolding name_at
name_takes end bytes x fits e =
    let named = named_ok end bytes (split_zero bytes) x refl e in
    (named.0, named.1, AreBytes-rest 0 x.1 (AreBytes-behind x.0 (0 ∷ x.1) (subst AreBytes named.0 fits)))

pub name_again : (end : ℕ) (name rest : List ℕ) → IsName name → 0 < length rest → name_at end (name ++ (0 ∷ rest)) ≡ Ok (name, rest)
unfolding name_at
name_again end name rest is more = rw (split_zero_again name rest is.no_zero more, is.utf8) refl
