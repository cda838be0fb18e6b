-- One element of a document or an array: read as it is spelled, and spelled as it is read.
use Rattle.std.proofs.Common.{◌≡◌, ℕ, ◌^◌, ◌<◌, true, false, not, bytes_eq, decimal, List, [], ◌∷◌, ◌++◌, length, Option, Some, None, Result, Ok, refl, sym, ap, subst, ◌∙◌, append_assoc, arith}
use Rattle.std.proofs.lemmas.Bool.{not-false}
use Rattle.std.proofs.lemmas.List.{length-append}
use Rattle.std.proofs.lemmas.Slice.Eq.{bytes_eq-Decides}
use Rattle.qe_value.specs.declared.element_type.ElementType.{ElementType}
use Rattle.qe_value.specs.declared.fault.BsonFault.{BsonFault}
use Rattle.qe_value.specs.declared.fault.BsonKind.TheVariants.{DuplicateName, ArrayKey}
use Rattle.qe_value.specs.declared.value.Plain.{Plain, out-Plain}
use Rattle.qe_value.specs.Names.{is_named}
use Rattle.qe_value.specs.Reading.{begins_at, name_at, element_with, field_at, item_at}
use Rattle.qe_value.specs.Spelling.{Spelled, element, spelled, Fits_with, IsName}
use Rattle.qe_value.specs.Types.{type_byte}
use Rattle.qe_base.specs.Bytes.{AreBytes}
use Rattle.qe_value.proofs.ReaderTools.{AreBytes-rest, bind_ok, unless_ok, ok_is}
use Rattle.qe_value.proofs.ValueTakes.{ValueRead}
use Rattle.qe_value.proofs.StationLemmas.{begins_none, begins_some, begins_again, name_takes, name_again}

element_none : {A : Type 0} (read : ElementType → List ℕ → Result (A × List ℕ) BsonFault) (o : Option (ElementType × List ℕ)) → element_with read o ≡ Ok None → o ≡ None
element_none read None e = refl
element_none read (Some k) e =
    let b = bind_ok (read k.0 k.1) (λ x. Ok (Some x)) None e in
    let wrong = b.2 in absurd cc

element_some : {A : Type 0} (read : ElementType → List ℕ → Result (A × List ℕ) BsonFault) (o : Option (ElementType × List ℕ)) (x : A × List ℕ) → element_with read o ≡ Ok (Some x) → (k : ElementType × List ℕ) × (o ≡ Some k) × (read k.0 k.1 ≡ Ok x)
element_some read None x e = absurd cc
element_some read (Some k) x e =
    let b = bind_ok (read k.0 k.1) (λ y. Ok (Some y)) (Some x) e in
    let is : b.0 ≡ x = let right = b.2 in cc in
    (k, refl, b.1 ∙ ap (λ y. Ok y) is)

-- the bytes of an element whose parts were read
joined : (kind : ElementType) (bytes after name behind text rest : List ℕ) (s : Spelled) → bytes ≡ type_byte kind ∷ after → after ≡ name ++ (0 ∷ behind) → behind ≡ text ++ rest → kind ≡ s.kind → text ≡ s.bytes → bytes ≡ element name s ++ rest
joined kind bytes after name behind text rest s first second third type_is text_is =
    first ∙ ap (λ (r : List ℕ). type_byte kind ∷ r) (second ∙ ap (λ (r : List ℕ). name ++ (0 ∷ r)) third ∙ sym (append_assoc name (0 ∷ text) rest)) ∙ rw (type_is, text_is) refl

module _ (Fields : List (List ℕ × Plain) → Type 0) (Items : List Plain → Type 0) (value : ElementType → ℕ → List ℕ → Result (Plain × List ℕ) BsonFault) where
  abbrev pub Fits : Plain → Type 0
  Fits v = Fits_with Fields Items (out-Plain v)

  abbrev pub ValueTakes : Type 0
  ValueTakes = (kind : ElementType) (end : ℕ) (bytes : List ℕ) (x : Plain × List ℕ) → AreBytes bytes → value kind end bytes ≡ Ok x → ValueRead Fields Items kind bytes x

  abbrev pub ValueReads : Type 0
  ValueReads = (v : Plain) → Fits v → (end : ℕ) (rest : List ℕ) → 0 < length rest → length (spelled v).bytes < 2 ^ 31 → value (spelled v).kind end ((spelled v).bytes ++ rest) ≡ Ok (v, rest)

  pub field_none : (before : List (List ℕ × Plain)) (end : ℕ) (bytes : List ℕ) → field_at value before end bytes ≡ Ok None → bytes ≡ 0 ∷ []
  unfolding field_at
  field_none before end bytes e =
      let b = bind_ok (begins_at end bytes) _ None e in
      begins_none end bytes (b.1 ∙ ap (λ o. Ok o) (element_none _ b.0 b.2))

  pub field_takes : ValueTakes → (before : List (List ℕ × Plain)) (end : ℕ) (bytes : List ℕ) (x : (List ℕ × Plain) × List ℕ) → AreBytes bytes → field_at value before end bytes ≡ Ok (Some x)
      → (bytes ≡ element x.0.0 (spelled x.0.1) ++ x.1) × AreBytes x.1 × ((is_named x.0.0 before ≡ false) × (IsName x.0.0 × Fits x.0.1))
  unfolding field_at
  field_takes takes before end bytes x fits e =
      let b = bind_ok (begins_at end bytes) _ (Some x) e in
      let k = element_some _ b.0 x b.2 in
      let first : bytes ≡ type_byte k.0.0 ∷ k.0.1 = begins_some end bytes k.0 (b.1 ∙ ap (λ o. Ok o) k.1) in
      let after_fits : AreBytes k.0.1 = AreBytes-rest (type_byte k.0.0) k.0.1 (subst AreBytes first fits) in
      let n = bind_ok (name_at end k.0.1) _ x k.2 in
      let named = name_takes end k.0.1 n.0 after_fits n.1 in
      let u = unless_ok (is_named n.0.0 before) end k.0.1 DuplicateName _ x n.2 in
      let v = bind_ok (value k.0.0 end n.0.1) _ x u.1 in
      let read = takes k.0.0 end n.0.1 v.0 named.2 v.1 in
      subst (λ (y : (List ℕ × Plain) × List ℕ). (bytes ≡ element y.0.0 (spelled y.0.1) ++ y.1) × AreBytes y.1 × ((is_named y.0.0 before ≡ false) × (IsName y.0.0 × Fits y.0.1))) (ok_is ((n.0.0, v.0.0), v.0.1) x v.2)
      (joined k.0.0 bytes k.0.1 n.0.0 n.0.1 (spelled v.0.0).bytes v.0.1 (spelled v.0.0) first named.0 read.parts read.type_is refl, read.rest_fits, (u.0, (named.1, read.fits)))

  pub field_again : ValueReads → (before : List (List ℕ × Plain)) (end : ℕ) (f : List ℕ × Plain) (rest : List ℕ) → is_named f.0 before ≡ false → IsName f.0 → Fits f.1 → length (spelled f.1).bytes < 2 ^ 31 → 0 < length rest
      → field_at value before end (element f.0 (spelled f.1) ++ rest) ≡ Ok (Some (f, rest))
  unfolding field_at
  field_again reads before end f rest new is fits short more =
      let s = spelled f.1 in
      let behind : List ℕ = s.bytes ++ rest in
      let regrouped : element f.0 s ++ rest ≡ type_byte s.kind ∷ (f.0 ++ (0 ∷ behind)) = ap (λ (r : List ℕ). type_byte s.kind ∷ r) (append_assoc f.0 (0 ∷ s.bytes) rest) in
      let begun : begins_at end (type_byte s.kind ∷ (f.0 ++ (0 ∷ behind))) ≡ Ok (Some (s.kind, f.0 ++ (0 ∷ behind))) =
      begins_again end s.kind (f.0 ++ (0 ∷ behind)) (omega (arith, length-append f.0 (0 ∷ behind))) in
      let named : name_at end (f.0 ++ (0 ∷ behind)) ≡ Ok (f.0, behind) = name_again end f.0 behind is (omega (arith, length-append s.bytes rest)) in
      ap (λ (bytes : List ℕ). field_at value before end bytes) regrouped ∙ rw (begun, named, new, reads f.1 fits end rest more short) refl

  pub item_none : (before : List Plain) (end : ℕ) (bytes : List ℕ) → item_at value before end bytes ≡ Ok None → bytes ≡ 0 ∷ []
  unfolding item_at
  item_none before end bytes e =
      let b = bind_ok (begins_at end bytes) _ None e in
      begins_none end bytes (b.1 ∙ ap (λ o. Ok o) (element_none _ b.0 b.2))

  pub item_takes : ValueTakes → (before : List Plain) (end : ℕ) (bytes : List ℕ) (x : Plain × List ℕ) → AreBytes bytes → item_at value before end bytes ≡ Ok (Some x)
      → (bytes ≡ element (decimal (length before)) (spelled x.0) ++ x.1) × AreBytes x.1 × Fits x.0
  unfolding item_at
  item_takes takes before end bytes x fits e =
      let b = bind_ok (begins_at end bytes) _ (Some x) e in
      let k = element_some _ b.0 x b.2 in
      let first : bytes ≡ type_byte k.0.0 ∷ k.0.1 = begins_some end bytes k.0 (b.1 ∙ ap (λ o. Ok o) k.1) in
      let after_fits : AreBytes k.0.1 = AreBytes-rest (type_byte k.0.0) k.0.1 (subst AreBytes first fits) in
      let n = bind_ok (name_at end k.0.1) _ x k.2 in
      let named = name_takes end k.0.1 n.0 after_fits n.1 in
      let u = unless_ok (not (bytes_eq n.0.0 (decimal (length before)))) end k.0.1 ArrayKey _ x n.2 in
      let key : n.0.0 ≡ decimal (length before) = (bytes_eq-Decides n.0.0 (decimal (length before))).0 (not-false _ u.0) in
      let read = takes k.0.0 end n.0.1 x named.2 u.1 in
      (joined k.0.0 bytes k.0.1 (decimal (length before)) n.0.1 (spelled x.0).bytes x.1 (spelled x.0) first (named.0 ∙ ap (λ (t : List ℕ). t ++ (0 ∷ n.0.1)) key) read.parts read.type_is refl, read.rest_fits, read.fits)

  pub item_again : ValueReads → (before : List Plain) (end : ℕ) (v : Plain) (rest : List ℕ) → IsName (decimal (length before)) → Fits v → length (spelled v).bytes < 2 ^ 31 → 0 < length rest
      → item_at value before end (element (decimal (length before)) (spelled v) ++ rest) ≡ Ok (Some (v, rest))
  unfolding item_at
  item_again reads before end v rest is fits short more =
      let s = spelled v in
      let key : List ℕ = decimal (length before) in
      let behind : List ℕ = s.bytes ++ rest in
      let regrouped : element key s ++ rest ≡ type_byte s.kind ∷ (key ++ (0 ∷ behind)) = ap (λ (r : List ℕ). type_byte s.kind ∷ r) (append_assoc key (0 ∷ s.bytes) rest) in
      let begun : begins_at end (type_byte s.kind ∷ (key ++ (0 ∷ behind))) ≡ Ok (Some (s.kind, key ++ (0 ∷ behind))) =
      begins_again end s.kind (key ++ (0 ∷ behind)) (omega (arith, length-append key (0 ∷ behind))) in
      let named : name_at end (key ++ (0 ∷ behind)) ≡ Ok (key, behind) = name_again end key behind is (omega (arith, length-append s.bytes rest)) in
      let same : bytes_eq key key ≡ true = (bytes_eq-Decides key key).1 refl in
      ap (λ (bytes : List ℕ). item_at value before end bytes) regrouped ∙ rw (begun, named, same, reads v fits end rest more short) refl
