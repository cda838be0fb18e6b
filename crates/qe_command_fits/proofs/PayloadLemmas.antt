-- Payloads that were read under a field are of the field.
use Rattle.std.proofs.Common.{◌≡◌, ℕ, pos, ◌≤◌, ◌≤ℤ◌, not, nat_lt, Bool, true, false, is_some, List, take, refl, sym, subst, if◌then◌else◌, Result, Ok, Err}
use Rattle.std.specs.Prelude.{bytes_eq, nat_abs}
use Rattle.std.specs.Ordering.{int_eq}
use Rattle.std.proofs.lemmas.Bool.{and_parts, ltb-false}
use Rattle.std.proofs.lemmas.Bool.Decides.{Decides-int_eq}
use Rattle.std.proofs.lemmas.Slice.Eq.{bytes_eq-Decides}
use Rattle.qe_value.specs.declared.value.Plain.{Plain}
use Rattle.qe_layout.specs.declared.malformed.Kind.TheVariants.{KindDiffers, KeyDiffers, ContentionAbove}
use Rattle.qe_layout.specs.Blobs.{read_under}
use Rattle.qe_layout.specs.Refusal.{Refusal, wrong}
use Rattle.qe_parts.proofs.FormLemmas.{bind_ok}
use Rattle.qe_insert.specs.declared.insert.InsertPayload.{InsertPayload}
use Rattle.qe_insert.specs.Insert.{insert_at}
use Rattle.qe_find.specs.declared.equal.FindEqual.{FindEqual}
use Rattle.qe_find.specs.declared.range.FindRange.{FindRange}
use Rattle.qe_find.specs.Equal.{equal_at}
use Rattle.qe_find.specs.Range.{range_at, FitsRange}
use Rattle.qe_command_document.specs.Payloads.{blob_reads, payload_reads, factor_within, has_key, has_kind, of_field, insert_reads_of, equal_reads_of, range_reads_of}
use Rattle.qe_command_fits.specs.OfSchema.{IsPayloadOf}
use Rattle.qe_command_fits.proofs.FormLemmas.{insert_at_fits, equal_at_fits, range_at_fits}

under_ok : {A : Type 0} (name : List ℕ) (read : Result A Refusal) (x : A) → read_under name read ≡ Ok x → read ≡ Ok x
under_ok name (Ok y) x is = is
under_ok name (Err refusal) x is = absurd (cc)

-- what a payload was read of
pub payload_ok : {P : Type 0} (kind : ℕ) (at : List ℕ → Result P Refusal) (name : List ℕ) (value : Plain) (x : P) → payload_reads kind at name value ≡ Ok x
    → (blob : List ℕ) × ((blob_reads kind name value ≡ Ok blob) × (at blob ≡ Ok x))
payload_ok kind at name value x is =
    let found = bind_ok (blob_reads kind name value) (λ blob. read_under name (at blob)) x is in
    (found.0, (found.1.0, under_ok name (at found.0) x found.1.1))

pub factor_ok : {P : Type 0} (greatest factor : ℕ) (name : List ℕ) (x y : P) → factor_within greatest factor name x ≡ Ok y → (y ≡ x) × (factor ≤ greatest)
factor_ok {P} greatest factor name x y is = by_test (nat_lt greatest factor) refl is
  where
    by_test : (b : Bool) → nat_lt greatest factor ≡ b → (if b then wrong name (ContentionAbove factor greatest) else Ok x) ≡ Ok y → (y ≡ x) × (factor ≤ greatest)
    by_test true above is = absurd (cc)
    by_test false within is = let same : x ≡ y = cc in (sym same, ltb-false greatest factor within)

-- the three tests of a payload that sets a field
pub record IsPassed (range : Bool) (id : List ℕ) (kind greatest : ℕ) (x y : InsertPayload) : Type 0 where
  pub same : y ≡ x
  pub kind_is : has_kind range kind x ≡ true
  pub key_is : has_key id x ≡ true
  pub factor : nat_abs x.k ≤ greatest

pub of_field_ok : (range : Bool) (id : List ℕ) (kind greatest : ℕ) (name : List ℕ) (x y : InsertPayload) → of_field range id kind greatest name x ≡ Ok y
    → IsPassed range id kind greatest x y
of_field_ok range id kind greatest name x y is = by_tests (has_kind range kind x) (has_key id x) refl refl is
  where
    by_tests : (same own : Bool) → has_kind range kind x ≡ same → has_key id x ≡ own
        → (if same then (if own then factor_within greatest (nat_abs x.k) name x else wrong name KeyDiffers) else wrong name KindDiffers) ≡ Ok y
        → IsPassed range id kind greatest x y
    by_tests false own kind_is key_is is = absurd (cc)
    by_tests true false kind_is key_is is = absurd (cc)
    by_tests true true kind_is key_is is =
        let held = factor_ok greatest (nat_abs x.k) name x y is in
        record { same = held.0; kind_is = kind_is; key_is = key_is; factor = held.1 }

negated : (b : Bool) → not b ≡ true → b ≡ false
negated true is = sym is
negated false is = refl

kind_holds : (range : Bool) (kind : ℕ) (x : InsertPayload) → has_kind range kind x ≡ true → (is_some x.g ≡ range) × (x.t ≡ pos kind)
kind_holds true kind x is =
    let parts = and_parts (is_some x.g) (int_eq x.t (pos kind)) is in
    (parts.0, (Decides-int_eq x.t (pos kind)).0 parts.1)
kind_holds false kind x is =
    let parts = and_parts (not (is_some x.g)) (int_eq x.t (pos kind)) is in
    (negated (is_some x.g) parts.0, (Decides-int_eq x.t (pos kind)).0 parts.1)

pub insert_of_field : (range : Bool) (id : List ℕ) (kind greatest : ℕ) (name : List ℕ) (value : Plain) (x : InsertPayload)
    → insert_reads_of range id kind greatest name value ≡ Ok x → IsPayloadOf range id kind greatest x
insert_of_field range id kind greatest name value x is =
    let found = bind_ok (payload_reads 11 insert_at name value) (of_field range id kind greatest name) x is in
    let read = payload_ok 11 insert_at name value found.0 found.1.0 in
    let passed = of_field_ok range id kind greatest name found.0 x found.1.1 in
    let kinds = kind_holds range kind found.0 passed.kind_is in
    let keys = and_parts (bytes_eq found.0.u id) (bytes_eq (take 16 found.0.v) id) passed.key_is in
    subst (λ y. IsPayloadOf range id kind greatest y) (sym passed.same) (record {
      edges = kinds.0;
      value_kind = kinds.1;
      index_key = (bytes_eq-Decides found.0.u id).0 keys.0;
      user_key = (bytes_eq-Decides (take 16 found.0.v) id).0 keys.1;
      factor = passed.factor;
      form = insert_at_fits found.0 read.0 read.1.1;
    })

pub equal_of_field : (greatest : ℕ) (name : List ℕ) (value : Plain) (x : FindEqual) → equal_reads_of greatest name value ≡ Ok x
    → (pos 0 ≤ℤ x.cm) × (nat_abs x.cm ≤ greatest)
equal_of_field greatest name value x is =
    let found = bind_ok (payload_reads 12 equal_at name value) (λ payload. factor_within greatest (nat_abs payload.cm) name payload) x is in
    let read = payload_ok 12 equal_at name value found.0 found.1.0 in
    let held = factor_ok greatest (nat_abs found.0.cm) name found.0 x found.1.1 in
    subst (λ (y : FindEqual). (pos 0 ≤ℤ y.cm) × (nat_abs y.cm ≤ greatest)) (sym held.0) (equal_at_fits found.0 read.0 read.1.1, held.1)

pub range_of_field : (greatest : ℕ) (name : List ℕ) (value : Plain) (x : FindRange) → range_reads_of greatest name value ≡ Ok x
    → FitsRange x × (nat_abs x.cm ≤ greatest)
range_of_field greatest name value x is =
    let found = bind_ok (payload_reads 13 range_at name value) (λ payload. factor_within greatest (nat_abs payload.cm) name payload) x is in
    let read = payload_ok 13 range_at name value found.0 found.1.0 in
    let held = factor_ok greatest (nat_abs found.0.cm) name found.0 x found.1.1 in
    subst (λ (y : FindRange). FitsRange y × (nat_abs y.cm ≤ greatest)) (sym held.0) (range_at_fits found.0 read.0 read.1.1, held.1)
