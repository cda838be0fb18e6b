-- A schema that was read is one.
use Rattle.std.proofs.Common.{◌≡◌, ℕ, zero, suc, ◌+◌, ◌<◌, ◌≤◌, inl, inr, ℤ, pos, negsuc, Bool, true, false, List, [], ◌∷◌, ◌++◌, length, get_or, Option, None, Some, option_map, unwrap_or, refl, sym, subst, ◌∙◌, length-append, arith}
use Rattle.std.specs.Prelude.{Result, Ok, Err, IfOk, All, nat_le, bytes_eq}
use Rattle.std.specs.List.{AllPairs}
use Rattle.std.proofs.lemmas.Bool.{cases_Bool, leb-true}
use Rattle.std.proofs.lemmas.List.Elements.{All-push}
use Rattle.std.proofs.lemmas.List.Quantifiers.{all_pairs_push}
use Rattle.qe_value.specs.declared.value.Plain.{Plain}
use Rattle.qe_base.specs.Answers.{Answers}
use Rattle.qe_field.specs.declared.fault.SchemaFault.{SchemaFault}
use Rattle.qe_field.specs.declared.field.Field.{Field}
use Rattle.qe_field.specs.declared.field.FieldKind.{FieldKind}
use Rattle.qe_field.specs.declared.field.FieldKind.TheVariants as k
use Rattle.qe_field.specs.declared.fault.SchemaFault.TheVariants as s
use Rattle.qe_field.specs.Judgements.{some_or}
use Rattle.qe_field.specs.Names.{is_path}
use Rattle.qe_field.specs.declared.shape.Rules.{Rules}
use Rattle.qe_field.specs.Shape.{FieldForm, EncryptedForm, shape_of}
use Rattle.qe_field.specs.Reading.{has_key, key_from, same_key, same_path, limited, ordered, then_limited, limits_of, contentions_of, value_kind_of, key_id_of, field_domain, with_rules, field_kind, named_field, field_of, fields_from, values_in, few_fields, schema_of}
use Rattle.qe_field.proofs.GaveLemmas.{gave, there, past, unmapped}
use Rattle.qe_field.specs.Faults.{schema_refusal}
use Rattle.qe_field.specs.Lookup.{known, known_from, number_with}
use Rattle.qe_field.specs.Schema.{IsLimited, IsKind, same_key_id, Differ, IsField, IsSchema}
use Rattle.qe_field.proofs.ShapeLemmas.{FormFits, ShapeFits, shape_fits, equality_told, range_told, ends_told}

-- no field found at any number
none_there : {B : Type 0} (test : Field → Bool) (find : ℕ → List Field → Option B)
    → ((i : ℕ) (field : Field) (fields : List Field) → test field ≡ true → find i (field ∷ fields) ≡ None → ⊥)
    → ((i : ℕ) (field : Field) (fields : List Field) → test field ≡ false → find i (field ∷ fields) ≡ find (i + 1) fields)
    → (fields : List Field) (i : ℕ) → find i fields ≡ None → (n : ℕ) (d : Field) → n < length fields → test (get_or fields n d) ≡ false
none_there test find here further [] i h n d lt = absurd (omega arith)
none_there test find here further (field ∷ fields) i h zero d lt =
    elim (cases_Bool (test field)) [
      | inl sure ↦ absurd (here i field fields sure h)
      | inr failed ↦ failed
    ]
none_there test find here further (field ∷ fields) i h (suc n) d lt =
    elim (cases_Bool (test field)) [
      | inl sure ↦ absurd (here i field fields sure h)
      | inr failed ↦ none_there test find here further fields (i + 1) (sym (further i field fields failed) ∙ h) n d (omega arith)
    ]

no_key : (id : List ℕ) (fields : List Field) → key_from 0 id fields ≡ None
    → (n : ℕ) (d : Field) → n < length fields → has_key id (get_or fields n d).kind ≡ false
no_key id fields h =
    none_there (λ field. has_key id field.kind) (λ i fs. key_from i id fs) (λ i field fs sure nothing. let found = rw sure at nothing in cc) (λ i field fs failed. rw failed refl) fields 0 h

no_path : (path : List ℕ) (fields : List Field) → known fields path ≡ None
    → (n : ℕ) (d : Field) → n < length fields → bytes_eq path (get_or fields n d).path ≡ false
no_path path fields h =
    none_there (λ field. bytes_eq path field.path) (λ i fs. known_from i path fs) (λ i field fs sure nothing. let found = rw sure at nothing in cc) (λ i field fs failed. rw failed refl) fields 0 h

limited_small : (z : ℤ) (n : ℕ) → limited z ≡ Some n → n ≤ 1000
limited_small (pos m) n h =
    elim (cases_Bool (nat_le m 1000)) [
      | inl sure ↦ let e : m ≡ n = let g = rw sure at h in cc in let small = leb-true _ _ sure in omega arith
      | inr failed ↦ let g = rw failed at h in cc
    ]
limited_small (negsuc m) n h = cc

in_order : (contention greatest : ℕ) (limits : ℕ × ℕ) → greatest ≤ 1000 → ordered contention greatest ≡ Some limits → IsLimited limits.0 limits.1
in_order contention greatest limits small h =
    elim (cases_Bool (nat_le contention greatest)) [
      | inl sure ↦
          let g = rw sure at h in
          let e : (contention, greatest) ≡ limits = cc in
          let P : ℕ × ℕ → Type 0 = λ l. IsLimited l.0 l.1 in
          subst P e (record { ordered = leb-true _ _ sure; small = small })
      | inr failed ↦ let g = rw failed at h in cc
    ]

greatest_small : (contention : ℕ) (greatest : Option ℕ) → ((n : ℕ) → greatest ≡ Some n → n ≤ 1000) → (limits : ℕ × ℕ)
    → then_limited contention greatest ≡ Some limits → IsLimited limits.0 limits.1
greatest_small contention None small limits h = cc
greatest_small contention (Some greatest) small limits h = in_order contention greatest limits (small greatest refl) h

limits_small : (contention : Option ℕ) (greatest : ℤ) (limits : ℕ × ℕ) → limits_of contention greatest ≡ Some limits → IsLimited limits.0 limits.1
limits_small None greatest limits h = cc
limits_small (Some contention) greatest limits h = greatest_small contention (limited greatest) (limited_small greatest) limits h

-- how a field is kept, beside the earlier ones
record IsKept (earlier : List Field) (kind : FieldKind) : Type 0 where
  is : IsKind kind
  apart : (n : ℕ) (d : Field) → n < length earlier → same_key_id kind (get_or earlier n d).kind ≡ false

with_rules_kept : (earlier : List Field) (i type : ℕ) (id : List ℕ) (limits : ℕ × ℕ) (name : List ℕ) (rules : Option Rules) (kind : FieldKind)
    → value_kind_of rules name ≡ Some type → FormFits name rules → IsLimited limits.0 limits.1
    → ((n : ℕ) (d : Field) → n < length earlier → has_key id (get_or earlier n d).kind ≡ false)
    → with_rules i type id limits rules ≡ Ok kind → IsKept earlier kind
with_rules_kept earlier i type id limits name None kind typed fits limited_so fresh h =
    let e : k.Equality id type limits.0 limits.1 ≡ kind = cc in
    subst (IsKept earlier) e (record { is = (equality_told name type typed, limited_so); apart = fresh })
with_rules_kept earlier i type id limits name (Some rules) kind typed fits limited_so fresh h =
    let g = gave (field_domain i rules) (λ domain. Ok (k.Range id type limits.0 limits.1 domain)) kind h in
    let last = g.then_is in
    let e : k.Range id type limits.0 limits.1 g.value ≡ kind = cc in
    subst (IsKept earlier) e (record {
      is = (range_told name type typed, ends_told i name type rules g.value typed fits g.found, limited_so);
      apart = fresh;
    })

kind_kept : (earlier : List Field) (i : ℕ) (form : Option EncryptedForm) (kind : FieldKind) → ShapeFits form → field_kind earlier i form ≡ Ok kind → IsKept earlier kind
kind_kept earlier i None kind fits h =
    let e : k.Plain ≡ kind = cc in
    subst (IsKept earlier) e (record { is = tt; apart = λ n d lt. refl })
kind_kept earlier i (Some form) kind fits h =
    let g1 = gave (some_or (s.BadType i) (value_kind_of form.rules form.value_type)) _ kind h in
    let g2 = gave (some_or (s.BadKeyId i) (key_id_of form.key_id)) _ kind g1.then_is in
    let free = past (option_map (same_key i) (key_from 0 g2.value earlier)) _ kind g2.then_is in
    let g3 = gave (some_or (s.BadContention i) (contentions_of form)) _ kind free.1 in
    let contention = unwrap_or form.contention (pos 8) in
    let so = limits_small (limited contention) (unwrap_or form.greatest contention) g3.value (there _ (contentions_of form) g3.value g3.found) in
    let typed = there _ (value_kind_of form.rules form.value_type) g1.value g1.found in
    with_rules_kept earlier i g1.value g2.value g3.value form.value_type form.rules kind typed fits so (no_key g2.value earlier (unmapped (same_key i) _ free.0)) g3.then_is

-- a field, beside the earlier ones
record IsNext (earlier : List Field) (field : Field) : Type 0 where
  is : IsField field
  apart : (n : ℕ) (d : Field) → n < length earlier → Differ (get_or earlier n d) field

named_next : (earlier : List Field) (i : ℕ) (form : FieldForm) (field : Field) → ShapeFits form.encrypted → named_field earlier i form ≡ Ok field → IsNext earlier field
named_next earlier i form field fits h =
    elim (cases_Bool (is_path form.path)) [
      | inl sure ↦
          let g = rw sure at h in
          let free = past (option_map (same_path i) (number_with earlier form.path)) _ field g in
          let made = gave (field_kind earlier i form.encrypted) _ field free.1 in
          let kept = kind_kept earlier i form.encrypted made.value fits made.found in
          let unused = no_path form.path earlier (unmapped (λ found. found.0) _ (unmapped (same_path i) _ free.0)) in
          let last = made.then_is in
          let built : Field = record { path = form.path; kind = made.value } in
          let e : built ≡ field = cc in
          subst (IsNext earlier) e (record {
            is = record { path = sure; kind = kept.is };
            apart = λ n d lt. record { paths = unused n d lt; keys = kept.apart n d lt };
          })
      | inr failed ↦ let g = rw failed at h in cc
    ]

field_next : (earlier : List Field) (i : ℕ) (value : Plain) (field : Field) → field_of earlier i value ≡ Ok field → IsNext earlier field
field_next earlier i value field h =
    let g = gave (some_or (s.BadForm i) (shape_of value)) (named_field earlier i) field h in
    named_next earlier i g.value field (shape_fits value g.value (there _ (shape_of value) g.value g.found)) g.then_is

-- fields that are some and differ, so many
record AreSome (fields : List Field) (count : ℕ) : Type 0 where
  each : All IsField fields
  apart : AllPairs Differ fields
  counted : length fields ≡ count

all_some : (values : List Plain) (i count : ℕ) (earlier fields : List Field) → AreSome earlier count
    → fields_from i earlier values ≡ Ok fields → AreSome fields (count + length values)
all_some [] i count earlier fields some h =
    let e : earlier ≡ fields = cc in
    subst (λ (fs : List Field). AreSome fs (count + 0)) e (record { each = some.each; apart = some.apart; counted = let n = some.counted in omega arith })
all_some (value ∷ values) i count earlier fields some h =
    let g = gave (field_of earlier i value) (λ field. fields_from (i + 1) (earlier ++ field ∷ []) values) fields h in
    let next = field_next earlier i value g.value g.found in
    let more : AreSome (earlier ++ g.value ∷ []) (count + 1) = record {
      each = All-push IsField earlier g.value some.each next.is;
      apart = all_pairs_push Differ earlier g.value some.apart next.apart;
      counted = let n = some.counted in omega (arith, length-append earlier (g.value ∷ []));
    } in
    let rest = all_some values (i + 1) (count + 1) (earlier ++ g.value ∷ []) fields more g.then_is in
    record { each = rest.each; apart = rest.apart; counted = let n = rest.counted in omega arith }

pub read_as_schema : (elements : List (List ℕ × Plain)) (fields : List Field) → schema_of elements ≡ Ok fields → IsSchema fields
read_as_schema elements fields h =
    let g = gave (some_or s.NotFields (values_in elements)) few_fields fields h in
    let last = g.then_is in
    elim (cases_Bool (nat_le (length g.value) 64)) [
      | inl sure ↦
          let read = rw sure at last in
          let none : AreSome [] 0 = record { each = λ n d lt. absurd (omega arith); apart = λ n m d lt past_end. absurd (omega arith); counted = refl } in
          let all = all_some g.value 0 0 [] fields none read in
          record { few = let n = all.counted in let few = leb-true _ _ sure in omega arith; each = all.each; apart = all.apart }
      | inr failed ↦ let read = rw failed at last in cc
    ]

-- .. as the call answers it
pub schema_answer : (elements : List (List ℕ × Plain)) (result : Result (List Field) SchemaFault) → Answers (λ it. it) schema_refusal result (schema_of elements)
    → IfOk result IsSchema
schema_answer elements (Ok fields) h = read_as_schema elements fields h
schema_answer elements (Err fault) h = tt
