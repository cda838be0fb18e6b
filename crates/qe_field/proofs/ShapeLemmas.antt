-- What the form of a field object gives: types that fields have, and ends that fit the type.
use Rattle.std.proofs.Common.{◌≡◌, ℕ, inl, inr, ℤ, Bool, true, false, not, ◌&&◌, ◌||◌, if◌then◌else◌, List, length, Option, None, Some, option_map, refl, subst, ◌∙◌}
use Rattle.std.specs.Prelude.{Ok, bytes_eq, codes, int_le, is_some, nat_le, ◌==◌, unwrap_or}
use Rattle.std.specs.List.{list_all}
use Rattle.std.proofs.lemmas.Bool.{cases_Bool, and_parts}
use Rattle.qe_value.specs.declared.value.Plain.{Plain}
use Rattle.qe_value.specs.Views.{fields_of}
use Rattle.qe_edges.specs.Rules as edges
use Rattle.qe_field.specs.declared.fault.SchemaFault.TheVariants as s
use Rattle.qe_field.specs.declared.shape.Rules.{Rules}
use Rattle.qe_field.specs.Reading.{as_u32, domain_of, equality_kind, field_domain, given_domain, has_trim_fault, range_kind}
use Rattle.qe_field.specs.Schema.{EndsFit, is_number_kind, is_value_kind}
use Rattle.qe_field.specs.Shape.{◌>>=◌, EncryptedForm, FieldForm, encrypted_in, ends_fit, is_int32, is_known, no_other_name, number_if_named, number_named, rules_if_range, rules_in, shape_in, shape_of, text_named}
use Rattle.qe_field.proofs.GaveLemmas.{unwrapped}

-- what two judgements in order gave
record Gave {A B : Type 0} (first : Option A) (next : A → Option B) (last : B) : Type 0 where
  value : A
  found : first ≡ Some value
  then_is : next value ≡ Some last

gave : {A B : Type 0} (first : Option A) (next : A → Option B) (last : B) → (first >>= next) ≡ Some last → Gave first next last
gave None next last h = cc
gave (Some x) next last h = record { value = x; found = refl; then_is = h }

-- one type of several
one_of : (b1 b2 b3 b4 b5 b6 b7 : Bool) (kind : ℕ) → (if b1 then Some 0x10 else if b2 then Some 0x12 else if b3 then Some 0x02 else if b4 then Some 0x08 else if b5 then Some 0x07 else if b6 then Some 0x09 else if b7 then Some 0x05 else None) ≡ Some kind
    → is_value_kind kind ≡ true
one_of true b2 b3 b4 b5 b6 b7 kind h = let e : 0x10 ≡ kind = cc in subst (λ m. is_value_kind m ≡ true) e refl
one_of false true b3 b4 b5 b6 b7 kind h = let e : 0x12 ≡ kind = cc in subst (λ m. is_value_kind m ≡ true) e refl
one_of false false true b4 b5 b6 b7 kind h = let e : 0x02 ≡ kind = cc in subst (λ m. is_value_kind m ≡ true) e refl
one_of false false false true b5 b6 b7 kind h = let e : 0x08 ≡ kind = cc in subst (λ m. is_value_kind m ≡ true) e refl
one_of false false false false true b6 b7 kind h = let e : 0x07 ≡ kind = cc in subst (λ m. is_value_kind m ≡ true) e refl
one_of false false false false false true b7 kind h = let e : 0x09 ≡ kind = cc in subst (λ m. is_value_kind m ≡ true) e refl
one_of false false false false false false true kind h = let e : 0x05 ≡ kind = cc in subst (λ m. is_value_kind m ≡ true) e refl
one_of false false false false false false false kind h = cc

pub equality_told : (name : List ℕ) (kind : ℕ) → equality_kind name ≡ Some kind → is_value_kind kind ≡ true
equality_told name kind h = one_of _ _ _ _ _ _ _ kind h

number_told : (b c : Bool) (kind : ℕ) → (if b then Some 0x10 else if c then Some 0x12 else None) ≡ Some kind → is_number_kind kind ≡ true
number_told true c kind h = let e : 0x10 ≡ kind = cc in subst (λ m. is_number_kind m ≡ true) e refl
number_told false true kind h = let e : 0x12 ≡ kind = cc in subst (λ m. is_number_kind m ≡ true) e refl
number_told false false kind h = cc

pub range_told : (name : List ℕ) (kind : ℕ) → range_kind name ≡ Some kind → is_number_kind kind ≡ true
range_told name kind h = number_told _ _ kind h

-- an int's rules have ends that fit
abbrev pub FormFits : List ℕ → Option Rules → Type 0
FormFits name None = Unit {0}
FormFits name (Some rules) = ends_fit name rules.min rules.max ≡ true

abbrev pub ShapeFits : Option EncryptedForm → Type 0
ShapeFits None = Unit {0}
ShapeFits (Some form) = FormFits form.value_type form.rules

-- the type of an int32 has one name
int_told : (b c : Bool) (kind : ℕ) → (if b then Some 0x10 else if c then Some 0x12 else None) ≡ Some kind → kind ≡ 0x10 → b ≡ true
int_told true c kind h is = refl
int_told false true kind h is = let e : 0x12 ≡ kind = cc in let never : 0x12 ≡ 0x10 = e ∙ is in cc
int_told false false kind h is = cc

fit_parts : (is_int low high : Bool) → (not is_int || (low && high)) ≡ true → is_int ≡ true → (low ≡ true) × (high ≡ true)
fit_parts true low high h is = and_parts _ _ h
fit_parts false low high h is = cc

-- a domain has the ends that it was made of
domain_kept : (low high : ℤ) (sparsity : ℕ) (trim : Option ℕ) (domain : edges.Rules) → domain_of low high sparsity trim ≡ Ok domain
    → edges.rules_of low high sparsity trim ≡ domain
domain_kept low high sparsity trim domain h =
    elim (cases_Bool (int_le high low)) [
      | inl sure ↦ let made = rw sure at h in cc
      | inr ordered ↦
          let g = rw ordered at h in
          elim (cases_Bool (nat_le 1 sparsity && nat_le sparsity 8)) [
            | inl sure ↦
                let last = rw sure at g in
                elim (cases_Bool (has_trim_fault (edges.rules_of low high sparsity trim))) [
                  | inl bad ↦ let made = rw bad at last in cc
                  | inr fine ↦ let made = rw fine at last in cc
                ]
            | inr bad ↦ let made = rw bad at g in cc
          ]
    ]

pub ends_told : (i : ℕ) (name : List ℕ) (kind : ℕ) (rules : Rules) (domain : edges.Rules) → range_kind name ≡ Some kind → FormFits name (Some rules)
    → field_domain i rules ≡ Ok domain → EndsFit kind domain
ends_told i name kind rules domain typed fits is int =
    let given = unwrapped (s.BadDomain i) (given_domain rules) domain is in
    let sparsity = unwrap_or (option_map as_u32 rules.sparsity) 2 in
    let made = domain_kept rules.min rules.max sparsity (option_map as_u32 rules.trim) domain given in
    let named = int_told (bytes_eq name (codes "int")) (bytes_eq name (codes "long")) kind typed int in
    let parts = fit_parts (bytes_eq name (codes "int")) (is_int32 rules.min) (is_int32 rules.max) fits named in
    subst (λ (d : edges.Rules). (is_int32 d.min ≡ true) × (is_int32 d.max ≡ true)) made parts

ends_fit_in : (name : List ℕ) (low high : ℤ) (sparsity trim : Option ℤ) (rules : Rules)
    → (if ends_fit name low high then Some (record { min = low; max = high; sparsity = sparsity; trim = trim }) else None) ≡ Some rules → FormFits name (Some rules)
ends_fit_in name low high sparsity trim rules h =
    elim (cases_Bool (ends_fit name low high)) [
      | inl sure ↦
          let made = rw sure at h in
          let built : Rules = record { min = low; max = high; sparsity = sparsity; trim = trim } in
          let e : built ≡ rules = cc in
          subst (λ (r : Rules). FormFits name (Some r)) e sure
      | inr failed ↦ let made = rw failed at h in cc
    ]

rules_fit : (name : List ℕ) (elements : List (List ℕ × Plain)) (rules : Rules) → rules_in name elements ≡ Some rules → FormFits name (Some rules)
unfolding rules_in
rules_fit name elements rules h =
    let low = gave (number_named (codes "min") elements) _ rules h in
    let high = gave (number_named (codes "max") elements) _ rules low.then_is in
    let sparsity = gave (number_if_named (codes "sparsity") elements) _ rules high.then_is in
    let trim = gave (number_if_named (codes "trimFactor") elements) _ rules sparsity.then_is in
    ends_fit_in name low.value high.value sparsity.value trim.value rules trim.then_is

mapped_fit : (name : List ℕ) (r o : Option Rules) → ((rules : Rules) → r ≡ Some rules → FormFits name (Some rules)) → option_map Some r ≡ Some o → FormFits name o
mapped_fit name None o fits h = cc
mapped_fit name (Some rules) o fits h =
    let e : Some rules ≡ o = cc in
    subst (FormFits name) e (fits rules refl)

rules_if_fit : (query name : List ℕ) (elements : List (List ℕ × Plain)) (o : Option Rules) → rules_if_range query name elements ≡ Some o → FormFits name o
rules_if_fit query name elements o h =
    elim (cases_Bool (bytes_eq query (codes "range"))) [
      | inl sure ↦ mapped_fit name (rules_in name elements) o (rules_fit name elements) (rw sure at h)
      | inr failed ↦
          let g = rw failed at h in
          elim (cases_Bool (bytes_eq query (codes "equality"))) [
            | inl sure ↦
                let made = rw sure at g in
                let e : None ≡ o = cc in
                subst (FormFits name) e tt
            | inr other ↦ let made = rw other at g in cc
          ]
    ]

encrypted_fit : (elements : List (List ℕ × Plain)) (form : EncryptedForm) → encrypted_in elements ≡ Some form → FormFits form.value_type form.rules
unfolding encrypted_in
encrypted_fit elements form h =
    let value_type = gave (text_named (codes "bsonType") elements) _ form h in
    let key_id = gave (text_named (codes "keyId") elements) _ form value_type.then_is in
    let query = gave (text_named (codes "query") elements) _ form key_id.then_is in
    let contention = gave (number_if_named (codes "contention") elements) _ form query.then_is in
    let greatest = gave (number_if_named (codes "greatest") elements) _ form contention.then_is in
    let rules = gave (rules_if_range query.value value_type.value elements) _ form greatest.then_is in
    let last = rules.then_is in
    let built : EncryptedForm = record { value_type = value_type.value; key_id = key_id.value; contention = contention.value; greatest = greatest.value; rules = rules.value } in
    let e : built ≡ form = cc in
    subst (λ (f : EncryptedForm). FormFits f.value_type f.rules) e (rules_if_fit query.value value_type.value elements rules.value rules.found)

checked_is : (elements : List (List ℕ × Plain)) (form checked : EncryptedForm) → no_other_name elements form ≡ Some checked → form ≡ checked
checked_is elements form checked h =
    elim (cases_Bool (list_all (is_known (is_some form.rules)) elements)) [
      | inl sure ↦ let made = rw sure at h in cc
      | inr failed ↦ let made = rw failed at h in cc
    ]

path_fits : (elements : List (List ℕ × Plain)) (path : List ℕ) (form : FieldForm)
    → (if length elements == 1 then Some (record { path = path; encrypted = None })
    else (encrypted_in elements >>= (λ found. no_other_name elements found >>= (λ checked. Some (record { path = path; encrypted = Some checked }))))) ≡ Some form
    → ShapeFits form.encrypted
path_fits elements path form h =
    elim (cases_Bool (length elements == 1)) [
      | inl sure ↦
          let made = rw sure at h in
          let built : FieldForm = record { path = path; encrypted = None } in
          let e : built ≡ form = cc in
          subst (λ (f : FieldForm). ShapeFits f.encrypted) e tt
      | inr failed ↦
          let rest = rw failed at h in
          let found = gave (encrypted_in elements) _ form rest in
          let checked = gave (no_other_name elements found.value) _ form found.then_is in
          let made = checked.then_is in
          let built : FieldForm = record { path = path; encrypted = Some checked.value } in
          let e : built ≡ form = cc in
          let same = checked_is elements found.value checked.value checked.found in
          let fits = subst (λ (f : EncryptedForm). FormFits f.value_type f.rules) same (encrypted_fit elements found.value found.found) in
          subst (λ (f : FieldForm). ShapeFits f.encrypted) e fits
    ]

fields_fit : (elements : List (List ℕ × Plain)) (form : FieldForm) → shape_in elements ≡ Some form → ShapeFits form.encrypted
unfolding shape_in
fields_fit elements form h =
    let path = gave (text_named (codes "path") elements) _ form h in
    path_fits elements path.value form path.then_is

pub shape_fits : (value : Plain) (form : FieldForm) → shape_of value ≡ Some form → ShapeFits form.encrypted
shape_fits value form h =
    let g = gave (fields_of value) shape_in form h in
    fields_fit g.value form g.then_is
