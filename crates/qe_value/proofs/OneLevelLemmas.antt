-- One level: what is asked of each field and item, and one element read and spelled.
use Rattle.std.proofs.Common.{◌≡◌, ℕ, suc, ◌+◌, ◌%◌, ◌^◌, ◌<◌, ◌≤◌, ◌==◌, false, decimal, List, [], ◌∷◌, ◌++◌, length, map, Result, refl, sym, ap, subst, ◌∙◌, append_assoc, arith}
use Rattle.std.specs.List.{list_any, AllByRecursion}
use Rattle.std.proofs.lemmas.Bool.{ne_eqb, or_from}
use Rattle.std.proofs.lemmas.Fmt.{decimal_by_steps, IsAscii-decimal}
use Rattle.std.proofs.lemmas.List.{length-append}
use Rattle.std.proofs.lemmas.List.Folds.{list_any-append}
use Rattle.std.proofs.lemmas.Str.{IsUtf8-from_ascii, is_utf8-from_IsUtf8}
use Rattle.qe_value.specs.declared.element_type.ElementType.{ElementType}
use Rattle.qe_value.specs.declared.fault.BsonFault.{BsonFault}
use Rattle.qe_value.specs.declared.value.Plain.{Plain, out-Plain}
use Rattle.qe_value.specs.Names.{is_named, Distinct}
use Rattle.qe_value.specs.Reading.{field_at, item_at}
use Rattle.qe_value.specs.Spelling.{Spelled, element, spelled, spelled_field, fields_bytes, items_bytes, IsName, Fits_with}
use Rattle.qe_value.proofs.AllLemmas.{spelled_from, AllFrom, OneTakes, OneReads}
use Rattle.qe_value.proofs.ElementLemmas.{ValueTakes, ValueReads, field_none, field_takes, field_again, item_none, item_takes, item_again}
use Rattle.qe_value.proofs.NameLemmas.{Distinct-push, Distinct-middle}

-- ---- keys of arrays

no_zero_in : (n : ℕ) → n < 2 ^ 64 → list_any (λ b. b == 0) (decimal n) ≡ false
no_zero_in n lt = decimal_by_steps (λ n ds. list_any (λ b. b == 0) ds ≡ false)
    (λ n small. or_from _ _ (ne_eqb (48 + n) 0 (λ e. absurd (omega arith))) refl)
    (λ n ds large before. list_any-append (λ b. b == 0) ds ((48 + n % 10) ∷ []) ∙ or_from _ _ before (or_from _ _ (ne_eqb (48 + n % 10) 0 (λ e. absurd (omega arith))) refl)) n lt

pub IsName-decimal : (n : ℕ) → n < 2 ^ 64 → IsName (decimal n)
IsName-decimal n lt = record { utf8 = is_utf8-from_IsUtf8 (decimal n) (IsUtf8-from_ascii (decimal n) (IsAscii-decimal n lt)); no_zero = no_zero_in n lt }

-- ---- elements one after the other are the spelling

abbrev pub field_bytes : List (List ℕ × Plain) → List ℕ × Plain → List ℕ
field_bytes before f = element f.0 (spelled f.1)

abbrev pub item_bytes : List Plain → Plain → List ℕ
item_bytes before v = element (decimal (length before)) (spelled v)

pub fields_spelled : (before fs : List (List ℕ × Plain)) → spelled_from field_bytes before fs ≡ fields_bytes (map spelled_field fs)
fields_spelled before [] = refl
fields_spelled before (f ∷ fs) = ap (λ (b : List ℕ). element f.0 (spelled f.1) ++ b) (fields_spelled (before ++ f ∷ []) fs)

one_more : (before : List Plain) (v : Plain) → length (before ++ v ∷ []) ≡ suc (length before)
one_more before v = length-append before (v ∷ []) ∙ omega arith

pub items_spelled : (before vs : List Plain) → spelled_from item_bytes before vs ≡ items_bytes (length before) (map spelled vs)
items_spelled before [] = refl
items_spelled before (v ∷ vs) = ap (λ (b : List ℕ). element (decimal (length before)) (spelled v) ++ b) (items_spelled (before ++ v ∷ []) vs ∙ ap (λ (k : ℕ). items_bytes k (map spelled vs)) (one_more before v))

module _ (Fields : List (List ℕ × Plain) → Type 0) (Items : List Plain → Type 0) where
  -- what a level asks of each field and of each item
  abbrev pub FieldFits : List ℕ × Plain → Type 0
  FieldFits f = IsName f.0 × Fits_with Fields Items (out-Plain f.1)

  abbrev pub ItemFits : Plain → Type 0
  ItemFits v = Fits_with Fields Items (out-Plain v)

  abbrev pub FieldRead : List (List ℕ × Plain) → List ℕ × Plain → Type 0
  FieldRead before f = (is_named f.0 before ≡ false) × FieldFits f

  abbrev pub ItemRead : List Plain → Plain → Type 0
  ItemRead before v = ItemFits v

  -- a field and an item that are spelled in fewer bytes than an int32 counts
  abbrev pub FieldStands : List (List ℕ × Plain) → List ℕ × Plain → Type 0
  FieldStands before f = FieldRead before f × (length (spelled f.1).bytes < 2 ^ 31)

  abbrev pub ItemStands : List Plain → Plain → Type 0
  ItemStands before v = IsName (decimal (length before)) × ItemFits v × (length (spelled v).bytes < 2 ^ 31)

  pub read_fit : (before fs : List (List ℕ × Plain)) → AllFrom FieldRead before fs → AllByRecursion FieldFits fs
  read_fit before [] each = tt
  read_fit before (f ∷ fs) each = (each.0.1, read_fit (before ++ f ∷ []) fs each.1)

  pub read_apart : (before fs : List (List ℕ × Plain)) → AllFrom FieldRead before fs → Distinct before → Distinct (before ++ fs)
  read_apart before [] each apart = subst Distinct (sym (append_nil_of before)) apart
    where
      append_nil_of : (xs : List (List ℕ × Plain)) → xs ++ [] ≡ xs
      append_nil_of [] = refl
      append_nil_of (x ∷ xs) = ap (λ (r : List (List ℕ × Plain)). x ∷ r) (append_nil_of xs)
  read_apart before (f ∷ fs) each apart =
      subst Distinct (append_assoc before (f ∷ []) fs) (read_apart (before ++ f ∷ []) fs each.1 (Distinct-push before f apart each.0.0))

  pub items_fit : (before vs : List Plain) → AllFrom ItemRead before vs → AllByRecursion ItemFits vs
  items_fit before [] each = tt
  items_fit before (v ∷ vs) each = (each.0, items_fit (before ++ v ∷ []) vs each.1)

  element_short : (name : List ℕ) (s : Spelled) (rest : List ℕ) → length (element name s ++ rest) < 2 ^ 31 → (length s.bytes < 2 ^ 31) × (length rest + 1 ≤ length (element name s ++ rest)) × (length rest < 2 ^ 31)
  element_short name s rest short =
      let all = length-append (element name s) rest in
      let inside = length-append name (0 ∷ s.bytes) in
      (omega arith, omega arith, omega arith)

  pub fields_stand : (before fs : List (List ℕ × Plain)) → Distinct (before ++ fs) → AllByRecursion FieldFits fs → length (fields_bytes (map spelled_field fs)) < 2 ^ 31 → AllFrom FieldStands before fs
  fields_stand before [] apart each short = tt
  fields_stand before (f ∷ fs) apart each short =
      let bounds = element_short f.0 (spelled f.1) (fields_bytes (map spelled_field fs)) short in
      (((Distinct-middle before f fs apart, each.0), bounds.0), fields_stand (before ++ f ∷ []) fs (subst Distinct (sym (append_assoc before (f ∷ []) fs)) apart) each.1 bounds.2)

  pub items_stand : (before vs : List Plain) → AllByRecursion ItemFits vs → length before + length (items_bytes (length before) (map spelled vs)) < 2 ^ 32 → length (items_bytes (length before) (map spelled vs)) < 2 ^ 31 → AllFrom ItemStands before vs
  items_stand before [] each few short = tt
  items_stand before (v ∷ vs) each few short =
      let later : List ℕ = items_bytes (suc (length before)) (map spelled vs) in
      let bounds = element_short (decimal (length before)) (spelled v) later short in
      let next : items_bytes (length (before ++ v ∷ [])) (map spelled vs) ≡ later = ap (λ (k : ℕ). items_bytes k (map spelled vs)) (one_more before v) in
      let len : length (items_bytes (length (before ++ v ∷ [])) (map spelled vs)) ≡ length later = ap (λ (b : List ℕ). length b) next in
      ((IsName-decimal (length before) (omega arith), each.0, bounds.0), items_stand (before ++ v ∷ []) vs each.1 (omega (arith, one_more before v, len, bounds.1)) (omega (arith, len, bounds.2)))

  module _ (value : ElementType → ℕ → List ℕ → Result (Plain × List ℕ) BsonFault) where
    pub field_one_takes : ValueTakes Fields Items value → OneTakes (field_at value) field_bytes FieldRead
    field_one_takes takes = record { none = field_none Fields Items value; some = field_takes Fields Items value takes }

    pub item_one_takes : ValueTakes Fields Items value → OneTakes (item_at value) item_bytes ItemRead
    item_one_takes takes = record { none = item_none Fields Items value; some = item_takes Fields Items value takes }

    pub field_one_reads : ValueReads Fields Items value → OneReads (field_at value) field_bytes FieldStands
    unfolding field_at
    field_one_reads reads = record {
      none = λ before end. refl;
      some = λ before end f rest stands more. field_again Fields Items value reads before end f rest stands.0.0 stands.0.1.0 stands.0.1.1 stands.1 more;
      long = λ before f. omega arith;
    }

    pub item_one_reads : ValueReads Fields Items value → OneReads (item_at value) item_bytes ItemStands
    unfolding item_at
    item_one_reads reads = record {
      none = λ before end. refl;
      some = λ before end v rest stands more. item_again Fields Items value reads before end v rest stands.0 stands.1 stands.2 more;
      long = λ before v. omega arith;
    }
