-- What is read has the form in which it is written again.
use Rattle.std.proofs.Common.{◌≡◌, ℕ, zero, suc, ◌&&◌, ℤ, pos, negsuc, ◌+◌, ◌≤◌, ◌≤ℤ◌, ◌==◌, nat_lt, Bool, true, false, List, [], ◌∷◌, ◌++◌, length, refl, ap, sym, subst, ◌∙◌, arith, if◌then◌else◌, Option, None, Some, Result, Ok, Err}
use Rattle.std.specs.Prelude.{bytes_eq, codes, decimal}
use Rattle.std.proofs.lemmas.Bool.{cond-true, cond-false, eqb-false, ltb-false}
use Rattle.std.proofs.lemmas.Int.{ints}
use Rattle.std.proofs.lemmas.Slice.Eq.{bytes_eq-Decides}
use Rattle.qe_document.specs.Names.{value_named}
use Rattle.qe_value.specs.declared.value.Plain.{Plain}
use Rattle.qe_layout.specs.declared.malformed.Kind.{Kind}
use Rattle.qe_layout.specs.declared.malformed.Kind.TheVariants.{NoEdges, TooManyEdges, WrongLength, WrongType}
use Rattle.qe_document.specs.Views.{items_of}
use Rattle.qe_layout.specs.Documents.{of_type, count_reads, each_read, bounded_reads}
use Rattle.qe_layout.specs.Layouts.{Element, Reader, Rows, slots_of, arranged, built, IsSlot, AreSlots, IsBuilt}
use Rattle.qe_layout.specs.Leaves.{bytes_reads, natural_reads}
use Rattle.qe_layout.specs.Refusal.{Refusal, wrong, bind, map_read, read_inside}
use Rattle.qe_layout.proofs.FillLemmas.{arranged-slots}
use Rattle.qe_layout.proofs.LaidLemmas.{arranged_slots, laid_arranged}
use Rattle.qe_parts.specs.declared.parts.Part.{Part}
use Rattle.qe_parts.specs.Carried.{extra_names, picked_one, picked}
use Rattle.qe_parts.specs.Parts.{sealed, number, sealed_in, number_in}
use Rattle.qe_value.specs.declared.value.Plain.TheVariants as p
use Rattle.qe_parts.specs.declared.parts.Part.TheVariants as part

-- what was read, step by step
pub map_ok : {A B : Type 0} (f : A → B) (read : Result A Refusal) (y : B) → map_read f read ≡ Ok y → (x : A) × ((read ≡ Ok x) × (y ≡ f x))
map_ok f (Ok x) y is = (x, (refl, let same : f x ≡ y = cc in sym same))
map_ok f (Err refusal) y is = absurd (cc)

pub bind_ok : {A B : Type 0} (read : Result A Refusal) (on : A → Result B Refusal) (y : B) → bind read on ≡ Ok y → (x : A) × ((read ≡ Ok x) × (on x ≡ Ok y))
bind_ok (Ok x) on y is = (x, (refl, is))
bind_ok (Err refusal) on y is = absurd (cc)

pub inside_ok : {A : Type 0} (name : List ℕ) (read : Result A Refusal) (x : A) → read_inside name read ≡ Ok x → read ≡ Ok x
inside_ok name (Ok y) x is = is
inside_ok name (Err refusal) x is = absurd (cc)

-- the slots of what is built are those of its elements
pub built_slots : {A B : Type 0} (reads : Reader A) (rows : Rows) (build : List (Option A) → B) (out : B) (elements : List Element) → IsBuilt reads rows build out elements
    → (out ≡ build (slots_of reads rows elements)) × AreSlots reads elements rows (slots_of reads rows elements)
built_slots reads rows build out elements is =
    let slots : is.slots ≡ slots_of reads rows elements = arranged-slots reads rows elements is.slots (laid_arranged reads rows is.slots elements is.laid) in
    (is.built_of ∙ ap build slots, subst (λ all. AreSlots reads elements rows all) slots is.laid.each)

-- the same of what a reader built
pub read_slots : {A B : Type 0} (reads : Reader A) (rows : Rows) (build : List (Option A) → B) (out : B) (elements : List Element) → built reads rows build elements ≡ Ok out
    → (out ≡ build (slots_of reads rows elements)) × AreSlots reads elements rows (slots_of reads rows elements)
read_slots reads rows build out elements is =
    let found = map_ok build (arranged reads rows elements) out is in
    let slots : found.0 ≡ slots_of reads rows elements = arranged-slots reads rows elements found.0 found.1.0 in
    (found.1.1 ∙ ap build slots, subst (λ all. AreSlots reads elements rows all) slots (arranged_slots reads rows found.0 elements found.1.0))

-- what holds of each part that is read under a name holds of the name's slot
pub held : {A : Type 0} (reads : Reader A) (elements : List Element) (name : List ℕ) (kind : Kind) (P : Option A → Type 0)
    → ((value : Plain) (x : A) → reads name value ≡ Ok x → P (Some x)) → (s : Option A) → IsSlot reads elements (name, Some kind) s → P s
held reads elements name kind P each None is = let no : Some kind ≡ None = is.0 in absurd (cc)
held reads elements name kind P each (Some x) is = each is.0 x is.1.1

pub maybe_held : {A : Type 0} (reads : Reader A) (elements : List Element) (name : List ℕ) (P : Option A → Type 0)
    → P None → ((value : Plain) (x : A) → reads name value ≡ Ok x → P (Some x)) → (s : Option A) → IsSlot reads elements (name, None) s → P s
maybe_held reads elements name P none each None is = none
maybe_held reads elements name P none each (Some x) is = each is.0 x is.1.1

-- leaves
pub bytes_long : (least : ℕ) (name : List ℕ) (value : Plain) (t : List ℕ) → bytes_reads 0 least name value ≡ Ok t → least ≤ length t
bytes_long least name (p.Binary s b) t is = by_subtype (s == 0) is
  where
    by_length : (b' : Bool) → nat_lt (length b) least ≡ b' → (if b' then wrong name (WrongLength (length b)) else Ok b) ≡ Ok t → least ≤ length t
    by_length true short is = absurd (cc)
    by_length false long is = let same : b ≡ t = cc in subst (λ (x : List ℕ). least ≤ length x) same (ltb-false (length b) least long)

    by_subtype : (same : Bool) → (if same then (if nat_lt (length b) least then wrong name (WrongLength (length b)) else Ok b) else wrong name WrongType) ≡ Ok t → least ≤ length t
    by_subtype true is = by_length (nat_lt (length b) least) refl is
    by_subtype false is = absurd (cc)
bytes_long least name _ t is = absurd (cc)

pub not_negative : (n : ℕ) → pos 0 ≤ℤ pos n
not_negative n = omega (arith, ints)

natural_some : (name : List ℕ) (value : Plain) (z : ℤ) → natural_reads name value ≡ Ok z → pos 0 ≤ℤ z
natural_some name (p.Int64 (pos n)) z is = let same : pos n ≡ z = cc in subst (λ (x : ℤ). pos 0 ≤ℤ x) same (not_negative n)
natural_some name (p.Int64 (negsuc n)) z is = absurd (cc)
natural_some name _ z is = absurd (cc)

pub sealed_long : (name : List ℕ) (value : Plain) (x : Part) → sealed name value ≡ Ok x → 80 ≤ length (sealed_in (Some x))
sealed_long name value x is =
    let found = map_ok (λ t. part.Sealed t) (bytes_reads 0 80 name value) x is in
    subst (λ y. 80 ≤ length (sealed_in (Some y))) (sym found.1.1) (bytes_long 80 name value found.0 found.1.0)

pub number_some : (name : List ℕ) (value : Plain) (x : Part) → number name value ≡ Ok x → pos 0 ≤ℤ number_in (Some x)
number_some name value x is =
    let found = map_ok (λ t. part.Number t) (natural_reads name value) x is in
    subst (λ y. pos 0 ≤ℤ number_in (Some y)) (sym found.1.1) (natural_some name value found.0 found.1.0)

-- arrays
pub each_length : {A : Type 0} (reads : Reader A) (at : ℕ) (items : List Plain) (xs : List A) → each_read reads at items ≡ Ok xs → length xs ≡ length items
each_length reads at [] xs is = let same : [] ≡ xs = cc in ap length (sym same)
each_length {A} reads at (item ∷ items) xs is =
    let first = bind_ok (reads (decimal at) item) (λ x. map_read (λ (ys : List A). x ∷ ys) (each_read reads (at + 1) items)) xs is in
    let rest = map_ok (λ (ys : List A). first.0 ∷ ys) (each_read reads (at + 1) items) xs first.1.1 in
    longer first.0 rest.0 rest.1.1 (each_length reads (at + 1) items rest.0 rest.1.0)
  where
    longer : (x : A) (ys : List A) → xs ≡ x ∷ ys → length ys ≡ length items → length xs ≡ length (item ∷ items)
    longer x ys is long = ap length is ∙ ap (λ n. suc n) long

-- no refusal
abbrev pub passed : Result (Unit {0}) Refusal
passed = Ok tt

some_there : (n : ℕ) → (n ≡ 0 → ⊥) → 1 ≤ n
some_there zero none = absurd (none refl)
some_there (suc n) none = omega arith

pub count_few : (some : Bool) (most : ℕ) (name : List ℕ) (n : ℕ) → count_reads some most name n ≡ Ok tt → n ≤ most
count_few some most name n is = by_none (some && (n == 0)) is
  where
    by_many : (b : Bool) → nat_lt most n ≡ b → (if b then wrong name (TooManyEdges n) else passed) ≡ passed → n ≤ most
    by_many true many is = absurd (cc)
    by_many false few is = ltb-false most n few

    by_none : (b : Bool) → (if b then wrong name NoEdges else (if nat_lt most n then wrong name (TooManyEdges n) else passed)) ≡ passed → n ≤ most
    by_none true is = absurd (cc)
    by_none false is = by_many (nat_lt most n) refl is

pub count_one : (most : ℕ) (name : List ℕ) (n : ℕ) → count_reads true most name n ≡ Ok tt → 1 ≤ n
count_one most name n is = by_none (n == 0) refl is
  where
    by_none : (b : Bool) → (n == 0) ≡ b → (if b then wrong name NoEdges else (if nat_lt most n then wrong name (TooManyEdges n) else passed)) ≡ passed → 1 ≤ n
    by_none true none is = absurd (cc)
    by_none false there is = some_there n (λ none. eqb-false n 0 there none)

-- how many items an array has that was read
pub array_count : {A : Type 0} (some : Bool) (most : ℕ) (reads : Reader A) (name : List ℕ) (value : Plain) (xs : List A) → bounded_reads some most reads name value ≡ Ok xs
    → count_reads some most name (length xs) ≡ Ok tt
array_count some most reads name value xs is =
    let items = bind_ok (of_type name (items_of value)) (λ items. bind (count_reads some most name (length items)) (λ _. read_inside name (each_read reads 0 items))) xs is in
    let counted = bind_ok (count_reads some most name (length items.0)) (λ _. read_inside name (each_read reads 0 items.0)) xs items.1.1 in
    let long = each_length reads 0 items.0 xs (inside_ok name (each_read reads 0 items.0) xs counted.1.1) in
    ap (count_reads some most name) long ∙ counted.1.0

-- what is carried is picked again
pub own_value : (name : List ℕ) (v : Option Plain) (rest : List Element) → value_named name rest ≡ None → value_named name (picked_one name v ++ rest) ≡ v
own_value name None rest none = none
own_value name (Some v) rest none = cond-true (bytes_eq name name) (Some v) (value_named name rest) ((bytes_eq-Decides name name).1 refl)

pub passed_over : (name other : List ℕ) (v : Option Plain) (rest : List Element) → bytes_eq name other ≡ false → value_named name (picked_one other v ++ rest) ≡ value_named name rest
passed_over name other None rest differs = refl
passed_over name other (Some v) rest differs = cond-false (bytes_eq name other) (Some v) (value_named name rest) differs

pub picked_again : (elements : List Element) → picked extra_names elements ≡ picked extra_names (picked extra_names elements)
picked_again elements =
    let sp = value_named (codes "sp") elements in
    let pn = value_named (codes "pn") elements in
    let tf = value_named (codes "tf") elements in
    let mn = value_named (codes "mn") elements in
    let mx = value_named (codes "mx") elements in
    let four : List Element = picked_one (codes "mx") mx ++ [] in
    let three : List Element = picked_one (codes "mn") mn ++ four in
    let two : List Element = picked_one (codes "tf") tf ++ three in
    let one : List Element = picked_one (codes "pn") pn ++ two in
    let at_sp : value_named (codes "sp") (picked extra_names elements) ≡ sp =
    own_value (codes "sp") sp one (
    passed_over (codes "sp") (codes "pn") pn two refl ∙ passed_over (codes "sp") (codes "tf") tf three refl ∙ passed_over (codes "sp") (codes "mn") mn four refl
    ∙ passed_over (codes "sp") (codes "mx") mx [] refl
    )
    in
    let at_pn : value_named (codes "pn") (picked extra_names elements) ≡ pn =
    passed_over (codes "pn") (codes "sp") sp one refl
    ∙ own_value (codes "pn") pn two (passed_over (codes "pn") (codes "tf") tf three refl ∙ passed_over (codes "pn") (codes "mn") mn four refl ∙ passed_over (codes "pn") (codes "mx") mx [] refl)
    in
    let at_tf : value_named (codes "tf") (picked extra_names elements) ≡ tf =
    passed_over (codes "tf") (codes "sp") sp one refl ∙ passed_over (codes "tf") (codes "pn") pn two refl
    ∙ own_value (codes "tf") tf three (passed_over (codes "tf") (codes "mn") mn four refl ∙ passed_over (codes "tf") (codes "mx") mx [] refl)
    in
    let at_mn : value_named (codes "mn") (picked extra_names elements) ≡ mn =
    passed_over (codes "mn") (codes "sp") sp one refl ∙ passed_over (codes "mn") (codes "pn") pn two refl ∙ passed_over (codes "mn") (codes "tf") tf three refl
    ∙ own_value (codes "mn") mn four (passed_over (codes "mn") (codes "mx") mx [] refl)
    in
    let at_mx : value_named (codes "mx") (picked extra_names elements) ≡ mx =
    passed_over (codes "mx") (codes "sp") sp one refl ∙ passed_over (codes "mx") (codes "pn") pn two refl ∙ passed_over (codes "mx") (codes "tf") tf three refl
    ∙ passed_over (codes "mx") (codes "mn") mn four refl ∙ own_value (codes "mx") mx [] refl
    in
    sym (rw (at_sp, at_pn, at_tf, at_mn, at_mx) refl)

pub carried_again : (extra elements : List Element) → extra ≡ picked extra_names elements → extra ≡ picked extra_names extra
carried_again extra elements is = is ∙ picked_again elements ∙ ap (picked extra_names) (sym is)
