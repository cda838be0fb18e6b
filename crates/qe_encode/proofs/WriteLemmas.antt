-- Writing elements one after the other.
use Rattle.std.proofs.Common.{◌≡◌, ℕ, ◌+◌, ◌<◌, ◌≤◌, List, [], ◌∷◌, ◌++◌, length, get_or, map, drop, drop-cons, add-one, decimal, Err, refl, sym, ap, ◌∙◌, append_assoc, arith}
use Rattle.std.proofs.lemmas.List.{append-nil, drop_all, length-append}
use Rattle.qe_value.specs.declared.fault.EncodeFault.{EncodeFault}
use Rattle.qe_value.specs.declared.fault.EncodeFault.TheVariants.{TooLong, TooDeep, ZeroInName, NoMemory}
use Rattle.qe_value.specs.declared.value.Value.{Value}
use Rattle.qe_value.specs.declared.value.Value.TheVariants as v
use Rattle.qe_value.specs.Spelling.{element, fields_bytes, items_bytes, framed, spelled, spelled_field}
use Rattle.qe_value.specs.Views.{plain, field_view}
use Rattle.qe_encode.specs.Writing.{Writes, spell}
use Rattle.qe_value.proofs.PlainLemmas as tree

-- a value's spelling is that of its tree
pub spell_plain : (x : Value) → spelled (plain x) ≡ spell x
spell_plain (v.Double b) = tree.spelled-Double b
spell_plain (v.Str t) = tree.spelled-Str t
spell_plain (v.Doc fs) = tree.spelled-Doc fs
spell_plain (v.Array vs) = tree.spelled-Array vs
spell_plain (v.Binary s b) = tree.spelled-Binary s b
spell_plain (v.ObjectId b) = tree.spelled-ObjectId b
spell_plain (v.Bool b) = tree.spelled-Bool b
spell_plain (v.Date z) = tree.spelled-Date z
spell_plain v.Null = tree.spelled-Null
spell_plain (v.Int32 z) = tree.spelled-Int32 z
spell_plain (v.Timestamp n) = tree.spelled-Timestamp n
spell_plain (v.Int64 z) = tree.spelled-Int64 z
spell_plain (v.Decimal b) = tree.spelled-Decimal b

abbrev pub bytes_of_fields : List (List ℕ × Value) → List ℕ
bytes_of_fields fs = fields_bytes (map spelled_field (map field_view fs))

abbrev pub bytes_of_items : ℕ → List Value → List ℕ
bytes_of_items k vs = items_bytes k (map spelled (map plain vs))

-- the fields that are left begin with the next
fields_next : (fs : List (List ℕ × Value)) (i : ℕ) (f : List ℕ × Value) → i < length fs → f ≡ get_or fs i f → bytes_of_fields (drop i fs) ≡ element f.0 (spell f.1) ++ bytes_of_fields (drop (i + 1) fs)
fields_next fs i f lt is = rw (drop-cons fs i f lt, add-one, ← is, spell_plain) refl

items_next : (k : ℕ) (vs : List Value) (x : Value) → k < length vs → x ≡ get_or vs k x → bytes_of_items k (drop k vs) ≡ element (decimal k) (spell x) ++ bytes_of_items (k + 1) (drop (k + 1) vs)
items_next k vs x lt is = rw (drop-cons vs k x lt, add-one, ← is, spell_plain) refl

-- what is written grows by what is left less
pub fields_go_on : (old mid new : List ℕ) (fs : List (List ℕ × Value)) (i : ℕ) (f : List ℕ × Value) → i < length fs → f ≡ get_or fs i f → mid ++ bytes_of_fields (drop i fs) ≡ old ++ bytes_of_fields fs → new ≡ mid ++ element f.0 (spell f.1)
    → new ++ bytes_of_fields (drop (i + 1) fs) ≡ old ++ bytes_of_fields fs
fields_go_on old mid new fs i f lt is whole written =
    rw written (append_assoc mid (element f.0 (spell f.1)) (bytes_of_fields (drop (i + 1) fs)) ∙ ap (λ (b : List ℕ). mid ++ b) (sym (fields_next fs i f lt is)) ∙ whole)

pub items_go_on : (old mid new : List ℕ) (vs : List Value) (k : ℕ) (x : Value) → k < length vs → x ≡ get_or vs k x → mid ++ bytes_of_items k (drop k vs) ≡ old ++ bytes_of_items 0 vs → new ≡ mid ++ element (decimal k) (spell x)
    → new ++ bytes_of_items (k + 1) (drop (k + 1) vs) ≡ old ++ bytes_of_items 0 vs
items_go_on old mid new vs k x lt is whole written =
    rw written (append_assoc mid (element (decimal k) (spell x)) (bytes_of_items (k + 1) (drop (k + 1) vs)) ∙ ap (λ (b : List ℕ). mid ++ b) (sym (items_next k vs x lt is)) ∙ whole)

-- a refusal of a part is one of the whole
refuses : (limit : ℕ) (fault : EncodeFault) (old mid new end part bytes : List ℕ) → length mid + length part ≤ length old + length bytes → Writes limit mid new (Err fault) part → Writes limit old end (Err fault) bytes
refuses limit TooLong old mid new end part bytes le refused = omega arith
refuses limit TooDeep old mid new end part bytes le refused = refused
refuses limit ZeroInName old mid new end part bytes le refused = refused
refuses limit NoMemory old mid new end part bytes le refused = tt

framed_length : (elements : List ℕ) → length (framed elements) ≡ length elements + 5
framed_length elements = omega (arith, length-append elements (0 ∷ []))

pub field_refuses : (limit : ℕ) (fault : EncodeFault) (first old mid new end : List ℕ) (fs : List (List ℕ × Value)) (i : ℕ) (f : List ℕ × Value) → i < length fs → f ≡ get_or fs i f → length old ≡ length first + 4 → mid ++ bytes_of_fields (drop i fs) ≡ old ++ bytes_of_fields fs
    → Writes limit mid new (Err fault) (element f.0 (spell f.1)) → Writes limit first end (Err fault) (framed (bytes_of_fields fs))
field_refuses limit fault first old mid new end fs i f lt is began whole refused =
    let part = element f.0 (spell f.1) in
    let later = bytes_of_fields (drop (i + 1) fs) in
    let sizes : length (mid ++ (part ++ later)) ≡ length (old ++ bytes_of_fields fs) = ap (λ (b : List ℕ). length (mid ++ b)) (sym (fields_next fs i f lt is)) ∙ ap (λ (b : List ℕ). length b) whole in
    refuses limit fault first mid new end part (framed (bytes_of_fields fs))
    (omega (arith, sizes, length-append mid (part ++ later), length-append part later, length-append old (bytes_of_fields fs), framed_length (bytes_of_fields fs))) refused

pub item_refuses : (limit : ℕ) (fault : EncodeFault) (first old mid new end : List ℕ) (vs : List Value) (k : ℕ) (x : Value) → k < length vs → x ≡ get_or vs k x → length old ≡ length first + 4 → mid ++ bytes_of_items k (drop k vs) ≡ old ++ bytes_of_items 0 vs
    → Writes limit mid new (Err fault) (element (decimal k) (spell x)) → Writes limit first end (Err fault) (framed (bytes_of_items 0 vs))
item_refuses limit fault first old mid new end vs k x lt is began whole refused =
    let part = element (decimal k) (spell x) in
    let later = bytes_of_items (k + 1) (drop (k + 1) vs) in
    let sizes : length (mid ++ (part ++ later)) ≡ length (old ++ bytes_of_items 0 vs) = ap (λ (b : List ℕ). length (mid ++ b)) (sym (items_next k vs x lt is)) ∙ ap (λ (b : List ℕ). length b) whole in
    refuses limit fault first mid new end part (framed (bytes_of_items 0 vs))
    (omega (arith, sizes, length-append mid (part ++ later), length-append part later, length-append old (bytes_of_items 0 vs), framed_length (bytes_of_items 0 vs))) refused

-- four bytes for the length, and all items behind them
pub items_done : (first old mid : List ℕ) (vs : List Value) (k : ℕ) → length vs ≤ k → old ≡ first ++ (0 ∷ 0 ∷ 0 ∷ 0 ∷ []) → mid ++ bytes_of_items k (drop k vs) ≡ old ++ bytes_of_items 0 vs → mid ≡ first ++ ((0 ∷ 0 ∷ 0 ∷ 0 ∷ []) ++ bytes_of_items 0 vs)
items_done first old mid vs k le began whole =
    sym (append-nil mid) ∙ (rw (drop_all k vs le) at whole) ∙ ap (λ (b : List ℕ). b ++ bytes_of_items 0 vs) began ∙ append_assoc first (0 ∷ 0 ∷ 0 ∷ 0 ∷ []) (bytes_of_items 0 vs)

pub fields_done : (first old mid : List ℕ) (fs : List (List ℕ × Value)) (k : ℕ) → length fs ≤ k → old ≡ first ++ (0 ∷ 0 ∷ 0 ∷ 0 ∷ []) → mid ++ bytes_of_fields (drop k fs) ≡ old ++ bytes_of_fields fs → mid ≡ first ++ ((0 ∷ 0 ∷ 0 ∷ 0 ∷ []) ++ bytes_of_fields fs)
fields_done first old mid fs k le began whole =
    sym (append-nil mid) ∙ (rw (drop_all k fs le) at whole) ∙ ap (λ (b : List ℕ). b ++ bytes_of_fields fs) began ∙ append_assoc first (0 ∷ 0 ∷ 0 ∷ 0 ∷ []) (bytes_of_fields fs)
