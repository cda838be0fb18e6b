-- Parts are read again as they are written.
use Rattle.std.proofs.Common.{◌≡◌, ℕ, ℤ, pos, negsuc, ◌≤◌, ◌≤ℤ◌, ◌==◌, nat_lt, Bool, true, false, List, [], ◌∷◌, ◌++◌, length, map, refl, ap, sym, ◌∙◌, arith, Option, None, Some, Result, Ok, eq-eqb}
use Rattle.std.specs.Prelude.{codes, option_map}
use Rattle.std.specs.List.{AllByRecursion}
use Rattle.std.proofs.lemmas.Bool.{le-ltb, ne_eqb, cond-false}
use Rattle.std.proofs.lemmas.List.{append-nil, length-map}
use Rattle.qe_document.specs.Names.{value_named}
use Rattle.qe_value.specs.declared.value.Plain.{Plain}
use Rattle.qe_ecoc.specs.declared.forms.Cipher.{Cipher}
use Rattle.qe_ecoc.specs.Forms.{cipher_bytes, cipher_from}
use Rattle.qe_layout.specs.declared.malformed.Kind.TheVariants.{TooManyEdges, WrongLength}
use Rattle.qe_layout.specs.Refusal.{Refusal, wrong, bind, map_read, read_inside}
use Rattle.qe_layout.specs.Layouts.{Element, Reader, Rows}
use Rattle.qe_layout.specs.Leaves.{fixed_reads}
use Rattle.qe_layout.specs.Documents.{of_type, count_reads, each_read, bounded_reads, document_reads}
use Rattle.qe_layout.specs.Writing.{written, AreSpelled}
use Rattle.qe_parts.specs.declared.parts.Part.{Part}
use Rattle.qe_parts.specs.Parts.{token, of_length, cipher, key_id, sealed, number}
use Rattle.qe_parts.specs.Carried.{extra_names, carried_one, extra_in, picked_one, picked}
use Rattle.qe_parts.proofs.EntryLemmas.{items_of-Array, document_again, each_again}
use Rattle.qe_parts.specs.Edges.{edge_elements, find_edge_elements}
use Rattle.qe_value.specs.declared.value.Plain.TheVariants as p
use Rattle.qe_parts.specs.declared.parts.Part.TheVariants as part

-- a part as it is written
abbrev pub spell : Part → Plain
spell (part.Token t) = p.Binary 0 t
spell (part.Cipher t) = p.Binary 0 (cipher_bytes t)
spell (part.KeyId t) = p.Binary 4 t
spell (part.Sealed t) = p.Binary 0 t
spell (part.Int32 n) = p.Int32 n
spell (part.Number n) = p.Int64 n
spell (part.Carried value) = value
spell (part.Edges g) = p.Array (map (λ edge. p.Doc (edge_elements edge)) g)
spell (part.FindEdges g) = p.Array (map (λ edge. p.Doc (find_edge_elements edge)) g)
spell (part.Inner x) = p.Doc ((codes "g", p.Array (map (λ edge. p.Doc (find_edge_elements edge)) x.g)) ∷ (codes "cm", p.Int64 x.cm) ∷ [])

-- leaves are read again
pub fixed_again : (subtype count : ℕ) (name bytes : List ℕ) → (subtype == subtype) ≡ true → length bytes ≡ count → fixed_reads subtype count name (p.Binary subtype bytes) ≡ Ok bytes
fixed_again subtype count name bytes same long = rw (same, eq-eqb (length bytes) count long) refl

pub token_again : (name t : List ℕ) → length t ≡ 32 → token name (p.Binary 0 t) ≡ Ok (part.Token t)
token_again name t long = ap (map_read (λ t. part.Token t)) (fixed_again 0 32 name t refl long)

pub cipher_again : (name : List ℕ) (t : Cipher) → cipher_from (cipher_bytes t) ≡ Some t → cipher name (p.Binary 0 (cipher_bytes t)) ≡ Ok (part.Cipher t)
cipher_again name t form =
    let bytes = cipher_bytes t in
    ap (λ (read : Result (List ℕ) Refusal). map_read (λ t. part.Cipher t) (bind read (λ bytes. of_length name bytes (cipher_from bytes))))
    (cond-false (nat_lt (length bytes) 0) (wrong name (WrongLength (length bytes))) (Ok bytes) (le-ltb (length bytes) 0 (omega arith)))
    ∙ ap (λ found. map_read (λ t. part.Cipher t) (of_length name bytes found)) form

pub key_id_again : (name t : List ℕ) → length t ≡ 16 → key_id name (p.Binary 4 t) ≡ Ok (part.KeyId t)
key_id_again name t long = ap (map_read (λ t. part.KeyId t)) (fixed_again 4 16 name t refl long)

pub sealed_again : (name t : List ℕ) → 80 ≤ length t → sealed name (p.Binary 0 t) ≡ Ok (part.Sealed t)
sealed_again name t long =
    ap (map_read (λ t. part.Sealed t)) (cond-false (nat_lt (length t) 80) (wrong name (WrongLength (length t))) (Ok t) (le-ltb (length t) 80 long))

pub number_again : (name : List ℕ) (z : ℤ) → pos 0 ≤ℤ z → number name (p.Int64 z) ≡ Ok (part.Number z)
number_again name (pos n) le = refl
number_again name (negsuc n) le = absurd (omega arith)

pub all_under : {A : Type 0} (of : List Element → Result A Refusal) (elements : A → List Element) (xs : List A) → AllByRecursion (λ x. of (elements x) ≡ Ok x) xs
    → AllByRecursion (λ x. (name : List ℕ) → document_reads of name (p.Doc (elements x)) ≡ Ok x) xs
all_under of elements [] all = tt
all_under of elements (x ∷ xs) all = ((λ name. document_again of name (elements x) x all.0), all_under of elements xs all.1)

pub count_some : (name : List ℕ) (most n : ℕ) → 1 ≤ n → n ≤ most → count_reads true most name n ≡ Ok tt
count_some name most n some few =
    let there : (n == 0) ≡ false = ne_eqb n 0 (λ (none : n ≡ 0). omega arith) in
    rw there (cond-false (nat_lt most n) (wrong name (TooManyEdges n)) (Ok tt) (le-ltb most n few))

pub count_any : (name : List ℕ) (most n : ℕ) → n ≤ most → count_reads false most name n ≡ Ok tt
count_any name most n few = cond-false (nat_lt most n) (wrong name (TooManyEdges n)) (Ok tt) (le-ltb most n few)

pub bounded_again : {A : Type 0} (some : Bool) (most : ℕ) (of : List Element → Result A Refusal) (elements : A → List Element) (name : List ℕ) (xs : List A)
    → count_reads some most name (length xs) ≡ Ok tt → AllByRecursion (λ x. of (elements x) ≡ Ok x) xs
    → bounded_reads some most (document_reads of) name (p.Array (map (λ x. p.Doc (elements x)) xs)) ≡ Ok xs
bounded_again {A} some most of elements name xs counted all =
    let tree : A → Plain = λ x. p.Doc (elements x) in
    ap (λ found. bind (of_type name found) (λ items. bind (count_reads some most name (length items)) (λ _. read_inside name (each_read (document_reads of) 0 items)))) (items_of-Array (map tree xs))
    ∙ ap (λ n. bind (count_reads some most name n) (λ _. read_inside name (each_read (document_reads of) 0 (map tree xs)))) (length-map xs tree)
    ∙ ap (λ count. bind count (λ _. read_inside name (each_read (document_reads of) 0 (map tree xs)))) counted
    ∙ ap (read_inside name) (each_again (document_reads of) tree 0 xs (all_under of elements xs all))

-- a slot that may be empty
pub written-optional : {X : Type 0} (part_of : X → Part) (name : List ℕ) (rows : Rows) (found : Option X) (slots : List (Option Part))
    → written spell ((name, None) ∷ rows) (option_map part_of found ∷ slots) ≡ picked_one name (option_map (λ x. spell (part_of x)) found) ++ written spell rows slots
written-optional part_of name rows None slots = refl
written-optional part_of name rows (Some x) slots = refl

pub spelled-optional : {X : Type 0} (reads : Reader Part) (part_of : X → Part) (name : List ℕ) (rows : Rows) (found : Option X) (slots : List (Option Part))
    → ((x : X) → found ≡ Some x → reads name (spell (part_of x)) ≡ Ok (part_of x)) → AreSpelled reads spell rows slots
    → AreSpelled reads spell ((name, None) ∷ rows) (option_map part_of found ∷ slots)
spelled-optional reads part_of name rows None slots again rest = (refl, rest)
spelled-optional reads part_of name rows (Some x) slots again rest = (again x refl, rest)

-- the rows and slots of what is carried
abbrev pub carried_rows : List (List ℕ) → Rows
carried_rows names = map (λ name. (name, None)) names

abbrev pub carried_slots : List (List ℕ) → List Element → List (Option Part)
carried_slots names extra = map (λ name. option_map (λ v. part.Carried v) (value_named name extra)) names

pub written-carried : (names : List (List ℕ)) (extra : List Element) → written spell (carried_rows names) (carried_slots names extra) ≡ picked names extra
written-carried [] extra = refl
written-carried (name ∷ names) extra =
    written-optional (λ v. part.Carried v) name (carried_rows names) (value_named name extra) (carried_slots names extra)
    ∙ ap (λ found. picked_one name found ++ written spell (carried_rows names) (carried_slots names extra)) (same_value (value_named name extra))
    ∙ ap (λ rest. picked_one name (value_named name extra) ++ rest) (written-carried names extra)
  where
    same_value : (found : Option Plain) → option_map (λ x. spell (part.Carried x)) found ≡ found
    same_value None = refl
    same_value (Some v) = refl

pub spelled-carried : (reads : Reader Part) (names : List (List ℕ)) (extra : List Element) → AllByRecursion (λ name. (v : Plain) → reads name v ≡ Ok (part.Carried v)) names
    → AreSpelled reads spell (carried_rows names) (carried_slots names extra)
spelled-carried reads [] extra all = tt
spelled-carried reads (name ∷ names) extra all =
    spelled-optional reads (λ v. part.Carried v) name (carried_rows names) (value_named name extra) (carried_slots names extra) (λ v found. all.0 v) (spelled-carried reads names extra all.1)

pub one_carried : (name : List ℕ) (found : Option Plain) → carried_one name (option_map (λ v. part.Carried v) found) ≡ picked_one name found
one_carried name None = refl
one_carried name (Some v) = refl

unfoldable pub slot_at : List Element → List ℕ → Option Part
slot_at extra name = option_map (λ v. part.Carried v) (value_named name extra)

pub extra_again : (extra : List Element) → extra ≡ picked extra_names extra
    → extra_in (slot_at extra (codes "sp")) (slot_at extra (codes "pn")) (slot_at extra (codes "tf")) (slot_at extra (codes "mn")) (slot_at extra (codes "mx")) ≡ extra
unfolding slot_at
extra_again extra is =
    rw (
      one_carried (codes "sp") (value_named (codes "sp") extra),
      one_carried (codes "pn") (value_named (codes "pn") extra),
      one_carried (codes "tf") (value_named (codes "tf") extra),
      one_carried (codes "mn") (value_named (codes "mn") extra),
      one_carried (codes "mx") (value_named (codes "mx") extra),
      sym (append-nil (picked_one (codes "mx") (value_named (codes "mx") extra))),
    ) (sym is)
