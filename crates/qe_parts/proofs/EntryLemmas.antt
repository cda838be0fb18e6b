-- Lists of entries, written and read again.
use Rattle.std.proofs.Common.{◌≡◌, ℕ, ◌+◌, ◌<◌, List, [], ◌∷◌, ◌++◌, length, get_or, take, map, refl, ap, sym, subst, ◌∙◌, Some, Result, Ok, Err}
use Rattle.std.specs.Prelude.{decimal, IfOk, IfErr}
use Rattle.std.specs.List.{AllByRecursion}
use Rattle.std.proofs.lemmas.List.{take_more}
use Rattle.qe_value.specs.declared.value.Plain.{Plain}
use Rattle.qe_value.specs.declared.value.Plain.TheVariants.{Array, Doc}
use Rattle.qe_value.proofs.PlainLemmas.{out-Doc, out-Array}
use Rattle.qe_layout.specs.Refusal.{Refusal, bind, map_read, read_inside}
use Rattle.qe_layout.specs.Layouts.{Element, Reader}
use Rattle.qe_document.specs.Views.{fields_open, fields_of, items_open, items_of}
use Rattle.qe_layout.specs.Documents.{of_type, document_reads, each_read}

pub take_next : {A : Type 0} (xs : List A) (i : ℕ) (x : A) → i < length xs → x ≡ get_or xs i x → take (i + 1) xs ≡ take i xs ++ x ∷ []
take_next xs i x lt is = take_more xs i x lt ∙ ap (λ y. take i xs ++ y ∷ []) (sym is)

all_push : {A : Type 0} (P : A → Type 0) (xs : List A) (x : A) → AllByRecursion P xs → P x → AllByRecursion P (xs ++ x ∷ [])
all_push P [] x all here = (here, tt)
all_push P (y ∷ ys) x all here = (all.0, all_push P ys x all.1 here)

pub all_next : {A : Type 0} (P : A → Type 0) (xs : List A) (x : A) (more : List A) → more ≡ xs ++ x ∷ [] → AllByRecursion P xs → P x → AllByRecursion P more
all_next P xs x more is all here = subst (λ ys. AllByRecursion P ys) (sym is) (all_push P xs x all here)

pub fields_of-Doc : (elements : List Element) → fields_of (Doc elements) ≡ Some elements
unfolding fields_of
fields_of-Doc elements = ap fields_open (out-Doc elements)

pub items_of-Array : (items : List Plain) → items_of (Array items) ≡ Some items
unfolding items_of
items_of-Array items = ap items_open (out-Array items)

-- a document that is read again under its name
pub document_again : {A : Type 0} (of : List Element → Result A Refusal) (name : List ℕ) (elements : List Element) (x : A) → of elements ≡ Ok x
    → document_reads of name (Doc elements) ≡ Ok x
document_again of name elements x is =
    ap (λ found. bind (of_type name found) (λ es. read_inside name (of es))) (fields_of-Doc elements) ∙ ap (read_inside name) is

-- items that are read again
pub each_again : {A : Type 0} (reads : Reader A) (tree : A → Plain) (i : ℕ) (xs : List A) → AllByRecursion (λ x. (name : List ℕ) → reads name (tree x) ≡ Ok x) xs
    → each_read reads i (map tree xs) ≡ Ok xs
each_again reads tree i [] all = refl
each_again reads tree i (x ∷ xs) all =
    ap (λ read. bind read (λ y. map_read (λ ys. y ∷ ys) (each_read reads (i + 1) (map tree xs)))) (all.0 (decimal i))
    ∙ ap (map_read (λ ys. x ∷ ys)) (each_again reads tree (i + 1) xs all.1)

-- what holds of an answer leads to more of it
pub if_ok : {A E : Type 0} {P Q : A → Type 0} (result : Result A E) → ((x : A) → P x → Q x) → IfOk result P → IfOk result Q
if_ok (Ok x) more holds = more x holds
if_ok (Err e) more holds = tt

pub if_both : {A E : Type 0} {P Q R : A → Type 0} (result : Result A E) → ((x : A) → P x → Q x → R x) → IfOk result P → IfOk result Q → IfOk result R
if_both (Ok x) more one other = more x one other
if_both (Err e) more one other = tt

pub if_all : {A E : Type 0} {P Q R S : A → Type 0} (result : Result A E) → ((x : A) → P x → Q x → R x → S x) → IfOk result P → IfOk result Q → IfOk result R → IfOk result S
if_all (Ok x) more one other third = more x one other third
if_all (Err e) more one other third = tt

pub if_err : {A E : Type 0} {P Q : E → Type 0} (result : Result A E) → ((e : E) → P e → Q e) → IfErr result P → IfErr result Q
if_err (Ok x) more holds = tt
if_err (Err e) more holds = more e holds
