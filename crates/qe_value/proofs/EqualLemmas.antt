-- When two values, and lists of them, are equal.
use Rattle.std.proofs.Common.{◌≡◌, ℕ, ◌+◌, ◌<◌, Bool, true, false, not, bytes_eq, List, [], ◌∷◌, ◌++◌, length, get_or, map, take, sym, ap, ◌∙◌}
use Rattle.std.proofs.lemmas.Bool.{not-false}
use Rattle.std.proofs.lemmas.Slice.Eq.{bytes_eq-Decides}
use Rattle.std.proofs.lemmas.List.{get_or-map, map_push, take_more}
use Rattle.qe_value.specs.declared.value.Plain.{Plain, out-Plain}
use Rattle.qe_value.specs.declared.value.Plain.TheOpen.{Plain-F}
use Rattle.qe_value.specs.declared.value.Value.{Value}
use Rattle.qe_value.specs.declared.value.Value.TheVariants as v
use Rattle.qe_value.specs.Views.{plain}
use Rattle.qe_value.proofs.PlainLemmas as tree

abbrev value_open : Plain-F Plain → Value
value_open (Plain-F.Double b) = v.Double b
value_open (Plain-F.Str t) = v.Str t
value_open (Plain-F.Doc fs) = v.Doc fs
value_open (Plain-F.Array vs) = v.Array vs
value_open (Plain-F.Binary s b) = v.Binary s b
value_open (Plain-F.ObjectId b) = v.ObjectId b
value_open (Plain-F.Bool b) = v.Bool b
value_open (Plain-F.Date z) = v.Date z
value_open Plain-F.Null = v.Null
value_open (Plain-F.Int32 z) = v.Int32 z
value_open (Plain-F.Timestamp n) = v.Timestamp n
value_open (Plain-F.Int64 z) = v.Int64 z
value_open (Plain-F.Decimal b) = v.Decimal b

opened_again : (x : Value) → value_open (out-Plain (plain x)) ≡ x
opened_again (v.Double b) = ap value_open (tree.out-Double b)
opened_again (v.Str t) = ap value_open (tree.out-Str t)
opened_again (v.Doc fs) = ap value_open (tree.out-Doc fs)
opened_again (v.Array vs) = ap value_open (tree.out-Array vs)
opened_again (v.Binary s b) = ap value_open (tree.out-Binary s b)
opened_again (v.ObjectId b) = ap value_open (tree.out-ObjectId b)
opened_again (v.Bool b) = ap value_open (tree.out-Bool b)
opened_again (v.Date z) = ap value_open (tree.out-Date z)
opened_again v.Null = ap value_open tree.out-Null
opened_again (v.Int32 z) = ap value_open (tree.out-Int32 z)
opened_again (v.Timestamp n) = ap value_open (tree.out-Timestamp n)
opened_again (v.Int64 z) = ap value_open (tree.out-Int64 z)
opened_again (v.Decimal b) = ap value_open (tree.out-Decimal b)

-- a tree is that of one value
pub plain_one : (x y : Value) → plain x ≡ plain y → x ≡ y
plain_one x y e = sym (opened_again x) ∙ ap (λ (w : Plain). value_open (out-Plain w)) e ∙ opened_again y

-- two lists as they are seen, where the elements at a place are seen as equal
module _ {A B : Type 0} (view : A → B) (xs ys : List A) (i : ℕ) (x y : A) (lt : i < length xs) (other_lt : i < length ys) (is : x ≡ get_or xs i x) (other_is : y ≡ get_or ys i y) where
  pub same_next : view x ≡ view y → map view (take i xs) ≡ map view (take i ys) → map view (take (i + 1) xs) ≡ map view (take (i + 1) ys)
  same_next e before =
      ap (map view) (take_more xs i x lt ∙ ap (λ z. take i xs ++ z ∷ []) (sym is)) ∙ map_push view (take i xs) x
      ∙ ap (λ b. b ++ view x ∷ []) before ∙ ap (λ z. map view (take i ys) ++ z ∷ []) e
      ∙ sym (ap (map view) (take_more ys i y other_lt ∙ ap (λ z. take i ys ++ z ∷ []) (sym other_is)) ∙ map_push view (take i ys) y)

  -- and are seen as equal where the lists are
  pub same_at : map view xs ≡ map view ys → view x ≡ view y
  same_at e =
      ap view is ∙ sym (get_or-map view xs i x (view x) lt) ∙ ap (λ l. get_or l i (view x)) e ∙ get_or-map view ys i y (view x) other_lt ∙ ap view (sym other_is)

-- what a comparison of names says
pub names_equal : (r : Bool) (a b x y : List ℕ) → r ≡ not (bytes_eq a b) → r ≡ false → a ≡ x → b ≡ y → x ≡ y
names_equal r a b x y tested is first second = sym first ∙ (bytes_eq-Decides a b).0 (not-false (bytes_eq a b) (sym tested ∙ is)) ∙ second

pub names_differ : (r : Bool) (a b x y : List ℕ) → r ≡ not (bytes_eq a b) → r ≡ true → a ≡ x → b ≡ y → x ≡ y → ⊥
names_differ r a b x y tested is first second same =
    let equal : bytes_eq a b ≡ true = (bytes_eq-Decides a b).1 (first ∙ same ∙ sym second) in
    let both : true ≡ not true = sym is ∙ tested ∙ ap not equal in absurd (cc both)
