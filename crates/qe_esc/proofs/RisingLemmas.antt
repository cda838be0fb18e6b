-- Distinct identifiers, once sorted, are the keys of the finite map in its order.
use Rattle.std.proofs.Common.{Ordering, Less, Equal, Greater, ◌≡◌, ℕ, ◌+◌, Bool, true, false, List, [], ◌∷◌, sym, ap, ◌∙◌, refl, get_or, map, arith, ◌&&◌}
use Rattle.std.specs.FinMap.{keys, entries, entries_sorted, from_entries, contains_key-keys, get-from_entries}
use Rattle.std.specs.FinMap.Entries.{is_sorted, below_all, is_some-find}
use Rattle.std.specs.BTreeSet.{BTreeSet}
use Rattle.std.specs.Cmp.Lexicographic.{slice_cmp, texts_ties, nat_list_cmp_total, nat_list_eq_equiv}
use Rattle.std.specs.Ordering.{nat_cmp, eq_by_cmp, is_lt, is_eq, ordering_reverse}
use Rattle.std.specs.Str.{bytes_eq}
use Rattle.std.specs.Map.{keys_of}
use Rattle.std.specs.List.{IsDistinct, AllByRecursion}
use Rattle.std.specs.List.Sorted.{IsStrictlySortedBy, IsPermutation, IsSorted}
use Rattle.std.specs.Prelude.{is_some, T}
use Rattle.std.proofs.lemmas.Map.Keys.{IsDistinct-IsPermutation, sorted_from_all_adjacent, apart_from_distinct}
use Rattle.std.proofs.lemmas.Map.Lookups.{btree_set_from_contains, exact_bytes}
use Rattle.std.proofs.lemmas.List.Sorted.{list_any-IsPermutation}
use Rattle.qe_esc.proofs.HashLemmas.{ById}

pub both_parts : (a b : Bool) → T (a && b) → T a × T b
both_parts true b h = (tt, h)
both_parts false b h = absurd h

less : (o : Ordering) → T (is_lt o) → o ≡ Less
less Less h = refl
less Equal h = absurd h
less Greater h = absurd h

module _ {K X : Type 0} (R : K → K → Ordering) where
  pub below_keys : (x : K) (es : List (K × X)) → T (below_all R x es) → AllByRecursion (λ y. R x y ≡ Less) (map (λ e. e.0) es)
  below_keys x [] h = tt
  below_keys x (e ∷ es) h = (less _ (both_parts _ _ h).0, below_keys x es (both_parts _ _ h).1)

  rising_keys : (es : List (K × X)) → T (is_sorted R es) → IsStrictlySortedBy R (map (λ e. e.0) es)
  unfolding IsStrictlySortedBy
  rising_keys [] h = tt
  rising_keys (e ∷ es) h = (below_keys e.0 es (both_parts _ _ h).0, rising_keys es (both_parts _ _ h).1)

below : (x y : List ℕ) → is_lt (slice_cmp nat_cmp y x) ≡ false → bytes_eq x y ≡ false → slice_cmp nat_cmp x y ≡ Less
below x y up apart =
    elim (slice_cmp nat_cmp x y) as (λ r. slice_cmp nat_cmp x y ≡ r → r ≡ Less) [
      | Less ↦ λ _. refl
      | Equal ↦ λ is. let tied : bytes_eq x y ≡ true = texts_ties x y ∙ ap is_eq is in cc
      | Greater ↦ λ is. let down : is_lt (slice_cmp nat_cmp y x) ≡ true = ap is_lt (nat_list_cmp_total.antisymm y x ∙ ap ordering_reverse is) in cc
    ] refl

strictly : (ids : List (List ℕ)) → IsSorted (slice_cmp nat_cmp) ids → IsDistinct bytes_eq ids → IsStrictlySortedBy (slice_cmp nat_cmp) ids
strictly ids sorted apart = sorted_from_all_adjacent nat_list_cmp_total ids []
    (λ k within. below (get_or ids k []) (get_or ids (k + 1) []) (sorted k [] (omega arith) within) (apart_from_distinct bytes_eq ids k (k + 1) [] apart (omega arith) within))

-- the distinct keys of entries, sorted
pub rising : {X : Type 0} (es : List (List ℕ × X)) (ids : List (List ℕ)) → IsDistinct bytes_eq (keys_of es) → IsPermutation (keys_of es) ids → IsSorted (slice_cmp nat_cmp) ids
    → ids ≡ keys (from_entries {R = slice_cmp nat_cmp} es)
rising {X} es ids apart moved sorted =
    let m : ById X = from_entries es in
    let own : BTreeSet (List ℕ) = record { keys = ids } in
    let other : BTreeSet (List ℕ) = record { keys = keys m } in
    btree_set_from_contains nat_list_cmp_total own other
    (strictly ids sorted (IsDistinct-IsPermutation bytes_eq nat_list_eq_equiv.symm (keys_of es) ids moved apart))
    (rising_keys (slice_cmp nat_cmp) (entries m) (entries_sorted m))
    (λ q. sym (list_any-IsPermutation (eq_by_cmp (slice_cmp nat_cmp) q) (keys_of es) ids moved)
    ∙ sym (is_some-find (slice_cmp nat_cmp) q es)
    ∙ sym (ap is_some (get-from_entries nat_list_cmp_total es q))
    ∙ contains_key-keys m q)
    exact_bytes
