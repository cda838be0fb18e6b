-- The entries of a finite map are what it finds at its keys.
use Rattle.std.proofs.Common.{Ordering, Less, ◌≡◌, ℕ, cond, List, [], ◌∷◌, Option, None, Some, ap, ◌∙◌, refl, map, take, get_or, length, ◌+◌, ◌<◌, ◌++◌, append-nil}
use Rattle.std.specs.FinMap.{FinMap, get, keys, entries, entries_sorted, find, get-entries}
use Rattle.std.specs.FinMap.Entries.{is_sorted, below_all}
use Rattle.std.specs.Ordering.{ordering_reverse, is_eq}
use Rattle.std.specs.Cmp.{IsTotalOrder, tied_itself}
use Rattle.std.specs.List.{AllByRecursion, filter_map, cons_option}
use Rattle.std.specs.Option.{option_map}
use Rattle.std.specs.Prelude.{T}
use Rattle.std.proofs.lemmas.List.{take_more}
use Rattle.std.proofs.lemmas.List.Elements.{filter_map-append}
use Rattle.qe_esc.proofs.RisingLemmas.{both_parts, below_keys}

module _ {K X : Type 0} where
  -- what is found at each of some keys
  abbrev pub rows_at : (K → Option X) → List K → List (K × X)
  rows_at at ks = filter_map (λ k. option_map (λ v. (k, v)) (at k)) ks

  listed : (at : K → Option X) (es : List (K × X)) → AllByRecursion (λ e. at e.0 ≡ Some e.1) es → rows_at at (map (λ e. e.0) es) ≡ es
  listed at [] all = refl
  listed at (e ∷ es) all =
      ap (λ found. cons_option (option_map (λ v. (e.0, v)) found) (rows_at at (map (λ f. f.0) es))) all.0 ∙ ap (λ rest. e ∷ rest) (listed at es all.1)

  -- one key more
  rows_at-more : (at : K → Option X) (ks : List K) (i : ℕ) (d : K) (found : Option X) → i < length ks → at (get_or ks i d) ≡ found
      → rows_at at (take (i + 1) ks) ≡ rows_at at (take i ks) ++ cons_option (option_map (λ v. (get_or ks i d, v)) found) []
  rows_at-more at ks i d found within is =
      ap (rows_at at) (take_more ks i d within) ∙ filter_map-append (λ k. option_map (λ v. (k, v)) (at k)) (take i ks) (get_or ks i d ∷ [])
      ∙ ap (λ row. rows_at at (take i ks) ++ cons_option (option_map (λ v. (get_or ks i d, v)) row) []) is

  pub rows_at-some : (at : K → Option X) (ks : List K) (i : ℕ) (d : K) (v : X) → i < length ks → at (get_or ks i d) ≡ Some v
      → rows_at at (take (i + 1) ks) ≡ rows_at at (take i ks) ++ (get_or ks i d, v) ∷ []
  rows_at-some at ks i d v within is = rows_at-more at ks i d (Some v) within is

  pub rows_at-none : (at : K → Option X) (ks : List K) (i : ℕ) (d : K) → i < length ks → at (get_or ks i d) ≡ None
      → rows_at at (take (i + 1) ks) ≡ rows_at at (take i ks)
  rows_at-none at ks i d within is = rows_at-more at ks i d None within is ∙ append-nil (rows_at at (take i ks))

module _ {K X : Type 0} (R : K → K → Ordering) where
  module _ (o : IsTotalOrder R) where
    -- a key below others hides none of them
    later : (e : K × X) (es fs : List (K × X)) → AllByRecursion (λ y. R e.0 y ≡ Less) (map (λ f. f.0) fs)
        → AllByRecursion (λ f. find R f.0 es ≡ Some f.1) fs → AllByRecursion (λ f. find R f.0 (e ∷ es) ≡ Some f.1) fs
    later e es [] up all = tt
    later e es (f ∷ fs) up all =
        (ap (λ r. cond (is_eq r) (Some e.1) (find R f.0 es)) (o.antisymm f.0 e.0 ∙ ap ordering_reverse up.0) ∙ all.0, later e es fs up.1 all.1)

    all_found : (es : List (K × X)) → T (is_sorted R es) → AllByRecursion (λ e. find R e.0 es ≡ Some e.1) es
    all_found [] sorted = tt
    all_found (e ∷ es) sorted =
        let parts = both_parts (below_all R e.0 es) (is_sorted R es) sorted in
        (ap (λ r. cond (is_eq r) (Some e.1) (find R e.0 es)) (tied_itself o e.0), later e es es (below_keys R e.0 es parts.0) (all_found es parts.1))

    pub rows_at-keys : (m : FinMap R X) → rows_at (get m) (keys m) ≡ entries m
    rows_at-keys m = (λ i. rows_at (λ k. get-entries m k i) (keys m)) ∙ listed (λ k. find R k (entries m)) (entries m) (all_found (entries m) (entries_sorted m))
