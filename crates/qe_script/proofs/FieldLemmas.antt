-- Field objects without their keys.
use Rattle.std.proofs.Common.{◌≡◌, ℕ, ◌≤◌, List, [], ◌∷◌, ◌++◌, length, drop, map, Bool, true, false, cond, refl, sym, ap, ◌∙◌, subst, append-nil}
use Rattle.std.proofs.lemmas.Bool.{or_parts}
use Rattle.std.proofs.lemmas.List.{drop_all}
use Rattle.std.specs.Prelude.{filter, bytes_eq}
use Rattle.qe_value.proofs.NameLemmas.{Distinct-from_view}
use Rattle.qe_value.specs.declared.value.Value.{Value}
use Rattle.qe_value.specs.Names.{is_named, Distinct}
use Rattle.qe_value.specs.Views.{field_view}
use Rattle.qe_script.specs.Fields.{without_key}

module _ {V : Type 0} (keeps : List ℕ × V → Bool) where
  -- what is kept has no new name
  is_named-filter : (name : List ℕ) (fields : List (List ℕ × V)) → is_named name fields ≡ false → is_named name (filter keeps fields) ≡ false
  is_named-filter name [] none = refl
  is_named-filter name (f ∷ fields) none =
      let parts = or_parts (bytes_eq name f.0) (is_named name fields) none in
      by_test (keeps f) parts.0 (is_named-filter name fields parts.1)
    where
      by_test : (b : Bool) → bytes_eq name f.0 ≡ false → is_named name (filter keeps fields) ≡ false
          → is_named name (cond b (f ∷ filter keeps fields) (filter keeps fields)) ≡ false
      by_test true here later = rw here later
      by_test false here later = later

  Distinct-filter : (fields : List (List ℕ × V)) → Distinct fields → Distinct (filter keeps fields)
  Distinct-filter [] apart = tt
  Distinct-filter (f ∷ fields) apart = by_test (keeps f) (is_named-filter f.0 fields apart.0) (Distinct-filter fields apart.1)
    where
      by_test : (b : Bool) → is_named f.0 (filter keeps fields) ≡ false → Distinct (filter keeps fields)
          → Distinct (cond b (f ∷ filter keeps fields) (filter keeps fields))
      by_test true here later = (here, later)
      by_test false here later = later

-- what is kept of distinct names is distinct
pub kept_distinct : (kept items : List (List ℕ × Value)) (k : ℕ) → map field_view kept ++ without_key (map field_view (drop k items)) ≡ without_key (map field_view items)
    → length items ≤ k → Distinct (map field_view items) → Distinct kept
unfolding without_key
kept_distinct kept items k so_far le apart =
    let all : map field_view kept ≡ without_key (map field_view items) =
    sym (append-nil (map field_view kept)) ∙ ap (λ l. map field_view kept ++ without_key (map field_view l)) (sym (drop_all k items le)) ∙ so_far in
    Distinct-from_view kept (subst Distinct (sym all) (Distinct-filter _ (map field_view items) apart))
