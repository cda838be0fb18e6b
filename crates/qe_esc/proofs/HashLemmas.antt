-- A hash map by identifiers, as the finite map of its entries.
use Rattle.std.proofs.Common.{◌≡◌, ℕ, ◌+◌, Bool, false, cond, List, [], ◌∷◌, length, Option, None, Some, sym, ap, ◌∙◌, refl, arith}
use Rattle.std.specs.FinMap.{FinMap, get, insert, remove, len, from_entries, find, same_map, get-from_entries, get-insert, get-remove, len-insert, len-empty, slice_cmp-IsAntisymmetric, nat_cmp-IsAntisymmetric}
use Rattle.std.specs.Cmp.Lexicographic.{slice_cmp, texts_ties, nat_list_cmp_total, nat_list_eq_equiv}
use Rattle.std.specs.Ordering.{nat_cmp, eq_by_cmp}
use Rattle.std.specs.Str.{bytes_eq}
use Rattle.std.specs.Map.{lookup, keys_of}
use Rattle.std.specs.List.{IsDistinct, AllByRecursion}
use Rattle.std.specs.Prelude.{is_some, Result, Ok, Err, IsOk, OnOk}
use Rattle.std.proofs.lemmas.Map.Keys.{IsDistinct-head, IsDistinct-tail}

abbrev pub ById : Type 0 → Type 0
ById X = FinMap (slice_cmp nat_cmp) X

tie : (k q : List ℕ) → bytes_eq k q ≡ eq_by_cmp (slice_cmp nat_cmp) q k
tie k q = nat_list_eq_equiv.symm k q ∙ texts_ties q k

module _ {X : Type 0} where
  find-lookup : (es : List (List ℕ × X)) (q : List ℕ) → find (slice_cmp nat_cmp) q es ≡ lookup (bytes_eq q) es
  find-lookup [] q = refl
  find-lookup (e ∷ es) q = λ i. cond (sym (texts_ties q e.0) i) (Some e.1) (find-lookup es q i)

  pub get-lookup : (es : List (List ℕ × X)) (q : List ℕ) → get (from_entries {R = slice_cmp nat_cmp} es) q ≡ lookup (bytes_eq q) es
  get-lookup es q = get-from_entries nat_list_cmp_total es q ∙ find-lookup es q

  -- two maps that answer alike are one
  pub alike : (m n : ById X) → ((q : List ℕ) → get m q ≡ get n q) → m ≡ n
  alike m n same = same_map nat_list_cmp_total (slice_cmp-IsAntisymmetric nat_cmp-IsAntisymmetric) m n same

  pub map_alike : (es : List (List ℕ × X)) (m : ById X) → ((q : List ℕ) → lookup (bytes_eq q) es ≡ get m q) → from_entries es ≡ m
  map_alike es m same = alike (from_entries es) m (λ q. get-lookup es q ∙ same q)

  pub inserted : (es fs : List (List ℕ × X)) (k : List ℕ) (v : X) → ((q : List ℕ) → lookup (bytes_eq q) fs ≡ cond (bytes_eq k q) (Some v) (lookup (bytes_eq q) es))
      → from_entries {R = slice_cmp nat_cmp} fs ≡ insert (from_entries es) k v
  inserted es fs k v put = map_alike fs (insert (from_entries es) k v)
      (λ q. put q ∙ (λ i. cond (tie k q i) (Some v) (sym (get-lookup es q) i)) ∙ sym (get-insert nat_list_cmp_total (from_entries es) k v q))

  pub removed : (es fs : List (List ℕ × X)) (k : List ℕ) → ((q : List ℕ) → lookup (bytes_eq q) fs ≡ cond (bytes_eq k q) None (lookup (bytes_eq q) es))
      → from_entries {R = slice_cmp nat_cmp} fs ≡ remove (from_entries es) k
  removed es fs k gone = map_alike fs (remove (from_entries es) k)
      (λ q. gone q ∙ (λ i. cond (tie k q i) None (sym (get-lookup es q) i)) ∙ sym (get-remove nat_list_cmp_total (from_entries es) k q))

  pub unseen : (test : List ℕ → Bool) (es : List (List ℕ × X)) → AllByRecursion (λ y. test y ≡ false) (keys_of es) → lookup test es ≡ None
  unseen test [] none = refl
  unseen test (e ∷ es) none = ap (λ b. cond b (Some e.1) (lookup test es)) none.0 ∙ unseen test es none.1

  -- distinct entries are as many as the map has
  pub len-from_entries : (es : List (List ℕ × X)) → IsDistinct bytes_eq (keys_of es) → len (from_entries {R = slice_cmp nat_cmp} es) ≡ length es
  len-from_entries [] apart = len-empty (slice_cmp nat_cmp) X
  len-from_entries (e ∷ es) apart =
      let new : is_some (get (from_entries {R = slice_cmp nat_cmp} es) e.0) ≡ false = ap is_some (get-lookup es e.0 ∙ unseen (bytes_eq e.0) es (IsDistinct-head bytes_eq e.0 (keys_of es) apart)) in
      let rest : len (from_entries {R = slice_cmp nat_cmp} es) ≡ length es = len-from_entries es (IsDistinct-tail bytes_eq e.0 (keys_of es) apart) in
      len-insert nat_list_cmp_total (from_entries es) e.0 e.1
      ∙ ap (λ b. cond b (len (from_entries {R = slice_cmp nat_cmp} es)) (len (from_entries {R = slice_cmp nat_cmp} es) + 1)) new
      ∙ omega (arith, rest)

pub if_ok : {T E : Type 0} (r : Result T E) (P : Type 0) → IsOk r → OnOk r P → P
if_ok (Ok x) P ok p = p
if_ok (Err e) P ok p = cc

-- equal options, where the values of one are copies of the other's
pub same_option : {X : Type 0} (R : Option X → Option X → Type 0) → ((y : X) → R None (Some y) → ⊥) → ((x : X) → R (Some x) None → ⊥)
    → ((x y : X) → R (Some x) (Some y) → y ≡ x) → (v w : Option X) → R v w → w ≡ v
same_option R none some both None None h = refl
same_option R none some both None (Some y) h = absurd (none y h)
same_option R none some both (Some x) None h = absurd (some x h)
same_option R none some both (Some x) (Some y) h = ap Some (both x y h)
