-- Rows as changes will make them, read at an identifier.
use Rattle.std.proofs.Common.{◌≡◌, ℕ, Bool, true, false, cond, List, [], ◌∷◌, Option, None, Some, unwrap_or, sym, ap, ◌∙◌, refl}
use Rattle.std.specs.FinMap.{get, insert, entries, empty, from_entries, find, get-entries, get-empty, get-insert, get-remove}
use Rattle.std.specs.Cmp.Lexicographic.{slice_cmp, nat_list_cmp_total, texts_ties}
use Rattle.std.specs.Ordering.{nat_cmp, eq_by_cmp}
use Rattle.std.specs.Str.{bytes_eq}
use Rattle.std.specs.Map.{lookup, keys_of}
use Rattle.std.specs.List.{IsDistinct, AllByRecursion}
use Rattle.std.proofs.lemmas.Map.Keys.{IsDistinct-head, IsDistinct-tail}
use Rattle.std.proofs.lemmas.Slice.Eq.{bytes_eq-Decides}
use Rattle.qe_esc.specs.Rows.{Row, Rows, has}
use Rattle.qe_esc.specs.Changes.{Waiting, written, all_written, changed, with_row}
use Rattle.qe_esc.proofs.HashLemmas.{alike, get-lookup, unseen}

get-written : (rows : Rows) (k : List ℕ) (row : Option Row) (q : List ℕ) → get (written rows k row) q ≡ cond (eq_by_cmp (slice_cmp nat_cmp) q k) row (get rows q)
get-written rows k None q = get-remove nat_list_cmp_total rows k q
get-written rows k (Some row) q = get-insert nat_list_cmp_total rows k row q

-- what an identifier is to have, or else has
unwrap-cond : (b : Bool) (x d : Option Row) (rest : Option (Option Row)) → unwrap_or (cond b (Some x) rest) d ≡ cond b x (unwrap_or rest d)
unwrap-cond true x d rest = refl
unwrap-cond false x d rest = refl

get-all_written : (rows : Rows) (es : List (List ℕ × Option Row)) (q : List ℕ) → get (all_written rows es) q ≡ unwrap_or (find (slice_cmp nat_cmp) q es) (get rows q)
get-all_written rows [] q = refl
get-all_written rows (e ∷ es) q =
    get-written (all_written rows es) e.0 e.1 q
    ∙ ap (cond (eq_by_cmp (slice_cmp nat_cmp) q e.0) e.1) (get-all_written rows es q)
    ∙ sym (unwrap-cond (eq_by_cmp (slice_cmp nat_cmp) q e.0) e.1 (get rows q) (find (slice_cmp nat_cmp) q es))

pub get-changed : (rows : Rows) (waiting : Waiting) (q : List ℕ) → get (changed rows waiting) q ≡ unwrap_or (get waiting q) (get rows q)
unfolding changed
get-changed rows waiting q = get-all_written rows (entries waiting) q ∙ ap (λ row. unwrap_or row (get rows q)) (sym (get-entries waiting q))

pub changed-empty : (rows : Rows) → changed rows empty ≡ rows
changed-empty rows = alike (changed rows empty) rows (λ q. get-changed rows empty q ∙ ap (λ row. unwrap_or row (get rows q)) (get-empty (slice_cmp nat_cmp) q))

pub changed-insert : (rows : Rows) (waiting : Waiting) (k : List ℕ) (row : Option Row) → changed rows (insert waiting k row) ≡ written (changed rows waiting) k row
changed-insert rows waiting k row = alike (changed rows (insert waiting k row)) (written (changed rows waiting) k row)
    (λ q. get-changed rows (insert waiting k row) q
    ∙ ap (λ found. unwrap_or found (get rows q)) (get-insert nat_list_cmp_total waiting k row q)
    ∙ unwrap-cond (eq_by_cmp (slice_cmp nat_cmp) q k) row (get rows q) (get waiting q)
    ∙ ap (cond (eq_by_cmp (slice_cmp nat_cmp) q k) row) (sym (get-changed rows waiting q))
    ∙ sym (get-written (changed rows waiting) k row q))

pub with_row-there : (rows : Rows) (id : List ℕ) (row : Row) → has rows id ≡ true → rows ≡ with_row rows id row
with_row-there rows id row there = ap (λ b. cond b rows (insert rows id row)) (sym there)

pub with_row-new : (rows : Rows) (id : List ℕ) (row : Row) → has rows id ≡ false → insert rows id row ≡ with_row rows id row
with_row-new rows id row new = ap (λ b. cond b rows (insert rows id row)) (sym new)

-- changes carried out from the first on
abbrev pub forward : Rows → List (List ℕ × Option Row) → Rows
forward rows [] = rows
forward rows (e ∷ es) = forward (written rows e.0 e.1) es

-- a key that the others lack
only_here : (q : List ℕ) (e : List ℕ × Option Row) (es : List (List ℕ × Option Row)) → AllByRecursion (λ y. bytes_eq e.0 y ≡ false) (keys_of es) → (d : Option Row) (b : Bool) → bytes_eq q e.0 ≡ b
    → unwrap_or (lookup (bytes_eq q) es) (cond b e.1 d) ≡ unwrap_or (cond b (Some e.1) (lookup (bytes_eq q) es)) d
only_here q e es apart d true is =
    let same : q ≡ e.0 = (bytes_eq-Decides q e.0).0 is in
    ap (λ found. unwrap_or found e.1) (ap (λ k. lookup (bytes_eq k) es) same ∙ unseen (bytes_eq e.0) es apart)
only_here q e es apart d false is = refl

get-forward : (rows : Rows) (es : List (List ℕ × Option Row)) (q : List ℕ) → IsDistinct bytes_eq (keys_of es) → get (forward rows es) q ≡ unwrap_or (lookup (bytes_eq q) es) (get rows q)
get-forward rows [] q apart = refl
get-forward rows (e ∷ es) q apart =
    get-forward (written rows e.0 e.1) es q (IsDistinct-tail bytes_eq e.0 (keys_of es) apart)
    ∙ ap (unwrap_or (lookup (bytes_eq q) es)) (get-written rows e.0 e.1 q ∙ ap (λ b. cond b e.1 (get rows q)) (sym (texts_ties q e.0)))
    ∙ only_here q e es (IsDistinct-head bytes_eq e.0 (keys_of es) apart) (get rows q) (bytes_eq q e.0) refl

pub forward-changed : (rows : Rows) (es : List (List ℕ × Option Row)) → IsDistinct bytes_eq (keys_of es) → forward rows es ≡ changed rows (from_entries es)
forward-changed rows es apart = alike (forward rows es) (changed rows (from_entries es))
    (λ q. get-forward rows es q apart ∙ sym (get-changed rows (from_entries es) q ∙ ap (λ found. unwrap_or found (get rows q)) (get-lookup es q)))
