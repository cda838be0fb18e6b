-- Identifiers by numbers of 64 bits, and rows at an identifier.
use Rattle.std.proofs.Common.{◌≡◌, ℕ, ◌+◌, ◌%◌, ◌^◌, Bool, true, false, List, [], ◌∷◌, ◌++◌, Option, None, Some, refl, ap, ◌∙◌, arith, ◌⊎◌, inl, inr, ⊎_elim}
use Rattle.std.proofs.lemmas.Bool.{cond-true, cond-false, cond_both, cases_Bool, false_from_ne_true}
use Rattle.std.specs.List.{AllByRecursion, filter}
use Rattle.std.proofs.lemmas.Slice.Eq.{bytes_eq-Decides}
use Rattle.std.specs.Int.{w64, to_le_bytes, byte_at}
use Rattle.std.specs.Str.{bytes_eq}
use Rattle.std.specs.Prelude.{is_some, unwrap_or}
use Rattle.std.specs.FinMap.{get, insert, remove, get-insert, get-remove}
use Rattle.std.specs.Cmp.{eq_by_cmp_equiv}
use Rattle.std.specs.Cmp.Lexicographic.{slice_cmp, nat_list_cmp_total, texts_ties}
use Rattle.std.specs.Ordering.{nat_cmp, eq_by_cmp}
use Rattle.qe_seal.specs.Hmac.{hmac_sha256, prf1_of, prf2_of}
use Rattle.qe_tokens.specs.Tokens.{esc_tag_of}
use Rattle.qe_esc.specs.Rows.{Row, Rows, has}
use Rattle.qe_esc.specs.Identifiers.{id_of, row_after}
use Rattle.qe_esc.specs.declared.key.RowKind.{RowKind}
use Rattle.qe_esc.specs.declared.key.RowKind.TheVariants.{Position, Anchor}

-- a number's 8 bytes are those of its remainder
bytes_wrap : (n : ℕ) → to_le_bytes w64 (n % 2 ^ 64) ≡ to_le_bytes w64 n
bytes_wrap n =
    let b0 : byte_at 0 (n % 2 ^ 64) ≡ byte_at 0 n = omega arith in
    let b1 : byte_at 1 (n % 2 ^ 64) ≡ byte_at 1 n = omega arith in
    let b2 : byte_at 2 (n % 2 ^ 64) ≡ byte_at 2 n = omega arith in
    let b3 : byte_at 3 (n % 2 ^ 64) ≡ byte_at 3 n = omega arith in
    let b4 : byte_at 4 (n % 2 ^ 64) ≡ byte_at 4 n = omega arith in
    let b5 : byte_at 5 (n % 2 ^ 64) ≡ byte_at 5 n = omega arith in
    let b6 : byte_at 6 (n % 2 ^ 64) ≡ byte_at 6 n = omega arith in
    let b7 : byte_at 7 (n % 2 ^ 64) ≡ byte_at 7 n = omega arith in
    λ i. b0 i ∷ b1 i ∷ b2 i ∷ b3 i ∷ b4 i ∷ b5 i ∷ b6 i ∷ b7 i ∷ []

prf1-wraps : (key : List ℕ) (n : ℕ) → prf1_of key (n % 2 ^ 64) ≡ prf1_of key n
unfolding prf1_of
prf1-wraps key n = ap (hmac_sha256 key) (bytes_wrap n)

prf2-wraps : (key : List ℕ) (a n : ℕ) → prf2_of key a (n % 2 ^ 64) ≡ prf2_of key a n
unfolding prf2_of
prf2-wraps key a n = ap (λ bytes. hmac_sha256 key (to_le_bytes w64 a ++ bytes)) (bytes_wrap n)

pub id-wraps : (kind : RowKind) (token : List ℕ) (n : ℕ) → id_of kind token (n % 2 ^ 64) ≡ id_of kind token n
id-wraps Position token n = prf1-wraps (esc_tag_of token) n
id-wraps Anchor token n = prf2-wraps (esc_tag_of token) 0 n

pub row_after-is : (rows : Rows) (kind : RowKind) (token : List ℕ) (start distance : ℕ) → row_after rows kind token start distance ≡ has rows (id_of kind token (start + distance))
row_after-is rows kind token start distance = ap (has rows) (id-wraps kind token (start + distance))

-- ---- identifiers are one or are not
pub cases_id : (a b : List ℕ) → (a ≡ b) ⊎ (a ≡ b → ⊥)
cases_id a b = ⊎_elim
    (λ (yes_one : bytes_eq a b ≡ true). inl ((bytes_eq-Decides a b).0 yes_one))
    (λ (no_one : bytes_eq a b ≡ false). inr (λ (same : a ≡ b). let one : bytes_eq a b ≡ true = (bytes_eq-Decides a b).1 same in cc))
    (cases_Bool (bytes_eq a b))

pub row_there : (o : Option Row) → is_some o ≡ true → (row : Row) × (o ≡ Some row)
row_there None there = cc
row_there (Some row) there = (row, refl)

pub same_some : {A : Type 0} (a b : A) → Some a ≡ Some b → a ≡ b
same_some a b e = ap (λ o. unwrap_or o a) e

-- ---- rows that are the same but at one identifier
pub record SameBut (id : List ℕ) (before after : Rows) : Type 0 where
  pub at : (other : List ℕ) → (other ≡ id → ⊥) → get after other ≡ get before other

no_tie : (a b : List ℕ) → (a ≡ b → ⊥) → eq_by_cmp (slice_cmp nat_cmp) a b ≡ false
no_tie a b apart = false_from_ne_true (eq_by_cmp (slice_cmp nat_cmp) a b) (λ tie. apart ((bytes_eq-Decides a b).0 (texts_ties a b ∙ tie)))

pub inserted_here : (rows : Rows) (id : List ℕ) (row : Row) → get (insert rows id row) id ≡ Some row
inserted_here rows id row =
    get-insert nat_list_cmp_total rows id row id
    ∙ cond-true (eq_by_cmp (slice_cmp nat_cmp) id id) (Some row) (get rows id) ((eq_by_cmp_equiv nat_list_cmp_total).refl id)

pub inserted_but : (rows : Rows) (id : List ℕ) (row : Row) → SameBut id rows (insert rows id row)
inserted_but rows id row = record {
  at = λ other apart.
      get-insert nat_list_cmp_total rows id row other
      ∙ cond-false (eq_by_cmp (slice_cmp nat_cmp) other id) (Some row) (get rows other) (no_tie other id apart);
}

pub removed_here : (rows : Rows) (id : List ℕ) → get (remove rows id) id ≡ None
removed_here rows id =
    get-remove nat_list_cmp_total rows id id
    ∙ cond-true (eq_by_cmp (slice_cmp nat_cmp) id id) None (get rows id) ((eq_by_cmp_equiv nat_list_cmp_total).refl id)

pub removed_but : (rows : Rows) (id : List ℕ) → SameBut id rows (remove rows id)
removed_but rows id = record {
  at = λ other apart.
      get-remove nat_list_cmp_total rows id other
      ∙ cond-false (eq_by_cmp (slice_cmp nat_cmp) other id) None (get rows other) (no_tie other id apart);
}

-- ---- what holds of each item
pub each_weaker : {A : Type 0} (P Q : A → Type 0) → ((x : A) → P x → Q x) → (xs : List A) → AllByRecursion P xs → AllByRecursion Q xs
each_weaker P Q weaker [] all = tt
each_weaker P Q weaker (x ∷ xs) all = (weaker x all.0, each_weaker P Q weaker xs all.1)

pub each_append : {A : Type 0} (P : A → Type 0) (xs ys : List A) → AllByRecursion P xs → AllByRecursion P ys → AllByRecursion P (xs ++ ys)
each_append P [] ys front back = back
each_append P (x ∷ xs) ys front back = (front.0, each_append P xs ys front.1 back)

pub each_kept : {A : Type 0} (P : A → Type 0) (test : A → Bool) → ((x : A) → test x ≡ true → P x) → (xs : List A) → AllByRecursion P (filter test xs)
each_kept P test holds [] = tt
each_kept P test holds (x ∷ xs) =
    cond_both (test x) (x ∷ filter test xs) (filter test xs) (AllByRecursion P)
    (λ is. (holds x is, each_kept P test holds xs)) (λ _. each_kept P test holds xs)
