-- The root keys of a schema's fields.
use Rattle.std.proofs.Common.{◌≡◌, ℕ, zero, suc, ◌+◌, ◌<◌, ◌≤◌, true, false, cond, List, [], ◌∷◌, ◌++◌, length, take, drop, get_or, Some, refl, sym, ap, ◌∙◌, arith}
use Rattle.std.proofs.lemmas.Bool.{cond_both, cond-true, cond-false}
use Rattle.std.proofs.lemmas.List.{append_assoc, drop_more}
use Rattle.std.specs.Prelude.{replicate, slice_get}
use Rattle.qe_field.specs.declared.field.Field.{Field}
use Rattle.qe_field.specs.Lookup.{encrypted_from, encrypted_numbers, is_encrypted}
use Rattle.qe_tokens.specs.Tokens.{root_key_of}
use Rattle.qe_tokens.specs.declared.tokens.RootKey.{RootKey}
use Rattle.qe_labels.specs.Under.{root_of}
use Rattle.qe_label_list.specs.Roots.{root_in}
use Rattle.qe_census.specs.Roots.{IsEncrypted, roots_from}

abbrev pub key_root : List (List ℕ) → ℕ → List ℕ
key_root keys place = root_key_of (get_or keys place [])

abbrev pub no_root : RootKey
no_root = record { 0 = replicate 32 0 }

-- ---- how many fields are encrypted
abbrev pub many : List Field → ℕ
many fields = length (encrypted_numbers fields)

many_from : (fields : List Field) (i j : ℕ) → length (encrypted_from i fields) ≡ length (encrypted_from j fields)
many_from [] i j = refl
many_from (field ∷ fields) i j =
    elim (is_encrypted field.kind) as (λ b. length (cond b (i ∷ encrypted_from (i + 1) fields) (encrypted_from (i + 1) fields))
    ≡ length (cond b (j ∷ encrypted_from (j + 1) fields) (encrypted_from (j + 1) fields))) [
      | true ↦ ap suc (many_from fields (i + 1) (j + 1))
      | false ↦ many_from fields (i + 1) (j + 1)
    ]

pub many_encrypted : (field : Field) (fields : List Field) → is_encrypted field.kind ≡ true → many (field ∷ fields) ≡ many fields + 1
many_encrypted field fields is =
    let rest = many_from fields 1 0 in
    ap length (cond-true (is_encrypted field.kind) (0 ∷ encrypted_from 1 fields) (encrypted_from 1 fields) is) ∙ omega (arith, rest)

pub many_plain : (field : Field) (fields : List Field) → is_encrypted field.kind ≡ false → many (field ∷ fields) ≡ many fields
many_plain field fields is =
    ap length (cond-false (is_encrypted field.kind) (0 ∷ encrypted_from 1 fields) (encrypted_from 1 fields) is) ∙ many_from fields 1 0

-- ---- one field more
roots_encrypted : (keys : List (List ℕ)) (place : ℕ) (field : Field) (fields : List Field) → is_encrypted field.kind ≡ true
    → roots_from keys place (field ∷ fields) ≡ record { 0 = key_root keys place } ∷ roots_from keys (place + 1) fields
roots_encrypted keys place field fields is =
    cond-true (is_encrypted field.kind) (record { 0 = key_root keys place } ∷ roots_from keys (place + 1) fields) (no_root ∷ roots_from keys place fields) is

roots_plain : (keys : List (List ℕ)) (place : ℕ) (field : Field) (fields : List Field) → is_encrypted field.kind ≡ false
    → roots_from keys place (field ∷ fields) ≡ no_root ∷ roots_from keys place fields
roots_plain keys place field fields is =
    cond-false (is_encrypted field.kind) (record { 0 = key_root keys place } ∷ roots_from keys (place + 1) fields) (no_root ∷ roots_from keys place fields) is

-- what stands of the roots while a walk over the fields is at a place
pub record Walks (keys : List (List ℕ)) (fields : List Field) (roots : List RootKey) (place at : ℕ) : Type 0 where
  pub made : roots ++ roots_from keys place (drop at fields) ≡ roots_from keys 0 fields
  pub left : place + many (drop at fields) ≡ length keys
  pub low : place ≤ at

module _ (keys : List (List ℕ)) (fields : List Field) (roots : List RootKey) (place at : ℕ) (field : Field) (within : at < length fields)
    (is : field ≡ get_or fields at field) (walks : Walks keys fields roots place at) where
  rest : List Field
  rest = drop (at + 1) fields

  split : drop at fields ≡ field ∷ drop (at + 1) fields
  split = drop_more fields at field within ∙ ap (λ x. x ∷ drop (at + 1) fields) (sym is)

  made_split : roots ++ roots_from keys place (field ∷ drop (at + 1) fields) ≡ roots_from keys 0 fields
  made_split = ap (λ fs. roots ++ roots_from keys place fs) (sym split) ∙ walks.made

  left_split : place + many (field ∷ drop (at + 1) fields) ≡ length keys
  left_split = ap (λ fs. place + many fs) (sym split) ∙ walks.left

  pub key_within : is_encrypted field.kind ≡ true → place < length keys
  key_within encrypted = let one = many_encrypted field (drop (at + 1) fields) encrypted in omega (arith, left_split, one)

  pub walks_encrypted : is_encrypted field.kind ≡ true → (root : RootKey) → root ≡ record { 0 = key_root keys place } → Walks keys fields (roots ++ root ∷ []) (place + 1) (at + 1)
  walks_encrypted encrypted root same = record {
    made = append_assoc roots (root ∷ []) (roots_from keys (place + 1) (drop (at + 1) fields))
        ∙ ap (λ r. roots ++ r ∷ roots_from keys (place + 1) (drop (at + 1) fields)) same
        ∙ ap (λ rs. roots ++ rs) (sym (roots_encrypted keys place field (drop (at + 1) fields) encrypted)) ∙ made_split;
    left = let one = many_encrypted field (drop (at + 1) fields) encrypted in omega (arith, left_split, one);
    low = omega (arith, walks.low);
  }

  pub walks_plain : is_encrypted field.kind ≡ false → (root : RootKey) → root ≡ no_root → Walks keys fields (roots ++ root ∷ []) place (at + 1)
  walks_plain plain root same = record {
    made = append_assoc roots (root ∷ []) (roots_from keys place (drop (at + 1) fields))
        ∙ ap (λ r. roots ++ r ∷ roots_from keys place (drop (at + 1) fields)) same
        ∙ ap (λ rs. roots ++ rs) (sym (roots_plain keys place field (drop (at + 1) fields) plain)) ∙ made_split;
    left = let one = many_plain field (drop (at + 1) fields) plain in omega (arith, left_split, one);
    low = omega (arith, walks.low);
  }

-- ---- the root at a number
pub roots_many : (keys : List (List ℕ)) (fields : List Field) (place : ℕ) → length (roots_from keys place fields) ≡ length fields
roots_many keys [] place = refl
roots_many keys (field ∷ fields) place =
    cond_both (is_encrypted field.kind) (record { 0 = key_root keys place } ∷ roots_from keys (place + 1) fields) (no_root ∷ roots_from keys place fields)
    (λ roots. length roots ≡ length (field ∷ fields)) (λ _. ap suc (roots_many keys fields (place + 1))) (λ _. ap suc (roots_many keys fields place))

root_by : (keys : List (List ℕ)) (fields : List Field) (place number : ℕ) (field : Field) → slice_get fields number ≡ Some field → is_encrypted field.kind ≡ true
    → root_in (roots_from keys place fields) number ≡ key_root keys (place + many (take number fields))
root_by keys [] place number field at is = absurd (cc)
root_by keys (x ∷ fields) place zero field at is =
    let same : x ≡ field = cc in
    let encrypted : is_encrypted x.kind ≡ true = ap (λ (f : Field). is_encrypted f.kind) same ∙ is in
    let here : place ≡ place + 0 = omega arith in
    ap (λ roots. root_in roots 0) (roots_encrypted keys place x fields encrypted) ∙ ap (key_root keys) here
root_by keys (x ∷ fields) place (suc number) field at is =
    (elim (is_encrypted x.kind) as (λ b. is_encrypted x.kind ≡ b → root_in (roots_from keys place (x ∷ fields)) (suc number) ≡ key_root keys (place + many (x ∷ take number fields))) [
      | true ↦ λ encrypted.
          let one = many_encrypted x (take number fields) encrypted in
          let same : (place + 1) + many (take number fields) ≡ place + many (x ∷ take number fields) = omega (arith, one) in
          ap (λ roots. root_in roots (suc number)) (roots_encrypted keys place x fields encrypted) ∙ root_by keys fields (place + 1) number field at is ∙ ap (key_root keys) same
      | false ↦ λ plain.
          let one = many_plain x (take number fields) plain in
          let same : place + many (take number fields) ≡ place + many (x ∷ take number fields) = omega (arith, one) in
          ap (λ roots. root_in roots (suc number)) (roots_plain keys place x fields plain) ∙ root_by keys fields place number field at is ∙ ap (key_root keys) same
    ]) refl

pub root_is : (fields : List Field) (keys : List (List ℕ)) (number : ℕ) → IsEncrypted fields number
    → root_in (roots_from keys 0 fields) number ≡ root_of (record { schema = fields; keys = keys }) number
unfolding root_of
root_is fields keys number is =
    let same : 0 + many (take number fields) ≡ many (take number fields) = omega arith in
    root_by keys fields 0 number is.field is.at is.encrypted ∙ ap (key_root keys) same
