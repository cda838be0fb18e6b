-- The place of a field's key, and a field's tokens by its key.
use Rattle.std.proofs.Common.{◌≡◌, ◌<◌, ◌≤◌, ◌+◌, ℕ, zero, suc, Bool, true, false, cond, List, [], ◌∷◌, ◌++◌, length, get_or, take, drop, Option, Some, refl, sym, ap, ◌∙◌, arith}
use Rattle.std.proofs.lemmas.List.{drop_more, drop_all, take_more}
use Rattle.std.specs.Prelude.{slice_get}
use Rattle.qe_seal.specs.Hmac.{hmac_sha256}
use Rattle.qe_seal.specs.Sealed.{Seals}
use Rattle.qe_tokens.specs.Tokens.{root_key_of, collections_of, edc_of, esc_of, ecoc_of, server_token_of, server_cipher_of, edc_contention_of, esc_contention_of}
use Rattle.qe_tokens.specs.Labels.{row_token, tag_token}
use Rattle.qe_field.specs.declared.field.Field.{Field}
use Rattle.qe_field.specs.Lookup.{encrypted_from, encrypted_numbers, is_encrypted}
use Rattle.qe_ecoc.specs.declared.forms.Cipher.{Cipher}
use Rattle.qe_ecoc.specs.Opening.{written}
use Rattle.qe_parts.specs.declared.edges.EdgeTokens.{EdgeTokens}
use Rattle.qe_parts.specs.declared.edges.FindEdge.{FindEdge}
use Rattle.qe_labels.specs.Under.{Under, key_of, root_of}
use Rattle.qe_encodes.specs.Fields.{kind_at}
use Rattle.qe_encodes.specs.Payloads.{ecoc_token, cipher_token, find_tokens, item_tokens, seal_of}

-- whether a field is encrypted, as a number
abbrev pub one_if : Bool → ℕ
one_if true = 1
one_if false = 0

-- the first field, and those behind it
counted_first : (i : ℕ) (field : Field) (fields : List Field)
    → length (encrypted_from i (field ∷ fields)) ≡ one_if (is_encrypted field.kind) + length (encrypted_from (i + 1) fields)
counted_first i field fields = by_test (is_encrypted field.kind)
  where
    by_test : (b : Bool) → length (cond b (i ∷ encrypted_from (i + 1) fields) (encrypted_from (i + 1) fields)) ≡ one_if b + length (encrypted_from (i + 1) fields)
    by_test true = omega arith
    by_test false = omega arith

-- the first of those that are left
pub counted_next : (fields : List Field) (i : ℕ) (field : Field) → i < length fields → field ≡ get_or fields i field
    → length (encrypted_from i (drop i fields)) ≡ one_if (is_encrypted field.kind) + length (encrypted_from (i + 1) (drop (i + 1) fields))
counted_next fields i field less is =
    ap (λ left. length (encrypted_from i left)) (drop_more fields i field less ∙ ap (λ one. one ∷ drop (i + 1) fields) (sym is))
    ∙ counted_first i field (drop (i + 1) fields)

pub counted_end : (fields : List Field) (i : ℕ) → length fields ≤ i → length (encrypted_from i (drop i fields)) ≡ 0
counted_end fields i past = ap (λ left. length (encrypted_from i left)) (drop_all i fields past)

-- an encrypted field has a place among them
counted_below : (i : ℕ) (fields : List Field) (number : ℕ) → is_encrypted (kind_at fields number) ≡ true
    → length (encrypted_from i (take number fields)) < length (encrypted_from i fields)
counted_below i [] zero is = absurd cc
counted_below i [] (suc number) is = absurd cc
counted_below i (field ∷ fields) zero is = omega (arith, counted_first i field fields, ap one_if is)
counted_below i (field ∷ fields) (suc number) is =
    let rest = counted_below (i + 1) fields number is in
    omega (arith, counted_first i field fields, counted_first i field (take number fields), rest)

pub key_within : (fields : List Field) (number : ℕ) → is_encrypted (kind_at fields number) ≡ true
    → length (encrypted_numbers (take number fields)) < length (encrypted_numbers fields)
key_within fields number is = counted_below 0 fields number is

-- an item that is found is the one at its place
found_at : {A : Type 0} (xs : List A) (n : ℕ) (x : A) → Some x ≡ slice_get xs n → get_or xs n x ≡ x
found_at [] n x is = absurd cc
found_at (first ∷ xs) zero x is = let same : first ≡ x = cc in same
found_at (first ∷ xs) (suc n) x is = found_at xs n x is

-- one key more
pub grown_next : (keys made : List (List ℕ)) (i : ℕ) (key : List ℕ) → i < length keys → Some key ≡ slice_get keys i → made ≡ take i keys
    → made ++ key ∷ [] ≡ take (i + 1) keys
grown_next keys made i key less is so_far =
    ap (λ front. front ++ key ∷ []) so_far ∙ ap (λ one. take i keys ++ one ∷ []) (sym (found_at keys i key is)) ∙ sym (take_more keys i key less)

module _ (u : Under) (number : ℕ) (key : List ℕ) (is : key ≡ key_of u number) where
  -- the tokens by which an item is looked for
  pub find_made : (item d s l : List ℕ) → d ≡ hmac_sha256 (edc_of (collections_of (root_key_of key))) item
      → s ≡ hmac_sha256 (esc_of (collections_of (root_key_of key))) item → l ≡ hmac_sha256 (server_token_of (root_key_of key)) item
      → let made : FindEdge = record { d = d; s = s; l = l } in made ≡ find_tokens u number item
  unfolding root_of
  find_made item d s l of_documents of_rows of_blocks = rw (of_documents, of_rows, of_blocks, is) refl

  -- .. and those under a factor
  pub item_made : (factor : ℕ) (item iv : List ℕ) (leaf : Option ℕ) (d s l : List ℕ) (p : Cipher)
      → d ≡ edc_contention_of (hmac_sha256 (edc_of (collections_of (root_key_of key))) item) factor
      → s ≡ esc_contention_of (hmac_sha256 (esc_of (collections_of (root_key_of key))) item) factor
      → l ≡ hmac_sha256 (server_token_of (root_key_of key)) item
      → p ≡ written (ecoc_of (collections_of (root_key_of key))) iv s leaf
      → let made : EdgeTokens = record { d = d; s = s; l = l; p = p } in made ≡ item_tokens u number factor item iv leaf
  unfolding root_of row_token tag_token
  item_made factor item iv leaf d s l p of_documents of_rows of_blocks of_compaction = rw (of_compaction, of_documents, of_rows, of_blocks, is) refl

  -- the field's own tokens
  pub compaction_made : ecoc_of (collections_of (root_key_of key)) ≡ ecoc_token u number
  unfolding root_of
  compaction_made = rw is refl

  pub values_made : server_cipher_of (root_key_of key) ≡ cipher_token u number
  unfolding root_of
  values_made = rw is refl

-- bytes that are sealed are those of the function
pub sealed_is : (key id iv bytes sealed : List ℕ) → Seals key id iv bytes sealed → sealed ≡ seal_of key id iv bytes
unfolding Seals
sealed_is key id iv bytes sealed seals = seals
