-- Keys of fields, items and words.
use Rattle.std.proofs.Common.{◌≡◌, ℕ, zero, suc, ◌+◌, ◌*◌, ◌<◌, true, false, List, [], ◌∷◌, ◌++◌, map, length, take, get_or, refl, sym, ap, ◌∙◌, subst, arith}
use Rattle.std.proofs.lemmas.List.{take_more, map-append}
use Rattle.std.specs.Prelude.{replicate}
use Rattle.qe_tokens.specs.Labels.{row_token, tag_token}
use Rattle.qe_tokens.specs.Tokens.{collections_of, edc_contention_of, edc_derived_of, edc_of, esc_contention_of, esc_derived_of, esc_of}
use Rattle.qe_tokens.specs.declared.tokens.RootKey.{RootKey}
use Rattle.qe_tokens.specs.declared.words.Word.{Word}
use Rattle.qe_tokens.specs.declared.words.Word.TheVariants.{Item, Stray}
use Rattle.qe_label_list.specs.declared.kept.Kept.{Kept}
use Rattle.qe_label_list.specs.declared.tokens.FieldKeys.{FieldKeys}
use Rattle.qe_label_rows.specs.declared.row.WordTokens.{WordTokens}
use Rattle.qe_label_list.specs.Kept.{IsKept}
use Rattle.qe_label_list.specs.Roots.{AreWithin, IsWithin, root_in}
use Rattle.qe_label_list.specs.Tokens.{AreOfFields, IsOfField, IsOfItem, tokens_of}

-- ---- fields
pub field_at : (fields : List FieldKeys) (roots : List RootKey) (field : ℕ) (d : FieldKeys) → AreOfFields fields roots → field < length fields
    → IsOfField (get_or fields field d) (root_in roots field)
field_at [] roots field d are within = absurd (omega arith)
field_at (keys ∷ fields) [] field d are within = absurd are
field_at (keys ∷ fields) (root ∷ roots) zero d are within = are.0
field_at (keys ∷ fields) (root ∷ roots) (suc field) d are within = field_at fields roots field d are.1 (omega arith)

pub fields_many : (fields : List FieldKeys) (roots : List RootKey) → AreOfFields fields roots → length fields ≡ length roots
fields_many [] [] are = refl
fields_many [] (root ∷ roots) are = absurd are
fields_many (keys ∷ fields) [] are = absurd are
fields_many (keys ∷ fields) (root ∷ roots) are = let rest = fields_many fields roots are.1 in omega arith

fields_push : (fields : List FieldKeys) (roots : List RootKey) (keys : FieldKeys) (root : RootKey) → AreOfFields fields roots → IsOfField keys root.0
    → AreOfFields (fields ++ keys ∷ []) (roots ++ root ∷ [])
fields_push [] [] keys root are is = (is, tt)
fields_push [] (r ∷ roots) keys root are is = absurd are
fields_push (f ∷ fields) [] keys root are is = absurd are
fields_push (f ∷ fields) (r ∷ roots) keys root are is = (are.0, fields_push fields roots keys root are.1 is)

pub fields_next : (fields : List FieldKeys) (roots : List RootKey) (place : ℕ) (d : RootKey) (keys : FieldKeys) → place < length roots
    → AreOfFields fields (take place roots) → IsOfField keys (get_or roots place d).0 → AreOfFields (fields ++ keys ∷ []) (take (place + 1) roots)
fields_next fields roots place d keys within are is =
    subst (AreOfFields (fields ++ keys ∷ [])) (sym (take_more roots place d within)) (fields_push fields (take place roots) keys (get_or roots place d) are is)

-- ---- words
module _ (keys : Kept) (contention : ℕ) (tokens : WordTokens) where
  -- a word's keys, from those of its item
  abbrev RowsFrom : Type 0
  RowsFrom = (root item : List ℕ) → IsOfItem keys.keys root item → tokens.rows ≡ esc_contention_of (esc_derived_of (esc_of (collections_of root)) item) contention

  abbrev TagsFrom : Type 0
  TagsFrom = (root item : List ℕ) → IsOfItem keys.keys root item → tokens.tags ≡ edc_contention_of (edc_derived_of (edc_of (collections_of root)) item) contention

  pub item_made : (roots : List RootKey) (field : ℕ) (item : List ℕ) (end n : ℕ) (word : Word) → IsKept roots keys → keys.field ≡ field → keys.item.now ≡ item
      → RowsFrom → TagsFrom → tokens.has_tags ≡ true → tokens.end ≡ end → end ≡ 2 * n + 3 → word ≡ Item field item contention
      → tokens ≡ tokens_of (root_in roots) (word, n)
  unfolding row_token tag_token
  item_made roots field item end n word kept of_field of_item rows tags has_tags is_end last is =
      let kept_here : IsOfItem keys.keys (root_in roots field) item =
      subst (λ x. IsOfItem keys.keys (root_in roots field) x) of_item (subst (λ f. IsOfItem keys.keys (root_in roots f) keys.item.now) of_field kept) in
      let row = rows (root_in roots field) item kept_here in
      let tag = tags (root_in roots field) item kept_here in
      let number : tokens.end ≡ 2 * n + 3 = is_end ∙ last in
      (λ i. record { rows = row i; tags = tag i; has_tags = has_tags i; end = number i })
      ∙ ap (λ w. tokens_of (root_in roots) (w, n)) (sym is)

pub stray_made : (root : ℕ → List ℕ) (token : List ℕ) (end n : ℕ) (word : Word) (tokens : WordTokens) → tokens.rows ≡ token → tokens.tags ≡ replicate 32 0
    → tokens.has_tags ≡ false → tokens.end ≡ end → end ≡ 2 * n + 3 → word ≡ Stray token → tokens ≡ tokens_of root (word, n)
stray_made root token end n word tokens rows tags has_tags is_end last is =
    let number : tokens.end ≡ 2 * n + 3 = is_end ∙ last in
    (λ i. record { rows = rows i; tags = tags i; has_tags = has_tags i; end = number i }) ∙ ap (λ w. tokens_of root (w, n)) (sym is)

pub tokens_next : (root : ℕ → List ℕ) (counted : List (Word × ℕ)) (place : ℕ) (one : Word × ℕ) (old now : List WordTokens) (tokens : WordTokens)
    → place < length counted → one ≡ get_or counted place one → old ≡ map (tokens_of root) (take place counted) → now ≡ old ++ tokens ∷ []
    → tokens ≡ tokens_of root one → now ≡ map (tokens_of root) (take (place + 1) counted)
tokens_next root counted place one old now tokens within at are pushed is =
    pushed ∙ (λ i. are i ++ is i ∷ [])
    ∙ sym (ap (map (tokens_of root)) (take_more counted place one within) ∙ map-append (tokens_of root) (take place counted) (get_or counted place one ∷ [])
    ∙ ap (λ x. map (tokens_of root) (take place counted) ++ tokens_of root x ∷ []) (sym at))

-- the field of a word that is within fields
pub within_at : (fields : ℕ) (counted : List (Word × ℕ)) (place : ℕ) (one : Word × ℕ) → AreWithin fields counted → place < length counted → one ≡ get_or counted place one
    → IsWithin fields one.0
within_at fields [] place one are within at = absurd (omega arith)
within_at fields (x ∷ counted) zero one are within at = subst (λ (y : Word × ℕ). IsWithin fields y.0) (sym at) are.0
within_at fields (x ∷ counted) (suc place) one are within at = within_at fields counted place one are.1 (omega arith) at
