-- Keys of words, one more and sixteen more; what lies at a place of a batch.
use Rattle.std.proofs.Common.{◌≡◌, ℕ, zero, suc, ◌+◌, ◌*◌, ◌<◌, List, [], ◌∷◌, ◌++◌, length, take, drop, get_or, set, refl, sym, ap, ◌∙◌, subst, arith, inl, inr}
use Rattle.std.proofs.lemmas.List.{append_assoc, take_more, get_or-set_same, get_or-set_other, take-append-drop, take-take, drop-take, drop-drop, get_or_default}
use Rattle.std.proofs.lemmas.Bool.{cases_lt}
use Rattle.qe_lanes.specs.Keys.{IsKeyedBy}
use Rattle.qe_lanes.specs.declared.keys.LaneKey.{LaneKey}
use Rattle.qe_seal.specs.Hmac.{prf1_of}
use Rattle.qe_tokens.specs.declared.words.LabelKind.{LabelKind}
use Rattle.qe_tokens.specs.declared.words.LabelKind.TheVariants.{Anchor, Position, Tag}
use Rattle.qe_label_rows.specs.declared.row.Row.{Row}
use Rattle.qe_label_rows.specs.declared.row.WordTokens.{WordTokens}
use Rattle.qe_label_rows.specs.Batches.{AreKeys, HaveWords}
use Rattle.qe_label_rows.specs.Made.{key_for, token_for}

-- what is written at a place of a table is what a function gives there
pub filled_next : {X : Type 0} (f : ℕ → X) (table : List X) (at : ℕ) (x d : X) → at < length table → ((k : ℕ) → k < at → get_or table k d ≡ f k) → x ≡ f at
    → (k : ℕ) → k < at + 1 → get_or (set table at x) k d ≡ f k
filled_next f table at x d within held is k below = elim (cases_lt k at) [
  | inl lt ↦
      let ne : k ≡ at → ⊥ = λ e. omega arith in
      get_or-set_other table at k x d ne ∙ held k lt
  | inr ge ↦
      let e : k ≡ at = omega arith in
      rw e (get_or-set_same table at x d within ∙ is)
]

-- the key of a word's identifiers, from its token
pub key_of_token : (kind : LabelKind) (tokens : WordTokens) → prf1_of (token_for kind tokens) 1 ≡ key_for kind tokens
key_of_token Position tokens = refl
key_of_token Anchor tokens = refl
key_of_token Tag tokens = refl

module _ (kind : LabelKind) where
  push : (keys : List LaneKey) (words : List WordTokens) (key : LaneKey) (word : WordTokens) → AreKeys kind keys words → IsKeyedBy key (key_for kind word)
      → AreKeys kind (keys ++ key ∷ []) (words ++ word ∷ [])
  push [] [] key word are is = (is, tt)
  push [] (w ∷ words) key word are is = absurd are
  push (k ∷ keys) [] key word are is = absurd are
  push (k ∷ keys) (w ∷ words) key word are is = (are.0, push keys words key word are.1 is)

  -- the key of one word more
  pub keys_next : (keys : List LaneKey) (before words : List WordTokens) (key : LaneKey) (at : ℕ) (d : WordTokens) → at < length words
      → AreKeys kind keys (before ++ take at words) → IsKeyedBy key (key_for kind (get_or words at d)) → AreKeys kind (keys ++ key ∷ []) (before ++ take (at + 1) words)
  keys_next keys before words key at d within are is =
      let same : (before ++ take at words) ++ get_or words at d ∷ [] ≡ before ++ take (at + 1) words =
      append_assoc before (take at words) (get_or words at d ∷ []) ∙ ap (λ ws. before ++ ws) (sym (take_more words at d within)) in
      subst (AreKeys kind (keys ++ key ∷ [])) same (push keys (before ++ take at words) key (get_or words at d) are is)

  -- the key at a place
  pub key_in : (keys : List LaneKey) (words : List WordTokens) (at : ℕ) (e : LaneKey) (d : WordTokens) → AreKeys kind keys words → at < length keys
      → IsKeyedBy (get_or keys at e) (key_for kind (get_or words at d))
  key_in [] words at e d are within = absurd (omega arith)
  key_in (k ∷ keys) [] at e d are within = absurd are
  key_in (k ∷ keys) (w ∷ words) zero e d are within = are.0
  key_in (k ∷ keys) (w ∷ words) (suc at) e d are within = key_in keys words at e d are.1 (omega arith)

  pub keys_many : (keys : List LaneKey) (words : List WordTokens) → AreKeys kind keys words → length keys ≡ length words
  keys_many [] [] are = refl
  keys_many [] (w ∷ words) are = absurd are
  keys_many (k ∷ keys) [] are = absurd are
  keys_many (k ∷ keys) (w ∷ words) are = let rest = keys_many keys words are.1 in omega arith

-- the key of a row's word, whatever stands behind the lists
pub keyed_at : (keys : List LaneKey) (rows : List Row) (lane at : ℕ) (d row : Row) (e key : LaneKey) (bytes : List ℕ) → HaveWords (length keys) rows
    → at < length rows → lane ≡ at → IsKeyedBy (get_or keys (get_or rows lane d).word e) bytes → IsKeyedBy (get_or keys (get_or rows at row).word key) bytes
keyed_at keys rows lane at d row e key bytes known within same is =
    let there : get_or rows lane d ≡ get_or rows at row = ap (λ k. get_or rows k d) same ∙ get_or_default rows at d row within in
    let it : get_or keys (get_or rows lane d).word e ≡ get_or keys (get_or rows at row).word key =
    ap (λ (r : Row). get_or keys r.word e) there ∙ get_or_default keys (get_or rows at row).word e key (known at row within) in
    subst (λ k. IsKeyedBy k bytes) it is

-- sixteen more of a list
pub batch_more : {X : Type 0} (xs : List X) (i : ℕ) → take (16 * i) xs ++ take 16 (drop (16 * i) xs) ≡ take (16 * (i + 1)) xs
batch_more xs i =
    let more : 16 * (i + 1) ≡ 16 * i + 16 = omega arith in
    let front : take (16 * i) xs ≡ take (16 * i) (take (16 * i + 16) xs) = sym (take-take (16 * i) (16 * i + 16) xs (omega arith)) in
    (λ j. front j ++ sym (drop-take (16 * i) 16 xs) j) ∙ take-append-drop (16 * i) (take (16 * i + 16) xs) ∙ ap (λ n. take n xs) (sym more)

pub batch_behind : {X : Type 0} (xs : List X) (i : ℕ) → drop 16 (drop (16 * i) xs) ≡ drop (16 * (i + 1)) xs
batch_behind xs i =
    let more : 16 * i + 16 ≡ 16 * (i + 1) = omega arith in
    drop-drop 16 (16 * i) xs ∙ ap (λ n. drop n xs) more
