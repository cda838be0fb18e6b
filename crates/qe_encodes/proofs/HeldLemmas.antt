-- What a client sealed and the server enciphered decodes to the value that was sent.
use Rattle.std.proofs.Common.{◌≡◌, ℕ, List, ◌++◌, length, take, drop, refl, sym, ap, ◌∙◌, subst}
use Rattle.std.proofs.lemmas.List.{take_at, drop_at}
use Rattle.std.specs.Prelude.{Option}
use Rattle.qe_aes.specs.Laws.{IsBlock}
use Rattle.qe_seal.specs.Sealed.{Seals}
use Rattle.qe_seal.proofs.EncipheredLemmas.{deciphered-enciphered}
use Rattle.qe_value.specs.declared.value.Plain.{Plain}
use Rattle.qe_value.specs.Spelling.{IsAlone}
use Rattle.qe_field.specs.Values.{kind_of}
use Rattle.qe_parts.specs.declared.edges.EdgeTokens.{EdgeTokens}
use Rattle.qe_indexed.specs.declared.block.Block.{Block}
use Rattle.qe_indexed.specs.Spelling.{IsLaidOut}
use Rattle.qe_protocol.specs.Indexing.{indexed_value, nonce_at}
use Rattle.qe_labels.specs.Under.{Under, key_of}
use Rattle.qe_encodes.specs.Fields.{key_id_of}
use Rattle.qe_encodes.specs.Items.{bytes_of}
use Rattle.qe_encodes.specs.Meant.{IsSpelled}
use Rattle.qe_encodes.specs.Payloads.{Drawn, cipher_token, payload_of, seal_of}
use Rattle.qe_encodes.specs.Decodes.{HoldsValue, SealsBytes, user_value}

seals_it : (key id iv plain : List ℕ) → Seals key id iv plain (seal_of key id iv plain)
unfolding Seals
seals_it key id iv plain = refl

module _ (u : Under) (field : ℕ) (key_id : List ℕ) (value_kind : ℕ) (drawn : Drawn) (value : Plain) (edges : Option (List EdgeTokens))
    (id_is : key_id ≡ key_id_of u field) (id_long : length key_id ≡ 16) (drawn_iv : IsBlock drawn.value_iv)
    (kind : kind_of value ≡ value_kind) (spelled : IsSpelled value) where
  -- the sealed bytes alone
  abbrev seal : List ℕ
  seal = seal_of (key_of u field) key_id drawn.value_iv (bytes_of value)

  pub sent_holds : (nonces : List (List ℕ)) (blocks : List Block) (bytes : List ℕ) → length (nonce_at nonces 0) ≡ 16
      → IsLaidOut (indexed_value (payload_of u field key_id value_kind drawn (bytes_of value) edges) nonces blocks) bytes
      → HoldsValue u field bytes value
  sent_holds nonces blocks bytes nonce_long laid =
      let payload = payload_of u field key_id value_kind drawn (bytes_of value) edges in
      let opened : user_value u field (indexed_value payload nonces blocks) ≡ key_id ++ seal =
      deciphered-enciphered (cipher_token u field) (nonce_at nonces 0) (key_id ++ seal) nonce_long in
      let front : take 16 (user_value u field (indexed_value payload nonces blocks)) ≡ key_id = ap (take 16) opened ∙ take_at key_id seal 16 id_long in
      let behind : drop 16 (user_value u field (indexed_value payload nonces blocks)) ≡ seal = ap (drop 16) opened ∙ drop_at key_id seal 16 id_long in
      let seals : SealsBytes (key_of u field) key_id (bytes_of value) seal =
      record { iv = drawn.value_iv; iv_is = drawn_iv; are_bytes = spelled.bytes; seals = seals_it (key_of u field) key_id drawn.value_iv (bytes_of value) } in
      record {
        indexed = indexed_value payload nonces blocks;
        laid = laid;
        index_key = id_is;
        user_key = front ∙ id_is;
        plain_bytes = bytes_of value;
        sealed = subst (λ (x : List ℕ × List ℕ). SealsBytes (key_of u field) x.0 (bytes_of value) x.1) (λ i. (id_is i, sym behind i)) seals;
        is = subst (λ (n : ℕ). IsAlone n (bytes_of value) value) kind spelled.writable;
      }
