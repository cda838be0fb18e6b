-- Stored bytes are opened to a value exactly where they have it.
use Rattle.std.proofs.Common.{◌≡◌, ℕ, List, ◌++◌, length, take, drop, Option, None, Some, Result, Ok, refl, sym, ap, ◌∙◌, subst, arith}
use Rattle.std.specs.Prelude.{bytes_eq, option_map}
use Rattle.std.proofs.lemmas.List.{drop_at, take_at}
use Rattle.std.proofs.lemmas.Slice.Eq.{bytes_eq-Decides}
use Rattle.qe_base.specs.Bytes.{AreBytes}
use Rattle.qe_aes.proofs.ByteLemmas.{AreBytes-drop, AreBytes-take}
use Rattle.qe_seal.specs.Sealed.{opened_value}
use Rattle.qe_seal.proofs.SealLawLemmas.{Seals-opened_value, opened_value-Seals}
use Rattle.qe_value.specs.declared.value.Plain.{Plain}
use Rattle.qe_value.specs.Reading.{alone_at}
use Rattle.qe_value.specs.Spelling.{IsAlone}
use Rattle.qe_value.proofs.AloneLemmas.{alone_again, alone_takes}
use Rattle.qe_field.specs.declared.field.FieldKind.{FieldKind}
use Rattle.qe_field.specs.declared.field.FieldKind.TheVariants as k
use Rattle.qe_field.specs.Judgements.{bind, refuse_as}
use Rattle.qe_field.proofs.GaveLemmas.{gave, unwrapped}
use Rattle.qe_indexed.specs.declared.fault.IndexedFault.{IndexedFault}
use Rattle.qe_indexed.specs.Faults.{refusal_of, unless_refused}
use Rattle.qe_indexed.specs.Parts as parts
use Rattle.qe_indexed.specs.Reading.{indexed_at}
use Rattle.qe_indexed.specs.Spelling.{IsLaidOut, head_of, joined, written}
use Rattle.qe_indexed.proofs.LawLemmas.{found}
use Rattle.qe_indexed.proofs.ReadingLemmas.{parts_are}
use Rattle.qe_labels.specs.Under.{Under, key_of, root_of}
use Rattle.qe_encodes.specs.Decodes.{HoldsValue, SealsBytes, user_value}
use Rattle.qe_encodes.specs.Fields.{IsUnder, key_id_in, key_id_of, kind_at}
use Rattle.qe_encodes.proofs.DecodeLemmas.{key_bytes}
use Rattle.qe_opening.specs.declared.fault.ReadKind.TheVariants.{Indexed, KeyDiffers, Seal, Bson}
use Rattle.qe_opening.specs.Keys.{field_key, key_id_if, key_in}
use Rattle.qe_opening.specs.Opening.{value_in, value_indexed, value_sealed, value_sent, value_with}
use Rattle.qe_opening.proofs.ByteLemmas.{AreBytes-counter_mode, AreBytes-opened, AreBytes-prf1}
use Rattle.qe_opening.proofs.TestLemmas.{passed}

-- ---- indexed values

none_refused : {A : Type 0} (refused : Option IndexedFault) (answer x : A) → unless_refused refused answer ≡ Ok x → refused ≡ None
none_refused None answer x is = refl
none_refused (Some fault) answer x is = cc

-- bytes that are read as an indexed value are laid out as it
laid_out : (bytes : List ℕ) (indexed : parts.Indexed) → AreBytes bytes → indexed_at bytes ≡ Ok indexed → IsLaidOut indexed bytes
unfolding indexed_at
laid_out bytes indexed are is =
    let there = found bytes are (none_refused (refusal_of bytes) _ indexed is) in
    let same : Ok there.0 ≡ Ok indexed = sym (parts_are there.0 bytes there.1) ∙ is in
    let value : there.0 ≡ indexed = cc in
    subst (λ (it : parts.Indexed). IsLaidOut it bytes) value there.1

-- the bytes between others
AreBytes-mid : (front mid back : List ℕ) → AreBytes (front ++ (mid ++ back)) → AreBytes mid
AreBytes-mid front mid back are =
    let rest : AreBytes (mid ++ back) = subst AreBytes (drop_at front (mid ++ back) (length front) refl) (AreBytes-drop (length front) (front ++ (mid ++ back)) are) in
    subst AreBytes (take_at mid back (length mid) refl) (AreBytes-take (length mid) (mid ++ back) rest)

server_bytes : (indexed : parts.Indexed) (bytes : List ℕ) → AreBytes bytes → IsLaidOut indexed bytes → AreBytes indexed.server_value
unfolding written
server_bytes indexed bytes are laid =
    AreBytes-mid (head_of indexed.range indexed.key_id indexed.value_kind (length indexed.blocks)) indexed.server_value (joined indexed.blocks)
    (subst AreBytes laid.bytes_are are)

-- ---- sealed bytes

module _ (key id : List ℕ) (is_key : AreBytes key) where
  -- sealed bytes hold a value of a type
  record HoldsSealed (kind : ℕ) (sealed : List ℕ) (value : Plain) : Type 0 where
    plain_bytes : List ℕ
    seals : SealsBytes key id plain_bytes sealed
    is : IsAlone kind plain_bytes value

  sealed_to : (kind : ℕ) (sealed : List ℕ) (value : Plain) → AreBytes sealed → value_sealed (field_key key id) kind sealed ≡ Ok value → HoldsSealed kind sealed value
  sealed_to kind sealed value are is =
      let steps = gave (refuse_as Seal (opened_value key id sealed)) (λ bytes. refuse_as Bson (alone_at kind bytes)) value is in
      let opens : opened_value key id sealed ≡ Ok steps.value = unwrapped Seal (opened_value key id sealed) steps.value steps.found in
      let are_plain : AreBytes steps.value = AreBytes-opened key id sealed steps.value is_key are opens in
      let seals = Seals-opened_value key id steps.value sealed is_key are opens in
      record {
        plain_bytes = steps.value;
        seals = record { iv = seals.0; iv_is = seals.1; are_bytes = are_plain; seals = seals.2 };
        is = alone_takes kind steps.value value are_plain (unwrapped Bson (alone_at kind steps.value) value steps.then_is);
      }

  sealed_from : (kind : ℕ) (sealed : List ℕ) (value : Plain) → HoldsSealed kind sealed value → value_sealed (field_key key id) kind sealed ≡ Ok value
  sealed_from kind sealed value holds =
      let it = holds.seals in
      let opens : opened_value key id sealed ≡ Ok holds.plain_bytes = opened_value-Seals key id it.iv holds.plain_bytes sealed is_key it.iv_is it.are_bytes it.seals in
      ap (λ (r : Result (List ℕ) _). bind (refuse_as Seal r) (λ bytes. refuse_as Bson (alone_at kind bytes))) opens
      ∙ ap (refuse_as Bson) (alone_again kind holds.plain_bytes value holds.is)

  -- what was sent begins with the key's id
  record HoldsSent (kind : ℕ) (sent : List ℕ) (value : Plain) : Type 0 where
    user_key : take 16 sent ≡ id
    sealed : HoldsSealed kind (drop 16 sent) value

  sent_to : (kind : ℕ) (sent : List ℕ) (value : Plain) → AreBytes sent → value_sent (field_key key id) kind sent ≡ Ok value → HoldsSent kind sent value
  unfolding value_sent
  sent_to kind sent value are is =
      let tested = passed (bytes_eq (take 16 sent) id) KeyDiffers (value_sealed (field_key key id) kind (drop 16 sent)) value is in
      record {
        user_key = (bytes_eq-Decides (take 16 sent) id).0 tested.0;
        sealed = sealed_to kind (drop 16 sent) value (AreBytes-drop 16 sent are) tested.1;
      }

  sent_from : (kind : ℕ) (sent : List ℕ) (value : Plain) → HoldsSent kind sent value → value_sent (field_key key id) kind sent ≡ Ok value
  unfolding value_sent
  sent_from kind sent value holds = rw ((bytes_eq-Decides (take 16 sent) id).1 holds.user_key) (sealed_from kind (drop 16 sent) value holds.sealed)

-- ---- stored bytes

id_there : (kind : FieldKind) (id : List ℕ) → key_id_if kind ≡ Some id → id ≡ key_id_in kind
id_there k.Plain id is = cc
id_there (k.Equality key_id _ _ _) id is = cc
id_there (k.Range key_id _ _ _ _) id is = cc

-- an id of 16 bytes is an encrypted field's
id_known : (kind : FieldKind) → length (key_id_in kind) ≡ 16 → key_id_if kind ≡ Some (key_id_in kind)
id_known k.Plain long = absurd (omega arith)
id_known (k.Equality key_id _ _ _) long = refl
id_known (k.Range key_id _ _ _ _) long = refl

module _ (u : Under) (is : IsUnder u) (field : ℕ) where
  abbrev key : List ℕ
  key = key_of u field

  user_bytes : (indexed : parts.Indexed) → AreBytes indexed.server_value → AreBytes (user_value u field indexed)
  user_bytes indexed are =
      AreBytes-counter_mode _ (take 16 indexed.server_value) (drop 16 indexed.server_value) (AreBytes-prf1 (root_of u field) 3) (AreBytes-drop 16 indexed.server_value are)

  indexed_to : (indexed : parts.Indexed) (bytes : List ℕ) (value : Plain) → AreBytes bytes → IsLaidOut indexed bytes
      → value_indexed (field_key key (key_id_of u field)) indexed ≡ Ok value → HoldsValue u field bytes value
  unfolding value_indexed root_of
  indexed_to indexed bytes value are laid is_value =
      let id = key_id_of u field in
      let sent = user_value u field indexed in
      let tested = passed (bytes_eq indexed.key_id id) KeyDiffers (value_sent (field_key key id) indexed.value_kind sent) value is_value in
      let holds = sent_to key id (key_bytes u is field) indexed.value_kind sent value (user_bytes indexed (server_bytes indexed bytes are laid)) tested.1 in
      record {
        indexed = indexed;
        laid = laid;
        index_key = (bytes_eq-Decides indexed.key_id id).0 tested.0;
        user_key = holds.user_key;
        plain_bytes = holds.sealed.plain_bytes;
        sealed = holds.sealed.seals;
        is = holds.sealed.is;
      }

  opened_to : (bytes : List ℕ) (value : Plain) → AreBytes bytes → (o : Option (List ℕ)) → key_id_if (kind_at u.schema field) ≡ o
      → value_in (option_map (field_key key) o) bytes ≡ Ok value → HoldsValue u field bytes value
  unfolding value_in
  opened_to bytes value are None none is_none =
      let steps = gave (refuse_as Indexed (indexed_at bytes)) (value_with None) value is_none in
      let never = steps.then_is in
      absurd (cc)
  opened_to bytes value are (Some id) some is_some =
      let steps = gave (refuse_as Indexed (indexed_at bytes)) (value_with (Some (field_key key id))) value is_some in
      let laid = laid_out bytes steps.value are (unwrapped Indexed (indexed_at bytes) steps.value steps.found) in
      indexed_to steps.value bytes value are laid
      (subst (λ (x : List ℕ). value_indexed (field_key key x) steps.value ≡ Ok value) (id_there (kind_at u.schema field) id some) steps.then_is)

  -- what is opened is held
  pub value_to : (bytes : List ℕ) (value : Plain) → AreBytes bytes → value_in (key_in key (kind_at u.schema field)) bytes ≡ Ok value → HoldsValue u field bytes value
  value_to bytes value are is_value = opened_to bytes value are (key_id_if (kind_at u.schema field)) refl is_value

  indexed_from : (bytes : List ℕ) (value : Plain) (holds : HoldsValue u field bytes value)
      → value_indexed (field_key key (key_id_of u field)) holds.indexed ≡ Ok value
  unfolding value_indexed root_of
  indexed_from bytes value holds =
      let id = key_id_of u field in
      rw ((bytes_eq-Decides holds.indexed.key_id id).1 holds.index_key)
      (sent_from key id (key_bytes u is field) holds.indexed.value_kind (user_value u field holds.indexed) value
      (record { user_key = holds.user_key; sealed = record { plain_bytes = holds.plain_bytes; seals = holds.sealed; is = holds.is } }))

  -- what is held is opened
  pub value_from : (bytes : List ℕ) (value : Plain) → HoldsValue u field bytes value → value_in (key_in key (kind_at u.schema field)) bytes ≡ Ok value
  unfolding value_in
  value_from bytes value holds =
      let id = key_id_of u field in
      let long : length id ≡ 16 = ap length (sym holds.index_key) ∙ holds.laid.key_id_long in
      ap (λ (o : Option (List ℕ)). value_in (option_map (field_key key) o) bytes) (id_known (kind_at u.schema field) long)
      ∙ ap (λ (r : Result parts.Indexed IndexedFault). bind (refuse_as Indexed r) (value_with (Some (field_key key id)))) (parts_are holds.indexed bytes holds.laid)
      ∙ indexed_from bytes value holds
