-- A stored document decodes to one plain document at most, and a reply means one plain reply at most.
use Rattle.std.proofs.Common.{◌≡◌, ℕ, List, [], ◌∷◌, length, drop, Ok, refl, sym, ap, ◌∙◌, subst, inl, inr}
use Rattle.std.proofs.lemmas.Bool.{cases_lt}
use Rattle.std.proofs.lemmas.List.{get_or_past}
use Rattle.std.specs.List.{AllZip}
use Rattle.std.specs.Prelude.{take}
use Rattle.qe_base.specs.Bytes.{AreBytes}
use Rattle.qe_aes.proofs.ByteLemmas.{AreBytes-nil}
use Rattle.qe_seal.specs.Sealed.{opened_value}
use Rattle.qe_seal.proofs.SealLawLemmas.{opened_value-Seals}
use Rattle.qe_value.specs.declared.value.Plain.{Plain}
use Rattle.qe_value.specs.Spelling.{IsAlone}
use Rattle.qe_value.proofs.AloneLemmas.{alone_one}
use Rattle.qe_field.specs.Lookup.{encrypted_numbers}
use Rattle.qe_indexed.specs.Parts.{Indexed}
use Rattle.qe_indexed.proofs.SpellingLemmas.{IsLaidOut-one}
use Rattle.qe_plain.specs.declared.command.PlainCell.{PlainCell}
use Rattle.qe_plain.specs.declared.command.PlainDocument.{PlainDocument}
use Rattle.qe_plain.specs.declared.command.PlainReply.{PlainReply}
use Rattle.qe_plain.specs.declared.command.PlainReply.TheVariants as p
use Rattle.qe_store.specs.declared.stored.Cell.{Cell}
use Rattle.qe_store.specs.declared.stored.Cell.TheVariants as kept
use Rattle.qe_protocol.specs.declared.reply.Reply.{Reply}
use Rattle.qe_protocol.specs.declared.reply.Reply.TheVariants as r
use Rattle.qe_protocol.specs.declared.row.Row.{Row}
use Rattle.qe_labels.specs.Under.{Under, key_of}
use Rattle.qe_encodes.specs.Fields.{IsUnder, key_id_of}
use Rattle.qe_encodes.specs.Decodes.{CellValue, Decodes, DecodesCell, HoldsValue, SealsBytes, user_value}
use Rattle.qe_encodes.specs.Laws.{MeansOne}
use Rattle.qe_encodes.specs.Replies.{Answers, AnswersFound}

-- one list at most is zipped to another, where one item at most is to another
pub zip_one : {A B : Type 0} (R : A → B → Type 0) → ((x : A) (y z : B) → R x y → R x z → y ≡ z)
    → (xs : List A) (ys zs : List B) → AllZip R xs ys → AllZip R xs zs → ys ≡ zs
zip_one R one [] [] [] a b = refl
zip_one R one [] [] (z ∷ zs) a b = absurd b
zip_one R one [] (y ∷ ys) zs a b = absurd a
zip_one R one (x ∷ xs) [] zs a b = absurd a
zip_one R one (x ∷ xs) (y ∷ ys) [] a b = absurd b
zip_one R one (x ∷ xs) (y ∷ ys) (z ∷ zs) a b = λ i. one x y z a.0 b.0 i ∷ zip_one R one xs ys zs a.1 b.1 i

-- bytes seal one list at most under a key and its id
seals_one : (key id a b bytes : List ℕ) → AreBytes key → SealsBytes key id a bytes → SealsBytes key id b bytes → a ≡ b
seals_one key id a b bytes key_bytes one other =
    let opens : opened_value key id bytes ≡ Ok a = opened_value-Seals key id one.iv a bytes key_bytes one.iv_is one.are_bytes one.seals in
    let also : opened_value key id bytes ≡ Ok b = opened_value-Seals key id other.iv b bytes key_bytes other.iv_is other.are_bytes other.seals in
    cc

-- the place of a field's key
abbrev key_place : Under → ℕ → ℕ
key_place u field = length (encrypted_numbers (take field u.schema))

module _ (u : Under) (is : IsUnder u) where
  pub key_bytes : (field : ℕ) → AreBytes (key_of u field)
  key_bytes field =
      elim (cases_lt (key_place u field) (length u.keys)) [
        | inl within ↦ (is.keys (key_place u field) [] within).bytes
        | inr beyond ↦ subst AreBytes (sym (get_or_past u.keys (key_place u field) [] beyond)) AreBytes-nil
      ]

  -- bytes have one value at most
  holds_one : (field : ℕ) (bytes : List ℕ) (a b : Plain) → HoldsValue u field bytes a → HoldsValue u field bytes b → a ≡ b
  holds_one field bytes a b one other =
      let indexed_same : other.indexed ≡ one.indexed = IsLaidOut-one other.indexed one.indexed bytes other.laid one.laid in
      let other_sealed : SealsBytes (key_of u field) (key_id_of u field) other.plain_bytes (drop 16 (user_value u field one.indexed)) =
      subst (λ (x : Indexed). SealsBytes (key_of u field) (key_id_of u field) other.plain_bytes (drop 16 (user_value u field x))) indexed_same other.sealed in
      let bytes_same : other.plain_bytes ≡ one.plain_bytes =
      seals_one (key_of u field) (key_id_of u field) other.plain_bytes one.plain_bytes _ (key_bytes field) other_sealed one.sealed in
      let other_is : IsAlone one.indexed.value_kind one.plain_bytes b =
      subst (λ (x : Indexed × List ℕ). IsAlone x.0.value_kind x.1 b) (λ i. (indexed_same i, bytes_same i)) other.is in
      alone_one one.indexed.value_kind one.plain_bytes a b one.is other_is

  value_one : (field : ℕ) (cell : Cell) (a b : Plain) → CellValue u field cell a → CellValue u field cell b → a ≡ b
  value_one field (kept.Plain stored) a b one other = one ∙ sym other
  value_one field (kept.Indexed bytes) a b one other = holds_one field bytes a b one other

  cell_one : (cell : ℕ × Cell) (a b : PlainCell) → DecodesCell u cell a → DecodesCell u cell b → a ≡ b
  cell_one cell a b one other =
      let field : a.field ≡ b.field = one.field ∙ sym other.field in
      let value : a.value ≡ b.value = value_one cell.0 cell.1 a.value b.value one.value other.value in
      λ i. record { field = field i; value = value i }

  pub decodes_one : (row : Row) (a b : PlainDocument) → Decodes u row a → Decodes u row b → a ≡ b
  decodes_one row a b one other =
      let id : a.id ≡ b.id = one.id ∙ sym other.id in
      let cells : a.cells ≡ b.cells = zip_one (DecodesCell u) cell_one row.cells a.cells b.cells one.cells other.cells in
      λ i. record { id = id i; cells = cells i }

  found_one : (rows : List Row) (a b : PlainReply) → AnswersFound u rows a → AnswersFound u rows b → a ≡ b
  found_one rows a b one other =
      one.is ∙ ap p.Found (zip_one (Decodes u) decodes_one rows one.documents other.documents one.decode other.decode) ∙ sym other.is

  -- a reply means one plain reply at most
  pub answers_one : (reply : Reply) (a b : PlainReply) → Answers u reply a → Answers u reply b → a ≡ b
  answers_one (r.Found rows) a b one other = found_one rows a b one other
  answers_one r.Inserted a b one other = one ∙ sym other
  answers_one r.DuplicateId a b one other = one ∙ sym other
  answers_one (r.Updated count) a b one other = one ∙ sym other
  answers_one (r.Deleted count) a b one other = one ∙ sym other
  answers_one (r.Ids ids) a b one other = one ∙ sym other
  answers_one (r.Begun job) a b one other = one ∙ sym other
  answers_one (r.Stepped left) a b one other = one ∙ sym other
  answers_one (r.Ended leaves) a b one other = one ∙ sym other
  answers_one r.Abandoned a b one other = one ∙ sym other
  answers_one (r.JobRunning job) a b one other = one ∙ sym other
  answers_one (r.NoJob asked running) a b one other = one ∙ sym other
  answers_one (r.TokenMissing field) a b one other = one ∙ sym other
  answers_one (r.TokenMismatch field) a b one other = one ∙ sym other
  answers_one (r.NotDone left) a b one other = one ∙ sym other
  answers_one (r.Raised to) a b one other = one ∙ sym other
  answers_one (r.NotRaised asked current) a b one other = one ∙ sym other
  answers_one (r.ContentionBelow field got current) a b one other = one ∙ sym other
  answers_one (r.ContentionOver field got current) a b one other = one ∙ sym other

pub means_one : (u : Under) → IsUnder u → MeansOne u
means_one u is = record { document = decodes_one u is; reply = answers_one u is }
