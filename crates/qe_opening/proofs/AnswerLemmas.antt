-- Replies that are read are those that mean something.
use Rattle.std.proofs.Common.{◌≡◌, ℕ, List, [], ◌∷◌, Option, Result, Ok, Err, refl, sym, ap, ◌∙◌, subst}
use Rattle.std.specs.Prelude.{map}
use Rattle.std.specs.List.{AllByRecursion, AllZip}
use Rattle.qe_field.specs.Judgements.{bind}
use Rattle.qe_field.proofs.GaveLemmas.{gave}
use Rattle.qe_value.specs.declared.value.Plain.{Plain}
use Rattle.qe_value.specs.Views.{plain}
use Rattle.qe_plain.specs.declared.command.PlainCell.{PlainCell}
use Rattle.qe_plain.specs.declared.command.PlainDocument.{PlainDocument}
use Rattle.qe_plain.specs.declared.command.PlainReply.{PlainReply}
use Rattle.qe_plain.specs.declared.command.PlainReply.TheVariants as p
use Rattle.qe_store.specs.declared.stored.Cell.{Cell}
use Rattle.qe_store.specs.declared.stored.Cell.TheVariants as kept
use Rattle.qe_protocol.specs.declared.reply.Reply.{Reply}
use Rattle.qe_protocol.specs.declared.reply.Reply.TheVariants as r
use Rattle.qe_protocol.specs.declared.row.Row.{Row}
use Rattle.qe_labels.specs.Under.{Under}
use Rattle.qe_encodes.specs.Decodes.{CellValue, Decodes, DecodesCell}
use Rattle.qe_encodes.specs.Fields.{IsUnder}
use Rattle.qe_encodes.specs.Replies.{Answers}
use Rattle.qe_opening.specs.declared.fault.ReadFault.{ReadFault}
use Rattle.qe_opening.specs.declared.fault.ReadKind.{ReadKind}
use Rattle.qe_opening.specs.declared.keys.FieldKey.{FieldKey}
use Rattle.qe_opening.specs.Answer.{answer_of, cell_of, cells_of, document_of, documents_of, each_of, in_field, value_of}
use Rattle.qe_opening.specs.Keys.{opening_keys}
use Rattle.qe_opening.specs.Opening.{value_in}
use Rattle.qe_opening.specs.Laws.{IsOfBytes, IsReplyOfBytes, IsRowOfBytes, read_as}
use Rattle.qe_opening.proofs.KeyLemmas.{key_at-opening_keys}
use Rattle.qe_opening.proofs.OpeningLemmas.{value_from, value_to}

-- ---- lists

-- each item was read, one after another
each_to : {A B : Type 0} (read : A → Result B ReadFault) (P : A → Type 0) (R : A → B → Type 0) → ((x : A) (y : B) → P x → read x ≡ Ok y → R x y)
    → (xs : List A) (ys : List B) → AllByRecursion P xs → each_of read xs ≡ Ok ys → AllZip R xs ys
each_to read P R one [] [] are is = tt
each_to read P R one [] (y ∷ ys) are is = absurd (cc)
each_to read P R one (x ∷ xs) ys are is =
    let first = gave (read x) (λ y. bind (each_of read xs) (λ zs. Ok (y ∷ zs))) ys is in
    let rest = gave (each_of read xs) (λ zs. Ok (first.value ∷ zs)) ys first.then_is in
    let last = rest.then_is in
    let all : first.value ∷ rest.value ≡ ys = cc in
    subst (AllZip R (x ∷ xs)) all (one x first.value are.0 first.found, each_to read P R one xs rest.value are.1 rest.found)

each_from : {A B : Type 0} (read : A → Result B ReadFault) (R : A → B → Type 0) → ((x : A) (y : B) → R x y → read x ≡ Ok y)
    → (xs : List A) (ys : List B) → AllZip R xs ys → each_of read xs ≡ Ok ys
each_from read R one [] [] zip = refl
each_from read R one [] (y ∷ ys) zip = absurd zip
each_from read R one (x ∷ xs) [] zip = absurd zip
each_from read R one (x ∷ xs) (y ∷ ys) zip = rw (one x y zip.0, each_from read R one xs ys zip.1)

-- ---- cells, documents and replies

in_field_to : (field : ℕ) (value : Result Plain ReadKind) (cell : PlainCell) → in_field field value ≡ Ok cell → (cell.field ≡ field) × (value ≡ Ok cell.value)
in_field_to field (Ok value) cell is =
    let same : record { field = field; value = value } ≡ cell = cc in
    (ap (λ (it : PlainCell). it.field) (sym same), ap (λ (it : PlainCell). Ok it.value) same)
in_field_to field (Err kind) cell is = absurd (cc)

-- a document of these cells
abbrev made : List PlainCell → Plain → Result PlainDocument ReadFault
made cells id = Ok (record { id = id; cells = cells })

module _ (u : Under) (is : IsUnder u) where
  abbrev keys : List (Option FieldKey)
  keys = opening_keys u

  value_of_to : (field : ℕ) (cell : Cell) (value : Plain) → IsOfBytes cell → value_of keys field cell ≡ Ok value → CellValue u field cell value
  value_of_to field (kept.Plain stored) value are is_value = cc
  value_of_to field (kept.Indexed bytes) value are is_value =
      value_to u is field bytes value are (ap (λ (key : Option FieldKey). value_in key bytes) (sym (key_at-opening_keys u field)) ∙ is_value)

  value_of_from : (field : ℕ) (cell : Cell) (value : Plain) → CellValue u field cell value → value_of keys field cell ≡ Ok value
  value_of_from field (kept.Plain stored) value holds = ap Ok (sym holds)
  value_of_from field (kept.Indexed bytes) value holds = ap (λ (key : Option FieldKey). value_in key bytes) (key_at-opening_keys u field) ∙ value_from u is field bytes value holds

  cell_to : (cell : ℕ × Cell) (to : PlainCell) → IsOfBytes cell.1 → cell_of keys cell ≡ Ok to → DecodesCell u cell to
  cell_to cell to are is_cell =
      let parts = in_field_to cell.0 (value_of keys cell.0 cell.1) to is_cell in
      record { field = parts.0; value = value_of_to cell.0 cell.1 to.value are parts.1 }

  cell_from : (cell : ℕ × Cell) (to : PlainCell) → DecodesCell u cell to → cell_of keys cell ≡ Ok to
  cell_from cell to decodes =
      ap (in_field cell.0) (value_of_from cell.0 cell.1 to.value decodes.value) ∙ ap (λ (n : ℕ). in_field n (Ok to.value)) (sym decodes.field)

  document_to : (row : Row) (document : PlainDocument) → IsRowOfBytes row → document_of keys row ≡ Ok document → Decodes u row document
  document_to row document are is_document =
      let steps = gave (cells_of keys row.cells) (λ (cells : List PlainCell). made cells (plain row.id)) document is_document in
      let last = steps.then_is in
      let same : record { id = plain row.id; cells = steps.value } ≡ document = cc in
      let decodes = each_to (cell_of keys) (λ (cell : ℕ × Cell). IsOfBytes cell.1) (DecodesCell u) cell_to row.cells steps.value are steps.found in
      record {
        id = ap (λ (it : PlainDocument). it.id) (sym same);
        cells = subst (AllZip (DecodesCell u) row.cells) (ap (λ (it : PlainDocument). it.cells) same) decodes;
      }

  document_from : (row : Row) (document : PlainDocument) → Decodes u row document → document_of keys row ≡ Ok document
  document_from row document decodes =
      ap (λ (cells : Result (List PlainCell) ReadFault). bind cells (λ them. made them (plain row.id)))
      (each_from (cell_of keys) (DecodesCell u) cell_from row.cells document.cells decodes.cells)
      ∙ ap (made document.cells) (sym decodes.id)

  -- what is read is what the reply means
  pub answer_to : (reply : Reply) (answer : PlainReply) → IsReplyOfBytes reply → answer_of u reply ≡ Ok answer → Answers u reply answer
  answer_to (r.Found rows) answer are is_answer =
      let steps = gave (documents_of keys rows) (λ documents. Ok (p.Found documents)) answer is_answer in
      let last = steps.then_is in
      record {
        documents = steps.value;
        decode = each_to (document_of keys) IsRowOfBytes (Decodes u) document_to rows steps.value are steps.found;
        is = cc;
      }
  answer_to r.Inserted answer are is_answer = cc
  answer_to r.DuplicateId answer are is_answer = cc
  answer_to (r.Updated count) answer are is_answer = cc
  answer_to (r.Deleted count) answer are is_answer = cc
  answer_to (r.Ids ids) answer are is_answer = cc
  answer_to (r.Begun job) answer are is_answer = cc
  answer_to (r.Stepped left) answer are is_answer = cc
  answer_to (r.Ended leaves) answer are is_answer = cc
  answer_to r.Abandoned answer are is_answer = cc
  answer_to (r.JobRunning job) answer are is_answer = cc
  answer_to (r.NoJob asked running) answer are is_answer = cc
  answer_to (r.TokenMissing field) answer are is_answer = cc
  answer_to (r.TokenMismatch field) answer are is_answer = cc
  answer_to (r.NotDone left) answer are is_answer = cc
  answer_to (r.Raised to) answer are is_answer = cc
  answer_to (r.NotRaised asked current) answer are is_answer = cc
  answer_to (r.ContentionBelow field got current) answer are is_answer = cc
  answer_to (r.ContentionOver field got current) answer are is_answer = cc

  -- what it means is read
  pub answer_from : (reply : Reply) (answer : PlainReply) → Answers u reply answer → answer_of u reply ≡ Ok answer
  answer_from (r.Found rows) answer means =
      ap (λ (found : Result (List PlainDocument) ReadFault). bind found (λ documents. Ok (p.Found documents)))
      (each_from (document_of keys) (Decodes u) document_from rows means.documents means.decode)
      ∙ ap Ok (sym means.is)
  answer_from r.Inserted answer means = ap Ok (sym means)
  answer_from r.DuplicateId answer means = ap Ok (sym means)
  answer_from (r.Updated count) answer means = ap Ok (sym means)
  answer_from (r.Deleted count) answer means = ap Ok (sym means)
  answer_from (r.Ids ids) answer means = ap Ok (sym means)
  answer_from (r.Begun job) answer means = ap Ok (sym means)
  answer_from (r.Stepped left) answer means = ap Ok (sym means)
  answer_from (r.Ended leaves) answer means = ap Ok (sym means)
  answer_from r.Abandoned answer means = ap Ok (sym means)
  answer_from (r.JobRunning job) answer means = ap Ok (sym means)
  answer_from (r.NoJob asked running) answer means = ap Ok (sym means)
  answer_from (r.TokenMissing field) answer means = ap Ok (sym means)
  answer_from (r.TokenMismatch field) answer means = ap Ok (sym means)
  answer_from (r.NotDone left) answer means = ap Ok (sym means)
  answer_from (r.Raised to) answer means = ap Ok (sym means)
  answer_from (r.NotRaised asked current) answer means = ap Ok (sym means)
  answer_from (r.ContentionBelow field got current) answer means = ap Ok (sym means)
  answer_from (r.ContentionOver field got current) answer means = ap Ok (sym means)

  pub answers_from : (replies : List Reply) (answers : List PlainReply) → AllZip (Answers u) replies answers → map (answer_of u) replies ≡ map read_as answers
  answers_from [] [] zip = refl
  answers_from [] (answer ∷ answers) zip = absurd zip
  answers_from (reply ∷ replies) [] zip = absurd zip
  answers_from (reply ∷ replies) (answer ∷ answers) zip = λ i. answer_from reply answer zip.0 i ∷ answers_from replies answers zip.1 i
