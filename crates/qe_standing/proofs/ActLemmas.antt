-- Commands on documents: the relation stands after each, and the reply is the plain one.
use Rattle.std.proofs.Common.{◌≡◌, ◌≤◌, ℕ, List, [], ◌∷◌, ◌++◌, length, Bool, true, false, None, if◌then◌else◌, refl, sym, ap, subst, arith}
use Rattle.std.specs.Prelude.{filter}
use Rattle.std.specs.Bool.{MatchBool}
use Rattle.std.specs.List.{AllByRecursion, list_any}
use Rattle.std.proofs.Common.{inl, inr}
use Rattle.std.proofs.lemmas.Bool.{cases_Bool}
use Rattle.std.proofs.lemmas.List.Elements.{All-cons, All-nil}
use Rattle.qe_base.specs.declared.maintenance.Count.{Count}
use Rattle.qe_tokens.specs.declared.words.Word.{Word}
use Rattle.qe_field.specs.Values.{is_id}
use Rattle.qe_plain.specs.Collection.{IsPlainCollection, IsPlainDocument, count_first, has_id, on_first, with_set}
use Rattle.qe_plain.specs.Collection as plainly
use Rattle.qe_plain.specs.Laws.{StepsKeepCollections}
use Rattle.qe_plain.specs.declared.command.PlainCell.{PlainCell}
use Rattle.qe_plain.specs.declared.command.PlainCommand.TheVariants as plain
use Rattle.qe_plain.specs.declared.command.PlainDocument.{PlainDocument}
use Rattle.qe_plain.specs.declared.command.PlainReply.{PlainReply}
use Rattle.qe_plain.specs.declared.command.PlainReply.TheVariants as p
use Rattle.qe_plain.specs.declared.command.Term.{Term}
use Rattle.qe_schema.specs.Resolved.{IsTerm}
use Rattle.qe_store.specs.declared.stored.Stored.{Stored}
use Rattle.qe_store.specs.declared.stored.TermSet.{TermSet}
use Rattle.qe_command.specs.declared.cells.SentCell.{SentCell}
use Rattle.qe_command.specs.Nonces.{cells_nonces}
use Rattle.qe_command_document.specs.Values.{value_of}
use Rattle.qe_protocol.specs.declared.reply.Outcome.{Outcome}
use Rattle.qe_protocol.specs.declared.reply.Reply.TheVariants as r
use Rattle.qe_protocol.specs.Contention.{filter_below}
use Rattle.qe_protocol.specs.Documents.{document_of, has_document, with_cells}
use Rattle.qe_protocol.specs.Filters.{AllowedTerms, filter_rest, matches}
use Rattle.qe_protocol.specs.Indexing.{AllowedCells, CellsDone, index_cells}
use Rattle.qe_protocol.specs.Laws.{AreLong}
use Rattle.qe_protocol.specs.Next.{AllowedInsert, delete_step, deleted, find_reply, find_step, insert_step, inserted, outcome_of, sets_for, update_step, updated}
use Rattle.qe_protocol.specs.State.{State, answered}
use Rattle.qe_labels.specs.Laws.{IsFree}
use Rattle.qe_labels.specs.Numbers.{Later, Numbers, all_learned, all_raised}
use Rattle.qe_labels.specs.Under.{Under, root_of}
use Rattle.qe_labels.proofs.NumberLemmas.{later_all_learned, later_all_raised}
use Rattle.qe_relation.proofs.FreeLemmas.{number_is}
use Rattle.qe_relation.proofs.IndexLemmas.{all_learned_stand}
use Rattle.qe_encodes.specs.Callers.{Contentions}
use Rattle.qe_encodes.specs.Fields.{IsUnder}
use Rattle.qe_encodes.specs.Laws.{EdgeLaws}
use Rattle.qe_encodes.specs.Meant.{IsSpelled, IsSpelledTerm}
use Rattle.qe_encodes.specs.Payloads.{sent_filter}
use Rattle.qe_encodes.specs.Replies.{Answers}
use Rattle.qe_encodes.specs.Counted.{is_accepted}
use Rattle.qe_encodes.specs.Words.{cells_words, terms_words}
use Rattle.qe_standing.specs.Standing.{StandDocuments, StandsDocument}
use Rattle.qe_standing.specs.Stands.{Acted, Stands}
use Rattle.qe_standing.specs.Laws.{AreMeant, AllKnown}
use Rattle.qe_standing.proofs.CellsLemmas.{cells_decode, cells_kept}
use Rattle.qe_standing.proofs.DocumentLemmas.{documents_later, found_decode, id_there, ids_decode, new_stands, set_stands, document_later}
use Rattle.qe_standing.proofs.MatchLemmas.{terms_hold}
use Rattle.qe_standing.proofs.NumberLemmas.{IsWithin, limited_all_learned, limited_all_raised}
use Rattle.qe_standing.proofs.ZipLemmas.{any_same, change_zip, drop_zip, filter_zip, zip_push}

-- what holds of two tests alike
both_tests : (P : Bool → Bool → Type 0) → P true true → P false false → (b c : Bool) → b ≡ c → P b c
both_tests P first second true true same = first
both_tests P first second false false same = second
both_tests P first second true false same = cc
both_tests P first second false true same = cc

-- without a match nothing is changed
none_first : (test : PlainDocument → Bool) (change : PlainDocument → List PlainDocument) (documents : List PlainDocument) → list_any test documents ≡ false
    → on_first test change documents ≡ documents
none_first test change [] none = refl
none_first test change (document ∷ documents) none =
    elim (cases_Bool (test document)) [
      | inl sure ↦ let there : true ≡ false = rw sure at none in cc
      | inr failed ↦ rw failed (ap (λ rest. document ∷ rest) (none_first test change documents (rw failed at none)))
    ]

-- the words of values that were stored count once more
abbrev pub raised_if : Outcome → Numbers → List Word → Numbers
raised_if outcome numbers words = if is_accepted outcome then all_raised numbers words else numbers

module _ (u : Under) (is : IsUnder u) (state : State) (documents : List PlainDocument) where
  -- words that are looked for become known
  pub learned_stand : (numbers : Numbers) (words : List Word) → IsFree (root_of u) (all_learned numbers words) → Stands u numbers state documents
      → Stands u (all_learned numbers words) state documents
  learned_stand numbers words free stands = record {
    index = all_learned_stand (root_of u) state.index.rows state.index.ecoc state.jobs.aside state.jobs.captured state.jobs.doomed words numbers free stands.index;
    docs = documents_later u numbers (all_learned numbers words) (later_all_learned words numbers) state.docs documents stands.docs;
    limited = limited_all_learned state.current words numbers stands.limited;
  }

  module _ (leaves : Bool) (contentions : Contentions) (numbers : Numbers) (stands : Stands u numbers state documents) where
    -- ---- insert
    module _ (document : PlainDocument) (sents : List (ℕ × SentCell)) (are : AreMeant u leaves contentions document.cells sents)
        (ordered : IsPlainDocument document) (kind : is_id document.id ≡ true) (spelled : IsSpelled document.id)
        (nonces : List (List ℕ)) (counts : List Count) (long : AreLong nonces) (enough : cells_nonces sents ≤ length nonces)
        (within : AllByRecursion (IsWithin state.current) (cells_words u.schema document.cells sents)) (outcome : Outcome) where
      abbrev words : List Word
      words = cells_words u.schema document.cells sents

      abbrev new : CellsDone
      new = index_cells state.index sents nonces counts

      abbrev InsertDue : Bool → Bool → Type 0
      InsertDue b c =
          let done = if b then answered state r.DuplicateId else inserted state (value_of document.id) new in
          let due : List PlainDocument × PlainReply = if c then (documents, p.DuplicateId) else (documents ++ document ∷ [], p.Inserted) in
          MatchBool b (counts ≡ []) (AllowedCells state.index sents nonces counts) → outcome ≡ outcome_of done.reply
          → IsFree (root_of u) (raised_if outcome numbers words) → Acted u (raised_if outcome numbers words) done due.0 due.1

      insert_again : InsertDue true true
      insert_again allowed same free =
          subst (λ (x : Outcome). Acted u (raised_if x numbers words) (answered state r.DuplicateId) documents p.DuplicateId) (sym same)
          (record { stands = stands; answers = refl })

      insert_new : InsertDue false false
      insert_new allowed same free =
          let last = all_raised numbers words in
          let later : Later numbers last = later_all_raised words numbers in
          let free_last : IsFree (root_of u) last = subst (λ (x : Outcome). IsFree (root_of u) (raised_if x numbers words)) same free in
          let kept = cells_kept u is leaves contentions document.cells sents are state.index nonces counts long enough allowed
          state.jobs.aside state.jobs.captured state.jobs.doomed numbers stands.index free_last in
          let decode = cells_decode u is leaves contentions document.cells sents are state.index nonces counts long enough allowed in
          let done_stands : Stands u last (inserted state (value_of document.id) new).state (documents ++ document ∷ []) = record {
            index = kept.stand;
            docs = zip_push (StandsDocument u last) state.docs documents (document_of (value_of document.id) new.cells) document
                (documents_later u numbers last later state.docs documents stands.docs)
                (new_stands u last document new.cells decode kept.stands ordered kind spelled);
            limited = limited_all_raised state.current words numbers within stands.limited;
          } in
          subst (λ (x : Outcome). Acted u (raised_if x numbers words) (inserted state (value_of document.id) new) (documents ++ document ∷ []) p.Inserted) (sym same)
          (record { stands = done_stands; answers = refl })

      pub insert_acted : AllowedInsert state (value_of document.id) sents nonces counts
          → outcome ≡ outcome_of (insert_step state (value_of document.id) sents nonces counts).reply → IsFree (root_of u) (raised_if outcome numbers words)
          → Acted u (raised_if outcome numbers words) (insert_step state (value_of document.id) sents nonces counts)
          (plainly.insert_step documents document).0 (plainly.insert_step documents document).1
      insert_acted = both_tests InsertDue insert_again insert_new (has_document (value_of document.id) state.docs) (has_id document.id documents)
          (id_there u numbers state.docs documents stands.docs document.id kind spelled)

-- ---- filters: words are known already
module _ (u : Under) (is : IsUnder u) (laws : EdgeLaws) (state : State) (documents : List PlainDocument) (contentions : Contentions)
    (numbers : Numbers) (free : IsFree (root_of u) numbers) (stands : Stands u numbers state documents)
    (terms : List Term) (are_terms : AllByRecursion (IsTerm u.schema) terms) (spelled_terms : AllByRecursion IsSpelledTerm terms)
    (not_below : filter_below state.current (sent_filter u contentions terms 0) ≡ None)
    (known : AllKnown numbers (terms_words u.schema terms (sent_filter u contentions terms 0)))
    (counts : List Count) (allowed : AllowedTerms state.index.rows (sent_filter u contentions terms 0) counts) where
  -- what documents must have for the filter
  abbrev sets : List TermSet
  sets = sets_for state (sent_filter u contentions terms 0) counts

  abbrev test : Stored → Bool
  test = matches sets

  abbrev due : PlainDocument → Bool
  due = plainly.matches terms

  abbrev StandsNow : Stored → PlainDocument → Type 0
  StandsNow = StandsDocument u numbers

  pub agree : (stored : Stored) (document : PlainDocument) → StandsNow stored document → test stored ≡ due document
  agree stored document stand =
      terms_hold u is laws numbers free state.index.rows
      (λ word n at count counts. number_is (root_of u) numbers free state.index.rows stands.index.rows_stand word n at count counts.searched counts.is_true)
      state.current stands.limited.at contentions stored document stand terms 0 counts are_terms spelled_terms not_below known allowed

  any_agree : list_any test state.docs ≡ list_any due documents
  any_agree = any_same StandsNow test due agree state.docs documents stands.docs

  -- find
  found : StandDocuments u numbers (filter test state.docs) (filter due documents)
  found = filter_zip StandsNow test due agree state.docs documents stands.docs

  answers_found : (ids : Bool) → Answers u (find_reply ids (filter test state.docs)) (plainly.find_reply (filter due documents) ids)
  answers_found true = ap (λ all. p.Ids all) (sym (ids_decode u numbers (filter test state.docs) (filter due documents) found))
  answers_found false = record {
    documents = filter due documents;
    decode = found_decode u numbers (filter test state.docs) (filter due documents) found;
    is = refl;
  }

  pub find_acted : (ids : Bool) → Acted u numbers (find_step state (sent_filter u contentions terms 0) ids counts) documents (plainly.find_reply (filter due documents) ids)
  find_acted ids = record { stands = stands; answers = answers_found ids }

  -- delete
  abbrev taken : List PlainDocument
  taken = on_first due (λ document. []) documents

  abbrev DeleteDue : Bool → Bool → Type 0
  DeleteDue b c = list_any due documents ≡ c
      → Acted u numbers (if b then deleted state sets else answered state (r.Deleted 0)) taken (p.Deleted (if c then 1 else 0))

  delete_one : DeleteDue true true
  delete_one there = record {
    stands = record {
      index = stands.index;
      docs = drop_zip StandsNow StandsNow test due agree (λ stored document stand. stand) state.docs documents stands.docs;
      limited = stands.limited;
    };
    answers = refl;
  }

  delete_none : DeleteDue false false
  delete_none none =
      subst (λ (all : List PlainDocument). Acted u numbers (answered state (r.Deleted 0)) all (p.Deleted 0)) (sym (none_first due (λ document. []) documents none))
      (record { stands = stands; answers = refl })

  pub delete_acted : Acted u numbers (delete_step state (sent_filter u contentions terms 0) counts) taken (p.Deleted (count_first due documents))
  delete_acted = both_tests DeleteDue delete_one delete_none (list_any test state.docs) (list_any due documents) any_agree refl

  -- update: the values are indexed for the first match
  module _ (steps : StepsKeepCollections) (leaves : Bool) (set : List PlainCell) (sents : List (ℕ × SentCell)) (are : AreMeant u leaves contentions set sents)
      (nonces : List (List ℕ)) (long : AreLong nonces) (enough : cells_nonces sents ≤ length nonces)
      (within : AllByRecursion (IsWithin state.current) (cells_words u.schema set sents)) (outcome : Outcome) where
    abbrev set_words : List Word
    set_words = cells_words u.schema set sents

    abbrev rest : List Count
    rest = filter_rest (sent_filter u contentions terms 0) counts

    abbrev made : CellsDone
    made = index_cells state.index sents nonces rest

    abbrev changed : List PlainDocument
    changed = on_first due (λ document. with_set set document ∷ []) documents

    -- the cells of a document still rise
    rises : (document : PlainDocument) → IsPlainDocument document → IsPlainDocument (with_set set document)
    rises document ordered =
        let one : IsPlainCollection (document ∷ []) = record {
          each = All-cons IsPlainDocument document [] ordered (All-nil IsPlainDocument);
          ids = λ i j d less past. absurd (omega (arith, less, past));
        } in
        (steps (document ∷ []) (plain.Update [] set) (with_set set document ∷ [], p.Updated 1) one tt refl).each 0 document (omega arith)

    abbrev UpdateDue : Bool → Bool → Type 0
    UpdateDue b c =
        let done = if b then updated state sets made else answered state (r.Updated 0) in
        list_any due documents ≡ c → MatchBool b (AllowedCells state.index sents nonces rest) (rest ≡ []) → outcome ≡ outcome_of done.reply
        → IsFree (root_of u) (raised_if outcome numbers set_words) → Acted u (raised_if outcome numbers set_words) done changed (p.Updated (if c then 1 else 0))

    update_one : UpdateDue true true
    update_one there indexed same free_last =
        let last = all_raised numbers set_words in
        let later : Later numbers last = later_all_raised set_words numbers in
        let is_free : IsFree (root_of u) last = subst (λ (x : Outcome). IsFree (root_of u) (raised_if x numbers set_words)) same free_last in
        let kept = cells_kept u is leaves contentions set sents are state.index nonces rest long enough indexed
        state.jobs.aside state.jobs.captured state.jobs.doomed numbers stands.index is_free in
        let decode = cells_decode u is leaves contentions set sents are state.index nonces rest long enough indexed in
        let done_stands : Stands u last (updated state sets made).state changed = record {
          index = kept.stand;
          docs = change_zip StandsNow (StandsDocument u last) test due agree (document_later u numbers last later) (with_cells made.cells) (with_set set)
              (λ stored document stand. set_stands u last made.cells set decode kept.stands rises stored document (document_later u numbers last later stored document stand))
              state.docs documents stands.docs;
          limited = limited_all_raised state.current set_words numbers within stands.limited;
        } in
        subst (λ (x : Outcome). Acted u (raised_if x numbers set_words) (updated state sets made) changed (p.Updated 1)) (sym same)
        (record { stands = done_stands; answers = refl })

    update_none : UpdateDue false false
    update_none none left same free_last =
        let nothing : Acted u numbers (answered state (r.Updated 0)) changed (p.Updated 0) =
        subst (λ (all : List PlainDocument). Acted u numbers (answered state (r.Updated 0)) all (p.Updated 0))
        (sym (none_first due (λ document. with_set set document ∷ []) documents none)) (record { stands = stands; answers = refl }) in
        subst (λ (x : Outcome). Acted u (raised_if x numbers set_words) (answered state (r.Updated 0)) changed (p.Updated 0)) (sym same) nothing

    pub update_acted : MatchBool (list_any test state.docs) (AllowedCells state.index sents nonces rest) (rest ≡ [])
        → outcome ≡ outcome_of (update_step state (sent_filter u contentions terms 0) sents nonces counts).reply
        → IsFree (root_of u) (raised_if outcome numbers set_words)
        → Acted u (raised_if outcome numbers set_words) (update_step state (sent_filter u contentions terms 0) sents nonces counts) changed
        (p.Updated (count_first due documents))
    update_acted = both_tests UpdateDue update_one update_none (list_any test state.docs) (list_any due documents) any_agree refl
