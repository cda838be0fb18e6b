-- A step makes a collection of a collection.
use Rattle.std.proofs.Common.{◌≡◌, suc, ◌<◌, inl, inr, Bool, false, ◌==◌, List, [], ◌∷◌, ◌++◌, Option, None, Some, refl, subst, arith}
use Rattle.std.specs.Prelude.{All, nat_lt}
use Rattle.std.specs.List.{AllByRecursion, AllPairs}
use Rattle.std.proofs.lemmas.Bool.{cases_Bool, eqb-true, eqb-false, ltb-true, ltb-false}
use Rattle.std.proofs.lemmas.List.Elements.{All-nil, All-cons, All-head, All-tail, All-weaker, All-append, All-push, All-from_recursion}
use Rattle.std.proofs.lemmas.List.Kept.{AllPairs-cons}
use Rattle.std.proofs.lemmas.List.Quantifiers.{all_pairs_push}
use Rattle.qe_value.specs.declared.value.Plain.{Plain}
use Rattle.qe_plain.specs.declared.command.PlainCell.{PlainCell}
use Rattle.qe_plain.specs.declared.command.PlainCommand.{PlainCommand}
use Rattle.qe_plain.specs.declared.command.PlainCommand.TheVariants as c
use Rattle.qe_plain.specs.declared.command.PlainDocument.{PlainDocument}
use Rattle.qe_plain.specs.declared.command.PlainReply.{PlainReply}
use Rattle.qe_plain.specs.Collection.{IsPlainCollection, IsPlainDocument, after, has_id, insert_step, matches, on_first, plain_step, put_cell, put_cells, replay_from, same_value, then_replies, with_set}
use Rattle.qe_plain.specs.Laws.{ReplaysMakeCollections, StepsKeepCollections, StoresInOrder}

-- the first of a list, and the rest, where all pairs stand in a relation
pairs_head : {X : Type 0} (R : X → X → Type 0) (x : X) (xs : List X) → AllPairs R (x ∷ xs) → All (R x) xs
pairs_head R x xs pairs k d lt = pairs 0 (suc k) d (omega arith) (omega arith)

pairs_tail : {X : Type 0} (R : X → X → Type 0) (x : X) (xs : List X) → AllPairs R (x ∷ xs) → AllPairs R xs
pairs_tail R x xs pairs n m d lt past = pairs (suc n) (suc m) d (omega arith) (omega arith)

pairs_nil : {X : Type 0} (R : X → X → Type 0) → AllPairs R []
pairs_nil R n m d lt past = absurd (omega arith)

abbrev Before : PlainCell → PlainCell → Type 0
Before a b = a.field < b.field

-- what holds of a cell and of all cells holds where it is put among them
pub put_all : (P : PlainCell → Type 0) (new : PlainCell) (cells : List PlainCell) → P new → All P cells → All P (put_cell new cells)
put_all P new [] p all = All-cons P new [] p all
put_all P new (cell ∷ cells) p all =
    elim (cases_Bool (nat_lt cell.field new.field)) [
      | inl sure ↦ rw sure (All-cons P cell (put_cell new cells) (All-head P cell cells all) (put_all P new cells p (All-tail P cell cells all)))
      | inr failed ↦ elim (cases_Bool (cell.field == new.field)) [
        | inl same ↦ rw (failed, same) (All-cons P new cells p (All-tail P cell cells all))
        | inr other ↦ rw (failed, other) (All-cons P new (cell ∷ cells) p all)
      ]
    ]

put_rises : (new : PlainCell) (cells : List PlainCell) → AllPairs Before cells → AllPairs Before (put_cell new cells)
put_rises new [] rise = AllPairs-cons Before new [] (All-nil (Before new)) rise
put_rises new (cell ∷ cells) rise =
    let first = pairs_head Before cell cells rise in
    let rest = pairs_tail Before cell cells rise in
    elim (cases_Bool (nat_lt cell.field new.field)) [
      | inl sure ↦ rw sure (AllPairs-cons Before cell (put_cell new cells) (put_all (Before cell) new cells (ltb-true _ _ sure) first) (put_rises new cells rest))
      | inr failed ↦
          let past = ltb-false cell.field new.field failed in
          elim (cases_Bool (cell.field == new.field)) [
            | inl same ↦
                let is = eqb-true cell.field new.field same in
                rw (failed, same) (AllPairs-cons Before new cells (All-weaker (Before cell) (Before new) (λ b lt. omega arith) cells first) rest)
            | inr other ↦
                let differs = eqb-false cell.field new.field other in
                let lower : new.field < cell.field = omega arith in
                rw (failed, other) (AllPairs-cons Before new (cell ∷ cells)
                (All-cons (Before new) cell cells lower (All-weaker (Before cell) (Before new) (λ b lt. omega arith) cells first)) rise)
          ]
    ]

puts_rise : (cells set : List PlainCell) → AllPairs Before cells → AllPairs Before (put_cells cells set)
puts_rise cells [] rise = rise
puts_rise cells (new ∷ set) rise = puts_rise (put_cell new cells) set (put_rises new cells rise)

-- two documents have other ids
abbrev Apart : PlainDocument → PlainDocument → Type 0
Apart a b = same_value a.id b.id ≡ false

-- what a change of the first match keeps
pub first_all : (P : PlainDocument → Type 0) (is_match : PlainDocument → Bool) (change : PlainDocument → List PlainDocument)
    → ((document : PlainDocument) → P document → All P (change document)) → (documents : List PlainDocument) → All P documents → All P (on_first is_match change documents)
first_all P is_match change keeps [] all = all
first_all P is_match change keeps (document ∷ documents) all =
    elim (cases_Bool (is_match document)) [
      | inl sure ↦ rw sure (All-append P (change document) documents (keeps document (All-head P document documents all)) (All-tail P document documents all))
      | inr failed ↦ rw failed (All-cons P document (on_first is_match change documents) (All-head P document documents all)
          (first_all P is_match change keeps documents (All-tail P document documents all)))
    ]

first_apart : (is_match : PlainDocument → Bool) (change : PlainDocument → List PlainDocument)
    → ((a document : PlainDocument) → Apart a document → All (Apart a) (change document))
    → ((document : PlainDocument) (documents : List PlainDocument) → All (Apart document) documents → AllPairs Apart documents → AllPairs Apart (change document ++ documents))
    → (documents : List PlainDocument) → AllPairs Apart documents → AllPairs Apart (on_first is_match change documents)
first_apart is_match change keeps joins [] apart = apart
first_apart is_match change keeps joins (document ∷ documents) apart =
    let first = pairs_head Apart document documents apart in
    let rest = pairs_tail Apart document documents apart in
    elim (cases_Bool (is_match document)) [
      | inl sure ↦ rw sure (joins document documents first rest)
      | inr failed ↦ rw failed (AllPairs-cons Apart document (on_first is_match change documents)
          (first_all (Apart document) is_match change (keeps document) documents first) (first_apart is_match change keeps joins documents rest))
    ]

-- no document has an id that isn't there
no_id : (id : Plain) (documents : List PlainDocument) → has_id id documents ≡ false → AllByRecursion (λ document. same_value document.id id ≡ false) documents
no_id id [] h = tt
no_id id (document ∷ documents) h =
    elim (cases_Bool (same_value document.id id)) [
      | inl sure ↦ let there = rw sure at h in cc
      | inr failed ↦ (failed, no_id id documents (rw failed at h))
    ]

insert_keeps : (documents : List PlainDocument) (document : PlainDocument) → IsPlainCollection documents → IsPlainDocument document
    → IsPlainCollection (insert_step documents document).0
insert_keeps documents document is ordered =
    elim (cases_Bool (has_id document.id documents)) [
      | inl sure ↦ rw sure is
      | inr failed ↦
          let others = All-from_recursion (λ (other : PlainDocument). same_value other.id document.id ≡ false) documents (no_id document.id documents failed) in
          let made : IsPlainCollection (documents ++ document ∷ []) = record {
            each = All-push IsPlainDocument documents document is.each ordered;
            ids = all_pairs_push Apart documents document is.ids others;
          } in
          rw failed made
    ]

update_keeps : (is_match : PlainDocument → Bool) (set : List PlainCell) (documents : List PlainDocument) → IsPlainCollection documents
    → IsPlainCollection (on_first is_match (λ document. with_set set document ∷ []) documents)
update_keeps is_match set documents is =
    let change : PlainDocument → List PlainDocument = λ document. with_set set document ∷ [] in
    record {
      each = first_all IsPlainDocument is_match change
          (λ document p. All-cons IsPlainDocument (with_set set document) [] (puts_rise document.cells set p) (All-nil IsPlainDocument)) documents is.each;
      ids = first_apart is_match change
          (λ a document apart. All-cons (Apart a) (with_set set document) [] apart (All-nil (Apart a)))
          (λ document rest first pairs. AllPairs-cons Apart (with_set set document) rest first pairs) documents is.ids;
    }

delete_keeps : (is_match : PlainDocument → Bool) (documents : List PlainDocument) → IsPlainCollection documents
    → IsPlainCollection (on_first is_match (λ document. []) documents)
delete_keeps is_match documents is =
    let change : PlainDocument → List PlainDocument = λ document. [] in
    record {
      each = first_all IsPlainDocument is_match change (λ document p. All-nil IsPlainDocument) documents is.each;
      ids = first_apart is_match change (λ a document apart. All-nil (Apart a)) (λ document rest first pairs. pairs) documents is.ids;
    }

pub step_keeps : StepsKeepCollections
step_keeps documents (c.Insert document) next is ordered h =
    let e : insert_step documents document ≡ next = cc in
    subst (λ (n : List PlainDocument × PlainReply). IsPlainCollection n.0) e (insert_keeps documents document is ordered)
step_keeps documents (c.Find terms ids) next is ordered h =
    let e : documents ≡ next.0 = cc in
    subst IsPlainCollection e is
step_keeps documents (c.Update terms set) next is ordered h =
    let e : on_first (matches terms) (λ document. with_set set document ∷ []) documents ≡ next.0 = cc in
    subst IsPlainCollection e (update_keeps (matches terms) set documents is)
step_keeps documents (c.Delete terms) next is ordered h =
    let e : on_first (matches terms) (λ document. []) documents ≡ next.0 = cc in
    subst IsPlainCollection e (delete_keeps (matches terms) documents is)
step_keeps documents (c.Begin kind pairs) next is ordered h = cc
step_keeps documents (c.Step job limit) next is ordered h = cc
step_keeps documents (c.End job) next is ordered h = cc
step_keeps documents (c.Abandon job) next is ordered h = cc
step_keeps documents (c.Raise field contention) next is ordered h = cc

-- what comes after a step
pub record Goes {A B : Type 0} (first : Option A) (next : A → Option B) (last : B) : Type 0 where
  pub value : A
  pub found : first ≡ Some value
  pub then_is : next value ≡ Some last

pub goes : {A B : Type 0} (first : Option A) (next : A → Option B) (last : B) → after first next ≡ Some last → Goes first next last
goes None next last h = cc
goes (Some x) next last h = record { value = x; found = refl; then_is = h }

pub rest_of : (reply : PlainReply) (rest : Option (List PlainDocument × List PlainReply)) (last : List PlainDocument × List PlainReply) → then_replies reply rest ≡ Some last
    → (tail : List PlainReply) × (rest ≡ Some (last.0, tail)) × (reply ∷ tail ≡ last.1)
rest_of reply None last h = cc
rest_of reply (Some (documents, replies)) last h = (replies, let e : documents ≡ last.0 = cc in rw e refl, let e : reply ∷ replies ≡ last.1 = cc in e)

replay_keeps : (documents : List PlainDocument) (commands : List PlainCommand) (last : List PlainDocument × List PlainReply)
    → IsPlainCollection documents → All StoresInOrder commands → replay_from documents commands ≡ Some last → IsPlainCollection last.0
replay_keeps documents [] last is ordered h =
    let e : documents ≡ last.0 = cc in
    subst IsPlainCollection e is
replay_keeps documents (command ∷ commands) last is ordered h =
    let g = goes (plain_step documents command) _ last h in
    let now = step_keeps documents command g.value is (All-head StoresInOrder command commands ordered) g.found in
    let later = rest_of g.value.1 (replay_from g.value.0 commands) last g.then_is in
    replay_keeps g.value.0 commands (last.0, later.0) now (All-tail StoresInOrder command commands ordered) later.1

pub replays_make : ReplaysMakeCollections
replays_make commands last ordered h =
    replay_keeps [] commands last (record { each = All-nil IsPlainDocument; ids = pairs_nil Apart }) ordered h
