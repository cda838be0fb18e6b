-- Documents under all commands: their ids, and their tags.
use Rattle.std.proofs.Common.{◌≡◌, ℕ, List, [], ◌∷◌, ◌++◌, Bool, true, false, ◌||◌, Option, None, Some, refl, sym, ap, ◌∙◌, subst, arith}
use Rattle.std.proofs.lemmas.Bool.{cond_both, or_parts, or_from, false≢true}
use Rattle.std.proofs.lemmas.List.{append-nil, map-append}
use Rattle.std.specs.List.{list_any}
use Rattle.std.specs.Prelude.{nat_le}
use Rattle.qe_base.specs.declared.maintenance.Count.{Count}
use Rattle.qe_value.specs.declared.value.Value.{Value}
use Rattle.qe_store.specs.declared.stored.Cell.{Cell}
use Rattle.qe_store.specs.declared.stored.Stored.{Stored}
use Rattle.qe_command.specs.declared.command.Command.{Command}
use Rattle.qe_command.specs.declared.command.Command.TheVariants as c
use Rattle.qe_protocol.specs.declared.reply.Reply.{Reply}
use Rattle.qe_protocol.specs.State.{State, Done}
use Rattle.qe_protocol.specs.Contention.{refusal, current_of, raise}
use Rattle.qe_protocol.specs.Documents.{document_of, has_document, with_cells, change_first, drop_first}
use Rattle.qe_protocol.specs.Filters.{same_id, matches, filter_rest}
use Rattle.qe_protocol.specs.Indexing.{index_cells}
use Rattle.qe_protocol.specs.Next.{served, unless_refused, next, sets_for}
use Rattle.qe_protocol.specs.Laws.{ids_of, AreApart, AreTagged, is_delete, ReplacesOne, RemovesOne, ChangedBy}
use Rattle.qe_protocol.proofs.KeptLemmas.{begin-keeps, step-keeps, end-keeps, abandon-keeps}

-- a raise keeps the documents
raise-same : (state : State) (field contention : ℕ) → (raise state field contention).state.docs ≡ state.docs
raise-same state field contention =
    cond_both (nat_le contention (current_of state.current field)) _ _ (λ (done : Done). done.state.docs ≡ state.docs) (λ _. refl) (λ _. refl)

-- what holds of the documents holds after every command, where it does after an insert, an update and a delete
module _ (state : State) (command : Command) (Holds : List Stored → Type 0) (is : Holds state.docs)
    (behind : (id : Value) (cells : List (ℕ × Cell)) → has_document id state.docs ≡ false → Holds (state.docs ++ document_of id cells ∷ []))
    (changed : (test : Stored → Bool) (cells : List (ℕ × Cell)) → Holds (change_first test (with_cells cells) state.docs))
    (dropped : is_delete command ≡ true → (test : Stored → Bool) → Holds (drop_first test state.docs)) where
  abbrev After : Done → Type 0
  After done = Holds done.state.docs

  same_holds : (docs : List Stored) → docs ≡ state.docs → Holds docs
  same_holds docs same = subst Holds (sym same) is

  refused_holds : (refused : Option Reply) (done : Done) → After done → After (unless_refused state refused done)
  refused_holds None done holds = holds
  refused_holds (Some reply) done holds = is

  served_holds : (given : Command) → given ≡ command → (nonces : List (List ℕ)) (counts : List Count) → After (served state given nonces counts)
  served_holds (c.Insert id cells) same nonces counts =
      cond_both (has_document id state.docs) _ _ After (λ _. is) (λ new. behind id (index_cells state.index cells nonces counts).cells new)
  served_holds (c.Find terms ids) same nonces counts = is
  served_holds (c.Update terms set) same nonces counts =
      let sets = sets_for state terms counts in
      cond_both (list_any (matches sets) state.docs) _ _ After
      (λ _. changed (matches sets) (index_cells state.index set nonces (filter_rest terms counts)).cells) (λ _. is)
  served_holds (c.Delete terms) same nonces counts =
      let sets = sets_for state terms counts in
      cond_both (list_any (matches sets) state.docs) _ _ After (λ _. dropped (ap is_delete (sym same)) (matches sets)) (λ _. is)
  served_holds (c.Begin kind tokens) same nonces counts = same_holds _ ((begin-keeps state kind tokens).docs)
  served_holds (c.Step job limit) same nonces counts = same_holds _ ((step-keeps state job nonces counts).docs)
  served_holds (c.End job) same nonces counts = same_holds _ ((end-keeps state job).docs)
  served_holds (c.Abandon job) same nonces counts = same_holds _ ((abandon-keeps state job).docs)
  served_holds (c.Raise field contention) same nonces counts = same_holds _ (raise-same state field contention)

  next_holds : (nonces : List (List ℕ)) (counts : List Count) → After (next state command nonces counts)
  next_holds nonces counts =
      refused_holds (refusal state.current command) (served state command nonces counts) (served_holds command refl nonces counts)

-- ids
ids-change_first : (test : Stored → Bool) (cells : List (ℕ × Cell)) (docs : List Stored) → ids_of (change_first test (with_cells cells) docs) ≡ ids_of docs
ids-change_first test cells [] = refl
ids-change_first test cells (stored ∷ docs) =
    cond_both (test stored) (with_cells cells stored ∷ docs) (stored ∷ change_first test (with_cells cells) docs) (λ all. ids_of all ≡ ids_of (stored ∷ docs))
    (λ _. refl) (λ _. ap (λ ids. stored.id ∷ ids) (ids-change_first test cells docs))

pub next-keeps : (state : State) (command : Command) (nonces : List (List ℕ)) (counts : List Count) → is_delete command ≡ false
    → (new : List Value) × (ids_of (next state command nonces counts).state.docs ≡ ids_of state.docs ++ new)
next-keeps state command nonces counts not =
    next_holds state command (λ docs. (new : List Value) × (ids_of docs ≡ ids_of state.docs ++ new))
    ([], sym (append-nil (ids_of state.docs)))
    (λ id cells _. (id ∷ [], map-append (λ (stored : Stored). stored.id) state.docs (document_of id cells ∷ [])))
    (λ test cells. ([], ids-change_first test cells state.docs ∙ sym (append-nil (ids_of state.docs))))
    (λ is test. absurd (false≢true (sym not ∙ is)))
    nonces counts

-- an id behind others that are apart from it
any-push : (first : Value) (ids : List Value) (id : Value) → list_any (same_id first) ids ≡ false → same_id first id ≡ false → list_any (same_id first) (ids ++ id ∷ []) ≡ false
any-push first [] id none other = or_from (same_id first id) false other refl
any-push first (second ∷ ids) id none other =
    let parts = or_parts (same_id first second) (list_any (same_id first) ids) none in
    or_from (same_id first second) (list_any (same_id first) (ids ++ id ∷ [])) parts.0 (any-push first ids id parts.1 other)

apart-push : (ids : List Value) (id : Value) → AreApart ids → list_any (λ other. same_id other id) ids ≡ false → AreApart (ids ++ id ∷ [])
apart-push [] id apart none = (refl, tt)
apart-push (first ∷ ids) id apart none =
    let parts = or_parts (same_id first id) (list_any (λ other. same_id other id) ids) none in
    (any-push first ids id apart.0 parts.0, apart-push ids id apart.1 parts.1)

any-ids : (id : Value) (docs : List Stored) → has_document id docs ≡ list_any (λ other. same_id other id) (ids_of docs)
any-ids id [] = refl
any-ids id (stored ∷ docs) = ap (λ b. same_id stored.id id || b) (any-ids id docs)

any-drop : (first : Value) (test : Stored → Bool) (docs : List Stored) → list_any (same_id first) (ids_of docs) ≡ false
    → list_any (same_id first) (ids_of (drop_first test docs)) ≡ false
any-drop first test [] none = refl
any-drop first test (stored ∷ docs) none =
    let parts = or_parts (same_id first stored.id) (list_any (same_id first) (ids_of docs)) none in
    cond_both (test stored) docs (stored ∷ drop_first test docs) (λ all. list_any (same_id first) (ids_of all) ≡ false)
    (λ _. parts.1) (λ _. or_from (same_id first stored.id) (list_any (same_id first) (ids_of (drop_first test docs))) parts.0 (any-drop first test docs parts.1))

apart-drop : (test : Stored → Bool) (docs : List Stored) → AreApart (ids_of docs) → AreApart (ids_of (drop_first test docs))
apart-drop test [] apart = tt
apart-drop test (stored ∷ docs) apart =
    cond_both (test stored) docs (stored ∷ drop_first test docs) (λ all. AreApart (ids_of all))
    (λ _. apart.1) (λ _. (any-drop stored.id test docs apart.0, apart-drop test docs apart.1))

pub next-apart : (state : State) (command : Command) (nonces : List (List ℕ)) (counts : List Count) → AreApart (ids_of state.docs)
    → AreApart (ids_of (next state command nonces counts).state.docs)
next-apart state command nonces counts apart =
    next_holds state command (λ docs. AreApart (ids_of docs)) apart
    (λ id cells new. subst AreApart (sym (map-append (λ (stored : Stored). stored.id) state.docs (document_of id cells ∷ [])))
    (apart-push (ids_of state.docs) id apart (sym (any-ids id state.docs) ∙ new)))
    (λ test cells. subst AreApart (sym (ids-change_first test cells state.docs)) apart)
    (λ _ test. apart-drop test state.docs apart)
    nonces counts

-- tags
tagged-push : (docs : List Stored) (id : Value) (cells : List (ℕ × Cell)) → AreTagged docs → AreTagged (docs ++ document_of id cells ∷ [])
tagged-push [] id cells tagged = (refl, tt)
tagged-push (stored ∷ docs) id cells tagged = (tagged.0, tagged-push docs id cells tagged.1)

tagged-change : (test : Stored → Bool) (cells : List (ℕ × Cell)) (docs : List Stored) → AreTagged docs → AreTagged (change_first test (with_cells cells) docs)
tagged-change test cells [] tagged = tt
tagged-change test cells (stored ∷ docs) tagged =
    cond_both (test stored) (with_cells cells stored ∷ docs) (stored ∷ change_first test (with_cells cells) docs) AreTagged
    (λ _. (refl, tagged.1)) (λ _. (tagged.0, tagged-change test cells docs tagged.1))

tagged-drop : (test : Stored → Bool) (docs : List Stored) → AreTagged docs → AreTagged (drop_first test docs)
tagged-drop test [] tagged = tt
tagged-drop test (stored ∷ docs) tagged =
    cond_both (test stored) docs (stored ∷ drop_first test docs) AreTagged (λ _. tagged.1) (λ _. (tagged.0, tagged-drop test docs tagged.1))

pub next-tagged : (state : State) (command : Command) (nonces : List (List ℕ)) (counts : List Count) → AreTagged state.docs
    → AreTagged (next state command nonces counts).state.docs
next-tagged state command nonces counts tagged =
    next_holds state command AreTagged tagged
    (λ id cells _. tagged-push state.docs id cells tagged)
    (λ test cells. tagged-change test cells state.docs tagged)
    (λ _ test. tagged-drop test state.docs tagged)
    nonces counts

-- one document at most
changes_one : (test : Stored → Bool) (cells : List (ℕ × Cell)) (docs : List Stored) → ReplacesOne docs (change_first test (with_cells cells) docs)
changes_one test cells [] = ([], ([], (record { front = []; back = []; was = refl; is = refl }, (refl, omega arith))))
changes_one test cells (stored ∷ docs) =
    let later = changes_one test cells docs in
    cond_both (test stored) (with_cells cells stored ∷ docs) (stored ∷ change_first test (with_cells cells) docs) (ReplacesOne (stored ∷ docs))
    (λ _. (stored ∷ [], (with_cells cells stored ∷ [], (record { front = []; back = docs; was = refl; is = refl }, (refl, omega arith)))))
    (λ _. (
      later.0,
      (
        later.1.0,
        (
          record {
            front = stored ∷ later.1.1.0.front;
            back = later.1.1.0.back;
            was = ap (λ (all : List Stored). stored ∷ all) later.1.1.0.was;
            is = ap (λ (all : List Stored). stored ∷ all) later.1.1.0.is;
          },
          later.1.1.1,
        ),
      ),
    ))

drops_one : (test : Stored → Bool) (docs : List Stored) → RemovesOne docs (drop_first test docs)
drops_one test [] = ([], (record { front = []; back = []; was = refl; is = refl }, omega arith))
drops_one test (stored ∷ docs) =
    let later = drops_one test docs in
    cond_both (test stored) docs (stored ∷ drop_first test docs) (RemovesOne (stored ∷ docs))
    (λ _. (stored ∷ [], (record { front = []; back = docs; was = refl; is = refl }, omega arith)))
    (λ _. (
      later.0,
      (
        record {
          front = stored ∷ later.1.0.front;
          back = later.1.0.back;
          was = ap (λ (all : List Stored). stored ∷ all) later.1.0.was;
          is = ap (λ (all : List Stored). stored ∷ all) later.1.0.is;
        },
        later.1.1,
      ),
    ))

changes_none : (command : Command) (docs : List Stored) → ChangedBy command docs docs
changes_none (c.Insert id cells) docs = ([], (sym (append-nil docs), omega arith))
changes_none (c.Update terms set) docs = ([], ([], (record { front = []; back = docs; was = refl; is = refl }, (refl, omega arith))))
changes_none (c.Delete terms) docs = ([], (record { front = []; back = docs; was = refl; is = refl }, omega arith))
changes_none (c.Find terms ids) docs = refl
changes_none (c.Begin kind tokens) docs = refl
changes_none (c.Step job limit) docs = refl
changes_none (c.End job) docs = refl
changes_none (c.Abandon job) docs = refl
changes_none (c.Raise field contention) docs = refl

module _ (state : State) where
  abbrev Changed : Command → Done → Type 0
  Changed command done = ChangedBy command state.docs done.state.docs

  served-changed : (command : Command) (nonces : List (List ℕ)) (counts : List Count) → Changed command (served state command nonces counts)
  served-changed (c.Insert id cells) nonces counts =
      cond_both (has_document id state.docs) _ _ (Changed (c.Insert id cells)) (λ _. changes_none (c.Insert id cells) state.docs)
      (λ _. (document_of id (index_cells state.index cells nonces counts).cells ∷ [], (refl, omega arith)))
  served-changed (c.Find terms ids) nonces counts = refl
  served-changed (c.Update terms set) nonces counts =
      let sets = sets_for state terms counts in
      cond_both (list_any (matches sets) state.docs) _ _ (Changed (c.Update terms set))
      (λ _. changes_one (matches sets) (index_cells state.index set nonces (filter_rest terms counts)).cells state.docs)
      (λ _. changes_none (c.Update terms set) state.docs)
  served-changed (c.Delete terms) nonces counts =
      let sets = sets_for state terms counts in
      cond_both (list_any (matches sets) state.docs) _ _ (Changed (c.Delete terms)) (λ _. drops_one (matches sets) state.docs)
      (λ _. changes_none (c.Delete terms) state.docs)
  served-changed (c.Begin kind tokens) nonces counts = (begin-keeps state kind tokens).docs
  served-changed (c.Step job limit) nonces counts = (step-keeps state job nonces counts).docs
  served-changed (c.End job) nonces counts = (end-keeps state job).docs
  served-changed (c.Abandon job) nonces counts = (abandon-keeps state job).docs
  served-changed (c.Raise field contention) nonces counts = raise-same state field contention

  unless_refused-changed : (command : Command) (refused : Option Reply) (done : Done) → Changed command done → Changed command (unless_refused state refused done)
  unless_refused-changed command None done is = is
  unless_refused-changed command (Some reply) done is = changes_none command state.docs

pub next-changed : (state : State) (command : Command) (nonces : List (List ℕ)) (counts : List Count)
    → ChangedBy command state.docs (next state command nonces counts).state.docs
next-changed state command nonces counts =
    unless_refused-changed state command (refusal state.current command) (served state command nonces counts) (served-changed state command nonces counts)
