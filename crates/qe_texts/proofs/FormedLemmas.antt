-- Where no command brings a value without a form, no reply holds one.
use Rattle.std.proofs.Common.{◌≡◌, inl, inr, List, [], ◌∷◌, map, Bool, true, false, Some, refl, subst}
use Rattle.std.specs.List.{list_any}
use Rattle.std.specs.Prelude.{All, filter}
use Rattle.std.proofs.lemmas.Bool.{cases_Bool, or_parts}
use Rattle.std.proofs.lemmas.List.Elements.{All-nil, All-cons, All-head, All-tail, All-append, All-filter}
use Rattle.std.proofs.lemmas.List.Folds.{list_any_none}
use Rattle.qe_bson.specs.JsonWriting.{formless}
use Rattle.qe_plain.specs.declared.command.PlainCell.{PlainCell}
use Rattle.qe_plain.specs.declared.command.PlainCommand.{PlainCommand}
use Rattle.qe_plain.specs.declared.command.PlainCommand.TheVariants as c
use Rattle.qe_plain.specs.declared.command.PlainDocument.{PlainDocument}
use Rattle.qe_plain.specs.declared.command.PlainReply.{PlainReply}
use Rattle.qe_plain.specs.declared.command.PlainReply.TheVariants as r
use Rattle.qe_plain.specs.Collection.{count_first, find_reply, has_id, insert_step, matches, on_first, plain_step, put_cell, put_cells, replay_from, with_set}
use Rattle.qe_plain.proofs.CollectionLemmas.{put_all, first_all, goes, rest_of}
use Rattle.qe_texts.specs.Unprintable.{BringNoneHoldNone, brings_formless, holds_formless, is_formless, is_formless_cell}

abbrev Printed : PlainDocument → Type 0
Printed document = is_formless document ≡ false

abbrev PrintedCell : PlainCell → Type 0
PrintedCell cell = is_formless_cell cell ≡ false

-- what holds of none is denied of each
none_any : {X : Type 0} (test : X → Bool) (xs : List X) → list_any test xs ≡ false → All (λ x. test x ≡ false) xs
none_any test [] h = All-nil (λ x. test x ≡ false)
none_any test (x ∷ xs) h =
    elim (cases_Bool (test x)) [
      | inl sure ↦ let wrong = rw sure at h in cc
      | inr failed ↦ All-cons (λ x. test x ≡ false) x xs failed (none_any test xs (rw failed at h))
    ]

puts_printed : (cells set : List PlainCell) → All PrintedCell cells → All PrintedCell set → All PrintedCell (put_cells cells set)
puts_printed cells [] all new = all
puts_printed cells (cell ∷ set) all new =
    puts_printed (put_cell cell cells) set (put_all PrintedCell cell cells (All-head PrintedCell cell set new) all) (All-tail PrintedCell cell set new)

set_printed : (set : List PlainCell) (document : PlainDocument) → list_any is_formless_cell set ≡ false → Printed document → Printed (with_set set document)
set_printed set document new h =
    let parts = or_parts (formless document.id) (list_any is_formless_cell document.cells) h in
    let cells = puts_printed document.cells set (none_any is_formless_cell document.cells parts.1) (none_any is_formless_cell set new) in
    rw (parts.0, list_any_none is_formless_cell (put_cells document.cells set) cells) refl

-- a collection and a reply without such values
record Stays (next : List PlainDocument × PlainReply) : Type 0 where
  documents : All Printed next.0
  reply : holds_formless next.1 ≡ false

insert_stays : (documents : List PlainDocument) (document : PlainDocument) → All Printed documents → Printed document → Stays (insert_step documents document)
insert_stays documents document all new =
    elim (cases_Bool (has_id document.id documents)) [
      | inl sure ↦ rw sure (record { documents = all; reply = refl })
      | inr failed ↦ rw failed (record { documents = All-append Printed documents (document ∷ []) all (All-cons Printed document [] new (All-nil Printed)); reply = refl })
    ]

ids_printed : (documents : List PlainDocument) → All Printed documents → list_any formless (map (λ document. document.id) documents) ≡ false
ids_printed [] all = refl
ids_printed (document ∷ documents) all =
    let first = or_parts (formless document.id) (list_any is_formless_cell document.cells) (All-head Printed document documents all) in
    rw first.0 (ids_printed documents (All-tail Printed document documents all))

found_printed : (found : List PlainDocument) (ids : Bool) → All Printed found → holds_formless (find_reply found ids) ≡ false
found_printed found true all = ids_printed found all
found_printed found false all = list_any_none is_formless found all

step_stays : (documents : List PlainDocument) (command : PlainCommand) (next : List PlainDocument × PlainReply) → All Printed documents
    → brings_formless command ≡ false → plain_step documents command ≡ Some next → Stays next
step_stays documents (c.Insert document) next all new h =
    let e : insert_step documents document ≡ next = cc in
    subst Stays e (insert_stays documents document all new)
step_stays documents (c.Find terms ids) next all new h =
    let e : (documents, find_reply (filter (matches terms) documents) ids) ≡ next = cc in
    subst Stays e (record { documents = all; reply = found_printed (filter (matches terms) documents) ids (All-filter (matches terms) Printed documents all) })
step_stays documents (c.Update terms set) next all new h =
    let change : PlainDocument → List PlainDocument = λ document. with_set set document ∷ [] in
    let e : (on_first (matches terms) change documents, r.Updated (count_first (matches terms) documents)) ≡ next = cc in
    let kept = first_all Printed (matches terms) change (λ document is. All-cons Printed (with_set set document) [] (set_printed set document new is) (All-nil Printed)) documents all in
    subst Stays e (record { documents = kept; reply = refl })
step_stays documents (c.Delete terms) next all new h =
    let change : PlainDocument → List PlainDocument = λ document. [] in
    let e : (on_first (matches terms) change documents, r.Deleted (count_first (matches terms) documents)) ≡ next = cc in
    let kept = first_all Printed (matches terms) change (λ document is. All-nil Printed) documents all in
    subst Stays e (record { documents = kept; reply = refl })
step_stays documents (c.Begin kind pairs) next all new h = cc
step_stays documents (c.Step job limit) next all new h = cc
step_stays documents (c.End job) next all new h = cc
step_stays documents (c.Abandon job) next all new h = cc
step_stays documents (c.Raise field contention) next all new h = cc

replay_stays : (documents : List PlainDocument) (commands : List PlainCommand) (last : List PlainDocument × List PlainReply) → All Printed documents
    → All (λ command. brings_formless command ≡ false) commands → replay_from documents commands ≡ Some last → All (λ reply. holds_formless reply ≡ false) last.1
replay_stays documents [] last all new h =
    let e : [] ≡ last.1 = cc in
    subst (All (λ reply. holds_formless reply ≡ false)) e (All-nil (λ reply. holds_formless reply ≡ false))
replay_stays documents (command ∷ commands) last all new h =
    let g = goes (plain_step documents command) _ last h in
    let first = step_stays documents command g.value all (All-head (λ command. brings_formless command ≡ false) command commands new) g.found in
    let later = rest_of g.value.1 (replay_from g.value.0 commands) last g.then_is in
    let rest = replay_stays g.value.0 commands (last.0, later.0) first.documents (All-tail (λ command. brings_formless command ≡ false) command commands new) later.1 in
    let e : g.value.1 ∷ later.0 ≡ last.1 = later.2 in
    subst (All (λ reply. holds_formless reply ≡ false)) e (All-cons (λ reply. holds_formless reply ≡ false) g.value.1 later.0 first.reply rest)

pub none_held : BringNoneHoldNone
none_held commands last new h = replay_stays [] commands last (All-nil Printed) new h
