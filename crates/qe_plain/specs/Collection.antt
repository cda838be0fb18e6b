-- The plain collection: what documents and commands mean to a user, without any encryption.
use Rattle.std.specs.Prelude.{◌≡◌, ℕ, ◌<◌, ◌==◌, ◌&&◌, ℤ, List, [], ◌∷◌, ◌++◌, map, filter, All, Bool, false, bytes_eq, nat_lt, Option, None, Some, if◌then◌else◌}
use Rattle.std.specs.List.{list_all, list_any, AllPairs}
use Rattle.qe_value.specs.declared.value.Plain.{Plain}
use Rattle.qe_value.specs.Spelling.{spelled}
use Rattle.qe_plain.specs.declared.command.PlainCell.{PlainCell}
use Rattle.qe_plain.specs.declared.command.PlainCommand.{PlainCommand}
use Rattle.qe_plain.specs.declared.command.PlainCommand.TheVariants as c
use Rattle.qe_plain.specs.declared.command.PlainDocument.{PlainDocument}
use Rattle.qe_plain.specs.declared.command.PlainReply.{PlainReply}
use Rattle.qe_plain.specs.declared.command.PlainReply.TheVariants as r
use Rattle.qe_plain.specs.declared.command.Term.{Term}
use Rattle.qe_plain.specs.declared.command.Term.TheVariants as t
use Rattle.qe_field.specs.Values.{kind_of, lies_in, number_in}

-- two values are equal where their types and their bytes are
abbrev pub same_value : Plain → Plain → Bool
same_value a b = kind_of a == kind_of b && bytes_eq (spelled a).bytes (spelled b).bytes

-- a document: an id, and cells in rising field number
abbrev pub IsPlainDocument : PlainDocument → Type 0
IsPlainDocument document = AllPairs (λ a b. a.field < b.field) document.cells

-- a collection: documents with distinct ids
pub record IsPlainCollection (documents : List PlainDocument) : Type 0 where
  pub each : All IsPlainDocument documents
  pub ids : AllPairs (λ a b. same_value a.id b.id ≡ false) documents

-- the value in a field
abbrev pub value_in : ℕ → List PlainCell → Option Plain
value_in field [] = None
value_in field (cell ∷ cells) = if cell.field == field then Some cell.value else value_in field cells

abbrev pub equals_in : Plain → Option Plain → Bool
equals_in value None = false
equals_in value (Some other) = same_value other value

abbrev pub number_there : Option Plain → Option ℤ
number_there None = None
number_there (Some value) = number_in value

-- whether a term holds of a document
abbrev pub holds : PlainDocument → Term → Bool
holds document (t.Id value) = same_value document.id value
holds document (t.Equal field value) = equals_in value (value_in field document.cells)
holds document (t.Between field lo hi) = lies_in lo hi (number_there (value_in field document.cells))

-- a document matches a filter where all its terms hold
abbrev pub matches : List Term → PlainDocument → Bool
matches terms document = list_all (holds document) terms

abbrev pub has_id : Plain → List PlainDocument → Bool
has_id id documents = list_any (λ document. same_value document.id id) documents

-- a cell takes the place of its field's, or its own in the order of the fields
abbrev pub put_cell : PlainCell → List PlainCell → List PlainCell
put_cell new [] = new ∷ []
put_cell new (cell ∷ cells) =
    if nat_lt cell.field new.field then cell ∷ put_cell new cells
    else if cell.field == new.field then new ∷ cells
    else new ∷ cell ∷ cells

abbrev pub put_cells : List PlainCell → List PlainCell → List PlainCell
put_cells cells [] = cells
put_cells cells (new ∷ set) = put_cells (put_cell new cells) set

abbrev pub with_set : List PlainCell → PlainDocument → PlainDocument
with_set set document = record { id = document.id; cells = put_cells document.cells set }

-- what stands for the first match
abbrev pub on_first : (PlainDocument → Bool) → (PlainDocument → List PlainDocument) → List PlainDocument → List PlainDocument
on_first is_match change [] = []
on_first is_match change (document ∷ documents) =
    if is_match document then change document ++ documents else document ∷ on_first is_match change documents

abbrev pub count_first : (PlainDocument → Bool) → List PlainDocument → ℕ
count_first is_match documents = if list_any is_match documents then 1 else 0

abbrev pub insert_step : List PlainDocument → PlainDocument → List PlainDocument × PlainReply
insert_step documents document =
    if has_id document.id documents then (documents, r.DuplicateId) else (documents ++ document ∷ [], r.Inserted)

abbrev pub find_reply : List PlainDocument → Bool → PlainReply
find_reply found ids = if ids then r.Ids (map (λ document. document.id) found) else r.Found found

-- what a command does to a collection, and its reply; maintenance is no plain command
abbrev pub plain_step : List PlainDocument → PlainCommand → Option (List PlainDocument × PlainReply)
plain_step documents (c.Insert document) = Some (insert_step documents document)
plain_step documents (c.Find terms ids) = Some (documents, find_reply (filter (matches terms) documents) ids)
plain_step documents (c.Update terms set) =
    Some (on_first (matches terms) (λ document. with_set set document ∷ []) documents, r.Updated (count_first (matches terms) documents))
plain_step documents (c.Delete terms) =
    Some (on_first (matches terms) (λ document. []) documents, r.Deleted (count_first (matches terms) documents))
plain_step documents _ = None

abbrev pub after : {A B : Type 0} → Option A → (A → Option B) → Option B
after None next = None
after (Some x) next = next x

abbrev pub then_replies : PlainReply → Option (List PlainDocument × List PlainReply) → Option (List PlainDocument × List PlainReply)
then_replies reply None = None
then_replies reply (Some rest) = Some (rest.0, reply ∷ rest.1)

-- the last collection, and all replies
abbrev pub replay_from : List PlainDocument → List PlainCommand → Option (List PlainDocument × List PlainReply)
replay_from documents [] = Some (documents, [])
replay_from documents (command ∷ commands) =
    after (plain_step documents command) (λ next. then_replies next.1 (replay_from next.0 commands))

abbrev pub plain_replay : List PlainCommand → Option (List PlainDocument × List PlainReply)
plain_replay commands = replay_from [] commands
