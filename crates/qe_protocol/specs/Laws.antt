-- What holds of all commands.
use Rattle.std.specs.Prelude.{◌≡◌, ℕ, ◌+◌, ◌-◌, ◌*◌, ◌==◌, List, [], ◌∷◌, ◌++◌, map, length, nat_abs, Bool, true, false, None, ◌≤◌, ◌<◌, ◌^◌, ◌↔◌, bytes_eq, Option, Some, is_some, slice_get, slice_set}
use Rattle.std.specs.List.{list_any, AllByRecursion}
use Rattle.std.specs.List.Sorted.{IsStrictlySortedBy}
use Rattle.std.specs.FinMap.{get}
use Rattle.std.specs.Cmp.Lexicographic.{slice_cmp}
use Rattle.std.specs.Ordering.{nat_cmp}
use Rattle.qe_base.specs.declared.maintenance.Count.{Count}
use Rattle.qe_tokens.specs.Tokens.{document_tag_of, edc_twice_of}
use Rattle.qe_parts.specs.declared.edges.EdgeTokens.{EdgeTokens}
use Rattle.qe_parts.specs.declared.edges.FindEdge.{FindEdge}
use Rattle.qe_ecoc.specs.declared.rows.Entry.{Entry}
use Rattle.qe_insert.specs.declared.insert.InsertPayload.{InsertPayload}
use Rattle.qe_command.specs.declared.cells.SentCell.TheVariants as sent
use Rattle.qe_command.specs.Items.{items_of}
use Rattle.qe_command.specs.Nonces.{cell_nonces}
use Rattle.qe_base.specs.declared.maintenance.JobKind.{JobKind}
use Rattle.qe_base.specs.declared.maintenance.JobKind.TheVariants.{Compact}
use Rattle.qe_find.specs.declared.equal.FindEqual.{FindEqual}
use Rattle.qe_find.specs.declared.range.FindRange.{FindRange}
use Rattle.qe_tokens.specs.declared.words.FieldToken.{FieldToken}
use Rattle.qe_value.specs.declared.value.Value.{Value}
use Rattle.qe_value.specs.Views.{plain}
use Rattle.qe_plain.specs.Collection.{same_value}
use Rattle.qe_plain.specs.Laws.{IsWritable}
use Rattle.qe_store.specs.declared.stored.Stored.{Stored}
use Rattle.qe_command.specs.declared.command.Command.{Command}
use Rattle.qe_command.specs.declared.command.Command.TheVariants as c
use Rattle.qe_command.specs.declared.filter.SentTerm.TheVariants as t
use Rattle.qe_command_fits.specs.OfSchema.{IsIdValue}
use Rattle.qe_protocol.specs.declared.reply.Reply.{Reply}
use Rattle.qe_protocol.specs.declared.reply.Reply.TheVariants as r
use Rattle.qe_protocol.specs.State.{Index, Job, Jobs, State, Done, left_of}
use Rattle.qe_protocol.specs.Filters.{same_id, search_of, term_searches}
use Rattle.qe_protocol.specs.Counting.{next_number}
use Rattle.qe_protocol.specs.Contention.{current_of}
use Rattle.qe_protocol.specs.Indexing.{tags_of, cell_tags, indexed, index_cell, AllowedItems}
use Rattle.qe_protocol.specs.Jobs.{is_parked, first_missing, begin_job, AllowedStep}
use Rattle.qe_protocol.specs.Next.{next}
use Rattle.qe_protocol.specs.UnitLaws.{IsFirst}

-- something holds of what every command leads to, from every state
abbrev pub OfEach : (State → Command → Done → Type 0) → Type 0
OfEach Holds = (state : State) (command : Command) (nonces : List (List ℕ)) (counts : List Count)
    → Holds state command (next state command nonces counts)

-- replies that say that nothing was changed
abbrev pub changes_nothing : Reply → Bool
changes_nothing r.DuplicateId = true
changes_nothing (r.Updated count) = count == 0
changes_nothing (r.Deleted count) = count == 0
changes_nothing (r.Found rows) = true
changes_nothing (r.Ids ids) = true
changes_nothing (r.JobRunning job) = true
changes_nothing (r.NoJob asked running) = true
changes_nothing (r.TokenMissing field) = true
changes_nothing (r.NotDone left) = true
changes_nothing (r.NotRaised asked current) = true
changes_nothing (r.ContentionBelow field got current) = true
changes_nothing (r.ContentionOver field got current) = true
changes_nothing _ = false

-- then nothing is
abbrev pub ChangesNothing : State → Command → Done → Type 0
ChangesNothing state command done = changes_nothing done.reply ≡ true → done.state ≡ state

-- what a step leaves that met a mismatch: no job runs, the rows that it handled aren't aside any more, the first of those
-- that are is of that field, and what it doomed comes behind what was doomed
pub record IsParkedAt (before after : State) (field : ℕ) : Type 0 where
  pub docs : after.docs ≡ before.docs
  pub ecoc : after.index.ecoc ≡ before.index.ecoc
  pub current : after.current ≡ before.current
  pub last : after.jobs.last ≡ before.jobs.last
  pub job : after.jobs.job ≡ None
  pub handled : List Entry
  pub aside : before.jobs.aside ≡ handled ++ after.jobs.aside
  pub first : IsFirst field after.jobs.aside
  pub captured : after.jobs.captured ≡ before.jobs.captured
  pub more : List (List ℕ)
  pub doomed : after.jobs.doomed ≡ before.jobs.doomed ++ more

abbrev pub ParksAtMismatch : State → Command → Done → Type 0
ParksAtMismatch state command done = (field : ℕ) → done.reply ≡ r.TokenMismatch field → IsParkedAt state done.state field

-- a job that runs is the same one still
pub record IsSameJob (before after : Job) : Type 0 where
  pub number : after.number ≡ before.number
  pub kind : after.kind ≡ before.kind
  pub tokens : after.tokens ≡ before.tokens

abbrev pub RunsOn : Option Job → Option Job → Type 0
RunsOn (Some before) (Some after) = IsSameJob before after
RunsOn _ _ = ⊥

-- what a step leaves that met none: the reply says how much is left, and the job runs on
abbrev pub SaysWhatIsLeft : State → Command → Done → Type 0
SaysWhatIsLeft state command done = (left : ℕ) → done.reply ≡ r.Stepped left
    → (left ≡ left_of done.state.jobs) × RunsOn state.jobs.job done.state.jobs.job

-- as long as a document isn't deleted, its id stays where it is, and new ones come behind
abbrev pub is_delete : Command → Bool
is_delete (c.Delete terms) = true
is_delete _ = false

abbrev pub ids_of : List Stored → List Value
ids_of docs = map (λ stored. stored.id) docs

abbrev pub KeepsDocuments : State → Command → Done → Type 0
KeepsDocuments state command done =
    is_delete command ≡ false → (new : List Value) × (ids_of done.state.docs ≡ ids_of state.docs ++ new)

-- in the place of some documents stand others
pub record IsInPlace (before after old new : List Stored) : Type 0 where
  pub front : List Stored
  pub back : List Stored
  pub was : before ≡ front ++ (old ++ back)
  pub is : after ≡ front ++ (new ++ back)

-- one at most stands in the place of one with its id
abbrev pub ReplacesOne : List Stored → List Stored → Type 0
ReplacesOne before after =
    (old : List Stored) × ((new : List Stored) × (IsInPlace before after old new × ((ids_of new ≡ ids_of old) × (length old ≤ 1))))

-- one at most is taken out
abbrev pub RemovesOne : List Stored → List Stored → Type 0
RemovesOne before after = (old : List Stored) × (IsInPlace before after old [] × (length old ≤ 1))

-- an insert adds one document at most, behind all; no command but an insert, an update and a delete changes any
abbrev pub ChangedBy : Command → List Stored → List Stored → Type 0
ChangedBy (c.Insert id cells) before after = (new : List Stored) × ((after ≡ before ++ new) × (length new ≤ 1))
ChangedBy (c.Update terms set) before after = ReplacesOne before after
ChangedBy (c.Delete terms) before after = RemovesOne before after
ChangedBy _ before after = after ≡ before

abbrev pub ChangesOneAtMost : State → Command → Done → Type 0
ChangesOneAtMost state command done = ChangedBy command state.docs done.state.docs

-- ids are distinct
abbrev pub AreApart : List Value → Type 0
AreApart [] = Unit {0}
AreApart (id ∷ ids) = (list_any (same_id id) ids ≡ false) × AreApart ids

-- of two ids, it says the same that they are equal, as the store compares them, and that they have one type and the same bytes, as the
-- plain collection does
pub record AgreesOn (a b : Value) : Type 0 where
  pub equal : (same_id a b ≡ true) ↔ (a ≡ b)
  pub value : IsWritable (plain a) → IsWritable (plain b) → same_id a b ≡ same_value (plain a) (plain b)

abbrev pub IdsAgree : Type 0
IdsAgree = (a b : Value) → IsIdValue a → IsIdValue b → AgreesOn a b

abbrev pub KeepsApart : State → Command → Done → Type 0
KeepsApart state command done = AreApart (ids_of state.docs) → AreApart (ids_of done.state.docs)

-- each document's tags are those of its cells' blocks
abbrev pub AreTagged : List Stored → Type 0
AreTagged docs = AllByRecursion (λ stored. stored.tags ≡ tags_of stored.cells) docs

abbrev pub KeepsTags : State → Command → Done → Type 0
KeepsTags state command done = AreTagged state.docs → AreTagged done.state.docs

-- the job that runs has a number
abbrev pub RunsAs : ℕ → Option Job → Type 0
RunsAs number None = ⊥
RunsAs number (Some job) = job.number ≡ number

-- the last number grows by one where a job begins, which runs under it, and stays else
abbrev pub IsLast : ℕ → Reply → Jobs → Type 0
IsLast before (r.Begun job) after = (job ≡ before + 1) × ((after.last ≡ before + 1) × RunsAs (before + 1) after.job)
IsLast before _ after = after.last ≡ before

abbrev pub CountsJobs : State → Command → Done → Type 0
CountsJobs state command done = IsLast state.jobs.last done.reply done.state.jobs

-- a begin leaves the four lists where something is parked
pub record LeavesLists (before after : State) : Type 0 where
  pub rows : after.index.rows ≡ before.index.rows
  pub ecoc : after.index.ecoc ≡ before.index.ecoc
  pub aside : after.jobs.aside ≡ before.jobs.aside
  pub captured : after.jobs.captured ≡ before.jobs.captured
  pub doomed : after.jobs.doomed ≡ before.jobs.doomed

abbrev pub ResumesParked : Type 0
ResumesParked = (kind : JobKind) (tokens : List FieldToken) (state : State) → is_parked state.jobs ≡ true
    → LeavesLists state (begin_job kind tokens state).state

-- a job that begins has the kind and the tokens that were sent, and no leaves, whether something was parked or not
abbrev pub IsStarted : JobKind → List FieldToken → ℕ → Reply → Option Job → Type 0
IsStarted kind tokens last (r.Begun number) job = job ≡ Some (record { number = last + 1; kind = kind; tokens = tokens; leaves = 0 })
IsStarted kind tokens last _ job = Unit {0}

abbrev pub StartsAsSent : Type 0
StartsAsSent = (state : State) (kind : JobKind) (tokens : List FieldToken) (nonces : List (List ℕ)) (counts : List Count)
    → let done = next state (c.Begin kind tokens) nonces counts in IsStarted kind tokens state.jobs.last done.reply done.state.jobs.job

-- nothing but the job changes
pub record LeavesAll (before after : State) : Type 0 where
  pub docs : after.docs ≡ before.docs
  pub lists : LeavesLists before after
  pub last : after.jobs.last ≡ before.jobs.last
  pub current : after.current ≡ before.current

-- the leaves that a job has handled
abbrev pub HasLeaves : ℕ → Option Job → Type 0
HasLeaves leaves None = ⊥
HasLeaves leaves (Some job) = leaves ≡ job.leaves

-- where the answer says that the job ended, none runs
abbrev pub IsStopped : Option Job → Reply → Option Job → Type 0
IsStopped before (r.Ended leaves) after = HasLeaves leaves before × (after ≡ None)
IsStopped before r.Abandoned after = after ≡ None
IsStopped before _ after = Unit {0}

abbrev pub StopsAlone : State → Done → Type 0
StopsAlone state done = LeavesAll state done.state × IsStopped state.jobs.job done.reply done.state.jobs.job

-- an end and an abandon
abbrev pub EndsAlone : Type 0
EndsAlone = (state : State) (job : ℕ) (nonces : List (List ℕ)) (counts : List Count)
    → StopsAlone state (next state (c.End job) nonces counts) × StopsAlone state (next state (c.Abandon job) nonces counts)

-- a filter's term is searched under each factor from 0 to the greatest, a range's edge by edge, and by no other search
pub record SearchesAllFactors : Type 0 where
  pub equal_at : (field : ℕ) (payload : FindEqual) (factor : ℕ) → factor ≤ nat_abs payload.cm
      → slice_get (term_searches (t.Equal field payload)) factor
      ≡ Some (search_of (record { d = payload.d; s = payload.s; l = payload.l }) factor)
  pub range_at : (field : ℕ) (payload : FindRange) (edge : FindEdge) (place factor : ℕ) → slice_get payload.g place ≡ Some edge
      → factor ≤ nat_abs payload.cm
      → slice_get (term_searches (t.Range field payload)) (place * (nat_abs payload.cm + 1) + factor) ≡ Some (search_of edge factor)
  pub equal : (field : ℕ) (payload : FindEqual) → length (term_searches (t.Equal field payload)) ≡ nat_abs payload.cm + 1
  pub range : (field : ℕ) (payload : FindRange) → length (term_searches (t.Range field payload)) ≡ length payload.g * (nat_abs payload.cm + 1)

-- nonces of 16 bytes
abbrev pub AreLong : List (List ℕ) → Type 0
AreLong nonces = AllByRecursion (λ nonce. length nonce ≡ 16) nonces

-- a value's items are one without edges, and 1 to 255 with them
pub record FewItems (payload : InsertPayload) : Type 0 where
  pub some : 1 ≤ length (items_of payload)
  pub most : length (items_of payload) ≤ 255
  pub one : is_some payload.g ≡ false → length (items_of payload) ≡ 1

-- of each item the document tag of its number
abbrev pub item_tags : ℕ → Index → List EdgeTokens → List Count → List (List ℕ)
item_tags field index [] counts = []
item_tags field index (item ∷ items) [] = []
item_tags field index (item ∷ items) (count ∷ counts) =
    document_tag_of (edc_twice_of item.d) (next_number index.rows count) ∷ item_tags field (indexed field index count item) items counts

-- the tags that a stored value has are those of its items' numbers, by which searches find it
abbrev pub StoresTags : Type 0
StoresTags = (field : ℕ) (index : Index) (payload : InsertPayload) (nonces : List (List ℕ)) (counts : List Count)
    → length payload.u ≡ 16 → FewItems payload → nat_abs payload.k < 2 ^ 64 → AreLong nonces → cell_nonces (sent.Payload payload) ≤ length nonces
    → AllowedItems field index (items_of payload) counts
    → cell_tags (index_cell field index (sent.Payload payload) nonces counts).cell ≡ item_tags field index (items_of payload) counts

-- a begin where nothing is parked takes all rows for compaction aside, captures the positions and nothing else, each once and in
-- rising order, and leaves documents, rows and contentions; its job has the kind and the tokens that were sent, and has
-- handled no leaves
pub record TakesAll (kind : JobKind) (tokens : List FieldToken) (before after : State) : Type 0 where
  pub aside : after.jobs.aside ≡ before.index.ecoc
  pub ecoc : after.index.ecoc ≡ []
  pub captured : (id : List ℕ) → get before.index.rows id ≡ Some None → list_any (bytes_eq id) after.jobs.captured ≡ true
  pub nothing_else : (id : List ℕ) → list_any (bytes_eq id) after.jobs.captured ≡ true → get before.index.rows id ≡ Some None
  pub rising : IsStrictlySortedBy (slice_cmp nat_cmp) after.jobs.captured
  pub doomed : after.jobs.doomed ≡ before.jobs.doomed
  pub rows : after.index.rows ≡ before.index.rows
  pub docs : after.docs ≡ before.docs
  pub current : after.current ≡ before.current
  pub job : after.jobs.job ≡ Some (record { number = before.jobs.last + 1; kind = kind; tokens = tokens; leaves = 0 })

abbrev pub FreshTakesAll : Type 0
FreshTakesAll = (kind : JobKind) (tokens : List FieldToken) (state : State) → is_parked state.jobs ≡ false → state.jobs.job ≡ None
    → first_missing tokens state.index.ecoc ≡ None → TakesAll kind tokens state (begin_job kind tokens state).state

-- a raise that is answered so sets its field's contention, which was lower; nothing else changes one
abbrev pub ContentionsAfter : Command → Reply → List ℕ → List ℕ → Type 0
ContentionsAfter (c.Raise field asked) (r.Raised to) before after =
    (to ≡ asked) × ((current_of before field < asked) × (after ≡ slice_set before field asked))
ContentionsAfter _ _ before after = after ≡ before

abbrev pub RaisesAlone : State → Command → Done → Type 0
RaisesAlone state command done = ContentionsAfter command done.reply state.current done.state.current

-- a step, and then another: the state and the answer are those of the second, and both open rows
abbrev pub then_step : Done → Done → Done
then_step one other = record { state = other.state; reply = other.reply; opened = one.opened ++ other.opened }

-- a step of limit n + 1 is a step of limit 1 and then one of limit n, each with its own counts, as long as the first doesn't mismatch
abbrev pub StepsJoin : Type 0
StepsJoin = (state : State) (job left : ℕ) (nonce : List ℕ) (nonces : List (List ℕ)) (counts more : List Count)
    → let one = next state (c.Step job 1) (nonce ∷ []) counts in
    AllowedStep state job (nonce ∷ []) counts → one.reply ≡ r.Stepped left
    → next state (c.Step job (length nonces + 1)) (nonce ∷ nonces) (counts ++ more) ≡ then_step one (next one.state (c.Step job (length nonces)) nonces more)

-- a step of a compaction does a unit for each of its nonces, or all that are left, as long as none mismatches
abbrev pub StepsOn : Type 0
StepsOn = (state : State) (job : Job) (limit left : ℕ) (nonces : List (List ℕ)) (counts : List Count)
    → state.jobs.job ≡ Some job → job.kind ≡ Compact → AllowedStep state job.number nonces counts
    → (next state (c.Step job.number limit) nonces counts).reply ≡ r.Stepped left → left ≡ left_of state.jobs - length nonces
