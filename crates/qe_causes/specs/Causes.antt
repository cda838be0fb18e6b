-- Why a command is refused: the cause of each reply that says so, in the state that the command meets; that of a mismatch in the
-- rows after the step's earlier units.
use Rattle.std.specs.Prelude.{◌≡◌, ◌≢◌, ◌↔◌, ◌<◌, ◌≤◌, ℕ, nat_abs, List, [], ◌∷◌, ◌++◌, Bool, true, false, Option, None, Some}
use Rattle.std.specs.List.{AllByRecursion}
use Rattle.qe_base.specs.declared.maintenance.Count.{Count}
use Rattle.qe_base.specs.declared.maintenance.JobKind.{JobKind}
use Rattle.qe_tokens.specs.declared.words.FieldToken.{FieldToken}
use Rattle.qe_esc.specs.Rows.{has}
use Rattle.qe_esc.specs.Identifiers.{id_of}
use Rattle.qe_esc.specs.declared.key.RowKind.TheVariants.{Anchor}
use Rattle.qe_ecoc.specs.declared.rows.Entry.{Entry}
use Rattle.qe_command.specs.declared.cells.SentCell.{SentCell}
use Rattle.qe_command.specs.declared.cells.SentCell.TheVariants as sent
use Rattle.qe_command.specs.declared.command.Command.{Command}
use Rattle.qe_command.specs.declared.command.Command.TheVariants as c
use Rattle.qe_command.specs.declared.filter.SentTerm.{SentTerm}
use Rattle.qe_command.specs.declared.filter.SentTerm.TheVariants as t
use Rattle.qe_protocol.specs.declared.reply.Reply.{Reply}
use Rattle.qe_protocol.specs.declared.reply.Reply.TheVariants as r
use Rattle.qe_protocol.specs.State.{Job, State, left_of}
use Rattle.qe_protocol.specs.Contention.{current_of}
use Rattle.qe_protocol.specs.Documents.{has_document}
use Rattle.qe_protocol.specs.Jobs.{has_token, will_be_aside, work_of}
use Rattle.qe_protocol.specs.Laws.{RunsAs}
use Rattle.qe_protocol.specs.Next.{next}
use Rattle.qe_protocol.specs.Units.{Work, units}

-- the first item of a list that fails; all before it pass
pub record IsFirstOf {A : Type 0} (Passes Fails : A → Type 0) (xs : List A) : Type 0 where
  pub front : List A
  pub one : A
  pub back : List A
  pub are : xs ≡ front ++ one ∷ back
  pub before : AllByRecursion Passes front
  pub fails : Fails one

-- CONTENTION

-- a term asks for the factors of a field from 0 to a greatest one
abbrev pub AsksFor : SentTerm → ℕ → ℕ → Type 0
AsksFor (t.Id id) field greatest = ⊥
AsksFor (t.Equal number payload) field greatest = (number ≡ field) × (nat_abs payload.cm ≡ greatest)
AsksFor (t.Range number payload) field greatest = (number ≡ field) × (nat_abs payload.cm ≡ greatest)

-- among them are all that are in use
abbrev pub AsksForAll : List ℕ → SentTerm → Type 0
AsksForAll current term = (field greatest : ℕ) → AsksFor term field greatest → current_of current field ≤ greatest

-- a value of a field has a factor
abbrev pub HasFactorAs : ℕ → SentCell → ℕ → ℕ → Type 0
HasFactorAs number (sent.Plain value) field factor = ⊥
HasFactorAs number (sent.Payload payload) field factor = (number ≡ field) × (nat_abs payload.k ≡ factor)

abbrev pub HasFactor : ℕ × SentCell → ℕ → ℕ → Type 0
HasFactor cell field factor = HasFactorAs cell.0 cell.1 field factor

-- it is one of those in use
abbrev pub IsInUse : List ℕ → ℕ × SentCell → Type 0
IsInUse current cell = (field factor : ℕ) → HasFactor cell field factor → factor ≤ current_of current field

abbrev pub filter_of : Command → List SentTerm
filter_of (c.Find terms ids) = terms
filter_of (c.Update terms set) = terms
filter_of (c.Delete terms) = terms
filter_of _ = []

abbrev pub values_of : Command → List (ℕ × SentCell)
values_of (c.Insert id cells) = cells
values_of (c.Update terms set) = set
values_of _ = []

-- the first term that doesn't ask for all factors in use
abbrev pub AsksForFewer : List ℕ → Command → ℕ → ℕ → ℕ → Type 0
AsksForFewer current command field got now =
    IsFirstOf (AsksForAll current) (λ term. AsksFor term field got × (now ≡ current_of current field) × (got < now)) (filter_of command)

-- the first value whose factor isn't in use, of a command whose terms ask for all that are
abbrev pub HasUnused : List ℕ → Command → ℕ → ℕ → ℕ → Type 0
HasUnused current command field got now =
    AllByRecursion (AsksForAll current) (filter_of command)
    × IsFirstOf (IsInUse current) (λ cell. HasFactor cell field got × (now ≡ current_of current field) × (now < got)) (values_of command)

-- a raise to a number that isn't above the current one
abbrev pub RaisesNothing : State → Command → ℕ → ℕ → Type 0
RaisesNothing state (c.Raise field contention) asked now =
    (asked ≡ contention) × (now ≡ current_of state.current field) × (asked ≤ now)
RaisesNothing state _ asked now = ⊥

-- DOCUMENTS

-- an insert meets its id, and all its factors are in use
abbrev pub MeetsId : State → Command → Type 0
MeetsId state (c.Insert id cells) = AllByRecursion (IsInUse state.current) cells × (has_document id state.docs ≡ true)
MeetsId state _ = ⊥

-- JOBS

-- a begin meets the job that runs
abbrev pub MeetsJob : State → Command → ℕ → Type 0
MeetsJob state (c.Begin kind tokens) number = RunsAs number state.jobs.job
MeetsJob state _ number = ⊥

-- a begin without a token for the first row, of those that would be aside, that has none
abbrev pub LacksToken : State → Command → ℕ → Type 0
LacksToken state (c.Begin kind tokens) field =
    (state.jobs.job ≡ None)
    × IsFirstOf (λ row. has_token tokens row.field ≡ true) (λ row. (row.field ≡ field) × (has_token tokens row.field ≡ false)) (will_be_aside state)
LacksToken state _ field = ⊥

-- the job that a command is for
abbrev pub job_asked : Command → Option ℕ
job_asked (c.Step job limit) = Some job
job_asked (c.End job) = Some job
job_asked (c.Abandon job) = Some job
job_asked _ = None

-- another job runs, or none, which is 0
abbrev pub RunsOther : ℕ → ℕ → Option Job → Type 0
RunsOther asked running None = running ≡ 0
RunsOther asked running (Some job) = (job.number ≡ running) × (running ≢ asked)

abbrev pub AsksForOther : State → Command → ℕ → ℕ → Type 0
AsksForOther state command asked running = (job_asked command ≡ Some asked) × RunsOther asked running state.jobs.job

-- an end of the job that runs, of whose work some is left
abbrev pub EndsEarly : State → Command → ℕ → Type 0
EndsEarly state (c.End asked) left = RunsAs asked state.jobs.job × (left ≡ left_of state.jobs) × (left ≢ 0)
EndsEarly state _ left = ⊥

-- after some units without a mismatch the row that is opened next is of this field, and the count that is told for it is of a token
-- without a null anchor, with no anchor and no position found
pub record Mismatches (kind : JobKind) (tokens : List FieldToken) (nonces : List (List ℕ)) (work : Work) (counts : List Count) (field : ℕ) : Type 0 where
  pub before : List (List ℕ)
  pub nonce : List ℕ
  pub behind : List (List ℕ)
  pub nonces_are : nonces ≡ before ++ nonce ∷ behind
  pub went_on : (units kind tokens before work counts).mismatch ≡ None
  pub row : Entry
  pub rows : List Entry
  pub row_is : (units kind tokens before work counts).work.aside ≡ row ∷ rows
  pub field_is : row.field ≡ field
  pub count : Count
  pub counts_left : List Count
  pub count_is : (units kind tokens before work counts).rest ≡ count ∷ counts_left
  pub no_null_anchor : has (units kind tokens before work counts).work.rows (id_of Anchor count.token 0) ≡ false
  pub no_anchor : count.hop ≡ 0
  pub no_position : count.positions ≡ 0

abbrev pub MismatchesIn : State → ℕ → List (List ℕ) → List Count → ℕ → Option Job → Type 0
MismatchesIn state asked nonces counts field None = ⊥
MismatchesIn state asked nonces counts field (Some job) =
    (job.number ≡ asked) × Mismatches job.kind job.tokens nonces (work_of state job) counts field

-- a step of the job that runs
abbrev pub MeetsMismatch : State → Command → List (List ℕ) → List Count → ℕ → Type 0
MeetsMismatch state (c.Step asked limit) nonces counts field = MismatchesIn state asked nonces counts field state.jobs.job
MeetsMismatch state _ nonces counts field = ⊥

-- ALL

abbrev pub is_refusal : Reply → Bool
is_refusal r.DuplicateId = true
is_refusal (r.JobRunning job) = true
is_refusal (r.NoJob asked running) = true
is_refusal (r.TokenMissing field) = true
is_refusal (r.TokenMismatch field) = true
is_refusal (r.NotDone left) = true
is_refusal (r.NotRaised asked current) = true
is_refusal (r.ContentionBelow field got current) = true
is_refusal (r.ContentionOver field got current) = true
is_refusal _ = false

-- the cause of a refusal; the other replies need none
abbrev pub IsCaused : State → Command → List (List ℕ) → List Count → Reply → Type 0
IsCaused state command nonces counts r.DuplicateId = MeetsId state command
IsCaused state command nonces counts (r.JobRunning job) = MeetsJob state command job
IsCaused state command nonces counts (r.NoJob asked running) = AsksForOther state command asked running
IsCaused state command nonces counts (r.TokenMissing field) = LacksToken state command field
IsCaused state command nonces counts (r.TokenMismatch field) = MeetsMismatch state command nonces counts field
IsCaused state command nonces counts (r.NotDone left) = EndsEarly state command left
IsCaused state command nonces counts (r.NotRaised asked now) = RaisesNothing state command asked now
IsCaused state command nonces counts (r.ContentionBelow field got now) = AsksForFewer state.current command field got now
IsCaused state command nonces counts (r.ContentionOver field got now) = HasUnused state.current command field got now
IsCaused state command nonces counts _ = Unit {0}

abbrev pub EachHasItsCause : Type 0
EachHasItsCause = (state : State) (command : Command) (nonces : List (List ℕ)) (counts : List Count) (reply : Reply) → is_refusal reply ≡ true
    → ((next state command nonces counts).reply ≡ reply) ↔ IsCaused state command nonces counts reply
