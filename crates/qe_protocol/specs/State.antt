-- What the server keeps. Identifiers, tokens and nonces are lists of bytes.
use Rattle.std.specs.Prelude.{ℕ, ◌+◌, List, [], length, Option, None}
use Rattle.std.specs.FinMap.{empty}
use Rattle.qe_base.specs.declared.maintenance.JobKind.{JobKind}
use Rattle.qe_tokens.specs.declared.words.FieldToken.{FieldToken}
use Rattle.qe_esc.specs.Rows.{Rows}
use Rattle.qe_ecoc.specs.declared.rows.Entry.{Entry}
use Rattle.qe_store.specs.declared.stored.Stored.{Stored}
use Rattle.qe_protocol.specs.declared.reply.Reply.{Reply}

-- what indexing adds to: rows by identifier (ESC), and the rows that the next compaction or cleanup reads (ECOC)
pub record Index : Type 0 where
  pub rows : Rows
  pub ecoc : List Entry

-- a job that runs: its number, its kind, the tokens that were sent with it, and how many rows of leaves it has handled
pub record Job : Type 0 where
  pub number : ℕ
  pub kind : JobKind
  pub tokens : List FieldToken
  pub leaves : ℕ

-- the work of maintenance: rows aside, which are opened one after another; identifiers of positions that were captured
-- and of anchors that are doomed, which are taken out then; the job, if one runs; and the last job's number
pub record Jobs : Type 0 where
  pub aside : List Entry
  pub captured : List (List ℕ)
  pub doomed : List (List ℕ)
  pub job : Option Job
  pub last : ℕ

-- documents in the order of insertion, the index, maintenance, and each field's current contention by its number
pub record State : Type 0 where
  pub docs : List Stored
  pub index : Index
  pub jobs : Jobs
  pub current : List ℕ

-- how much work is left
abbrev pub left_of : Jobs → ℕ
left_of jobs = length jobs.aside + length jobs.doomed + length jobs.captured

-- no documents, no rows, no work, and no job before the first
abbrev pub opening_with : List ℕ → State
opening_with current = record {
  docs = [];
  index = record { rows = empty; ecoc = [] };
  jobs = record { aside = []; captured = []; doomed = []; job = None; last = 0 };
  current = current;
}

-- what a command leads to: the state, the reply, and the fields of the rows that were opened
pub record Done : Type 0 where
  pub state : State
  pub reply : Reply
  pub opened : List ℕ

-- a reply without any row opened
abbrev pub answered : State → Reply → Done
answered state reply = record { state = state; reply = reply; opened = [] }
