-- What serving a command comes to, by the definitions of the protocol.
use Rattle.std.specs.Prelude.{◌≡◌, ◌≤◌, ◌+◌, ℕ, List, [], map, Option, Some}
use Rattle.qe_store.specs.declared.stored.Stored.{Stored}
use Rattle.qe_command.specs.declared.command.Command.{Command}
use Rattle.qe_protocol.specs.declared.reply.Reply.{Reply}
use Rattle.qe_protocol.specs.State.{Job, State, Done, answered}
use Rattle.qe_protocol.specs.Jobs.{on_job, AllowedStep}
use Rattle.qe_protocol.specs.Next.{served, next, AllowedServed, AllowedCounts}
use Rattle.qe_serving.specs.declared.collections.Collections.{Collections}
use Rattle.qe_serving.specs.declared.made.Made.{Made}

-- the documents of a store
abbrev pub docs_in : List (ℕ × Stored) → List Stored
docs_in documents = map (λ d. d.1) documents

-- the state that the collections hold
abbrev pub state_in : Collections → State
state_in kept = record {
  docs = docs_in kept.store.documents;
  index = record { rows = kept.esc.rows; ecoc = kept.ecoc.rows };
  jobs = kept.upkeep;
  current = kept.current.items;
}

-- what was made, with the state that it led to
abbrev pub done_by : State → Made → Done
done_by state made = record { state = state; reply = made.reply; opened = made.opened }

-- a command that isn't refused before all else
pub record IsServed (old new : State) (command : Command) (nonces : List (List ℕ)) (made : Made) : Type 0 where
  pub allowed : AllowedServed old command nonces made.counts
  pub does : served old command nonces made.counts ≡ done_by new made

-- any command
pub record IsNext (old new : State) (command : Command) (nonces : List (List ℕ)) (made : Made) : Type 0 where
  pub allowed : AllowedCounts old command nonces made.counts
  pub does : next old command nonces made.counts ≡ done_by new made

-- a call adds one document at most
abbrev pub AddsOne : Collections → Collections → Type 0
AddsOne old new = new.store.made ≤ old.store.made + 1

-- the job asked for doesn't run, which is answered so, without a search
pub record IsOff (state : State) (asked : ℕ) (reply : Reply) : Type 0 where
  pub replied : (go : Job → Done) → on_job state asked state.jobs.job go ≡ answered state reply
  pub quiet : (nonces : List (List ℕ)) → AllowedStep state asked nonces []

-- it runs
pub record RunsAsked (asked : ℕ) (running : Option Job) : Type 0 where
  pub job : Job
  pub runs : running ≡ Some job
  pub number : job.number ≡ asked
