-- What is due of a script: the text of its one run, or the line of the first clash of a run.
use Rattle.std.specs.Prelude.{◌≡◌, ℕ, List, Some, Ok}
use Rattle.qe_tokens.specs.declared.words.Label.{Label}
use Rattle.qe_protocol.specs.declared.journal.JournalEntry.{JournalEntry}
use Rattle.qe_script.specs.declared.script.Script.{Script}
use Rattle.qe_labels.specs.Clashes.{first_clash}
use Rattle.qe_runs.specs.Runs.{IsRunOf}
use Rattle.qe_run_texts.specs.Labels.{clash_line}
use Rattle.qe_play.specs.declared.due.Verdict.{Verdict}
use Rattle.qe_play.specs.declared.due.Verdict.TheVariants as v
use Rattle.qe_play.specs.Runs.{IsClear, labels_in, run_text}

-- a journal is the only run of the script
abbrev pub IsOnlyRun : Script → List JournalEntry → Type 0
IsOnlyRun script journal = (other : List JournalEntry) → IsRunOf script other → other ≡ journal

-- every run of the script has a clash
abbrev pub EachRunClashes : Script → Type 0
EachRunClashes script = (other : List JournalEntry) → IsRunOf script other → IsClear script other → ⊥

-- the text of THE RUN of a script, which has no clash and is the only one
pub record IsDone (script : Script) (text : List ℕ) : Type 0 where
  pub journal : List JournalEntry
  pub run : IsRunOf script journal
  pub clear : IsClear script journal
  pub only : IsOnlyRun script journal
  pub printed : run_text script journal ≡ Ok text

-- the line of the first two labels of a run that clash; each run of the script has a clash
pub record IsClashing (script : Script) (text : List ℕ) : Type 0 where
  pub journal : List JournalEntry
  pub run : IsRunOf script journal
  pub first : Label
  pub second : Label
  pub clash : first_clash (labels_in script journal) ≡ Some (first, second)
  pub every : EachRunClashes script
  pub printed : text ≡ clash_line script.schema first second

-- what is due of a script that ends so
abbrev pub IsDueAs : Script → Verdict → List ℕ → Type 0
IsDueAs script v.Done text = IsDone script text
IsDueAs script v.Clash text = IsClashing script text

-- whether a script has a run without a clash, or one with a clash
pub record HasClearRun (script : Script) : Type 0 where
  pub journal : List JournalEntry
  pub run : IsRunOf script journal
  pub clear : IsClear script journal

pub record HasClashingRun (script : Script) : Type 0 where
  pub journal : List JournalEntry
  pub run : IsRunOf script journal
  pub clashes : IsClear script journal → ⊥

abbrev pub IsVerdict : Script → Verdict → Type 0
IsVerdict script v.Done = HasClearRun script
IsVerdict script v.Clash = HasClashingRun script

-- a script has one verdict
abbrev pub HasOneVerdict : Script → Type 0
HasOneVerdict script = (one other : Verdict) → IsVerdict script one → IsVerdict script other → one ≡ other
