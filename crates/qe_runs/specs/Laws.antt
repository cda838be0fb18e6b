-- What holds of runs.
use Rattle.std.specs.Prelude.{◌≡◌, ◌^◌, ◌%◌, ℕ, List, [], ◌∷◌, ◌++◌, length}
use Rattle.std.specs.List.{AllByRecursion}
use Rattle.qe_protocol.specs.declared.journal.JournalEntry.{JournalEntry}
use Rattle.qe_protocol.specs.Journal.{IsAllowed, state_of}
use Rattle.qe_script.specs.declared.script.Line.{Line}
use Rattle.qe_labels.specs.Laws.{IsFree}
use Rattle.qe_labels.specs.Under.{root_of}
use Rattle.qe_encodes.specs.Callers.{opening_callers}
use Rattle.qe_encodes.specs.Counted.{numbers_of}
use Rattle.qe_encodes.specs.Encoded.{IsEncoded}
use Rattle.qe_encodes.specs.Meant.{IsMeant}
use Rattle.qe_laws.specs.Journals.{IsAnsweredPlainly}
use Rattle.qe_runs.specs.Runs.{Setting, IsLineSent, IsRun, callers_after, commands_of, own_commands}

-- a run grows by an entry that is allowed and that the next line's caller sent, as it stands then; each run is made so
pub record RunsGrow (setting : Setting) : Type 0 where
  pub empty : IsRun setting [] []
  pub more : (lines : List Line) (journal : List JournalEntry) (line : Line) (entry : JournalEntry) → IsRun setting lines journal
      → IsAllowed setting.under.schema (state_of setting.under.schema journal) entry
      → IsLineSent setting (callers_after (opening_callers setting.under.schema) lines journal) line entry
      → IsRun setting (lines ++ line ∷ []) (journal ++ entry ∷ [])
  pub before : (lines : List Line) (journal : List JournalEntry) (line : Line) (entry : JournalEntry)
      → IsRun setting (lines ++ line ∷ []) (journal ++ entry ∷ []) → IsRun setting lines journal
  pub many : (lines : List Line) (journal : List JournalEntry) → IsRun setting lines journal → length journal ≡ length lines

-- a run of commands that mean something is encoded
abbrev pub RunsEncode : Setting → Type 0
RunsEncode setting = (lines : List Line) (journal : List JournalEntry)
    → AllByRecursion (λ line. IsMeant setting.under.schema line.command) lines → IsRun setting lines journal
    → IsEncoded setting.under (commands_of lines) journal

-- a caller's next command has the number of its earlier ones, in 64 bits
abbrev pub CallersCount : Setting → Type 0
CallersCount setting = (lines : List Line) (journal : List JournalEntry) (who : ℕ) → IsRun setting lines journal
    → (callers_after (opening_callers setting.under.schema) lines journal who).number ≡ length (own_commands who lines) % 2 ^ 64

-- a run without a clash is the only one of its lines
abbrev pub OneRun : Setting → Type 0
OneRun setting = (lines : List Line) (journal other : List JournalEntry)
    → AllByRecursion (λ line. IsMeant setting.under.schema line.command) lines → IsRun setting lines journal
    → IsFree (root_of setting.under) (numbers_of setting.under (commands_of lines) journal) → IsRun setting lines other → journal ≡ other

-- a run without a clash is answered plainly: its replies, but for maintenance and for what a contention refused, are those of
-- the plain replay of the other commands
abbrev pub RunsAreAnsweredPlainly : Setting → Type 0
RunsAreAnsweredPlainly setting = (lines : List Line) (journal : List JournalEntry)
    → AllByRecursion (λ line. IsMeant setting.under.schema line.command) lines → IsRun setting lines journal
    → IsFree (root_of setting.under) (numbers_of setting.under (commands_of lines) journal) → IsAnsweredPlainly setting.under (commands_of lines) journal
