-- Runs of lines: each line's command is sent by its caller, in the lines' order.
use Rattle.std.specs.Prelude.{◌≡◌, ℕ, ◌==◌, List, [], ◌∷◌, map, slice_index_or, Bool, if◌then◌else◌}
use Rattle.qe_plain.specs.declared.command.PlainCommand.{PlainCommand}
use Rattle.qe_protocol.specs.declared.journal.JournalEntry.{JournalEntry}
use Rattle.qe_protocol.specs.Journal.{IsLegal}
use Rattle.qe_script.specs.declared.script.Line.{Line}
use Rattle.qe_script.specs.declared.script.Script.{Script}
use Rattle.qe_labels.specs.Under.{Under}
use Rattle.qe_encodes.specs.Callers.{Callers, callers_next, opening_callers}
use Rattle.qe_encodes.specs.Sending.{Sender, IsSent}

-- what a script says besides its lines and how it is printed
pub record Setting : Type 0 where
  pub under : Under
  pub leaves : Bool
  pub seed : List ℕ
  pub names : List (List ℕ)

abbrev pub setting_of : Script → Setting
setting_of script = record {
  under = record { schema = script.schema; keys = script.keys };
  leaves = script.leaf;
  seed = script.seed;
  names = script.callers;
}

-- the caller of a number, as a sender
abbrev pub sender_of : Setting → ℕ → Sender
sender_of setting who = record {
  under = setting.under;
  leaves = setting.leaves;
  seed = setting.seed;
  name = slice_index_or setting.names who [];
}

abbrev pub commands_of : List Line → List PlainCommand
commands_of lines = map (λ line. line.command) lines

module _ (setting : Setting) where
  -- an entry is a line's: the caller's, as it stands then
  pub record IsLineSent (callers : Callers) (line : Line) (entry : JournalEntry) : Type 0 where
    pub caller : entry.caller ≡ line.caller
    pub sent : IsSent (sender_of setting line.caller) (callers line.caller) line.command entry

  -- the entries are the lines', one after another
  abbrev pub SentFrom : Callers → List Line → List JournalEntry → Type 0
  SentFrom callers [] [] = Unit {0}
  SentFrom callers [] (entry ∷ entries) = ⊥
  SentFrom callers (line ∷ lines) [] = ⊥
  SentFrom callers (line ∷ lines) (entry ∷ entries) =
      IsLineSent callers line entry × SentFrom (callers_next callers line.caller line.command entry.outcome) lines entries

  -- A RUN of lines in their order: a legal journal, whose entries they sent
  pub record IsRun (lines : List Line) (journal : List JournalEntry) : Type 0 where
    pub legal : IsLegal setting.under.schema journal
    pub sent : SentFrom (opening_callers setting.under.schema) lines journal

-- all callers after lines and their entries
abbrev pub callers_after : Callers → List Line → List JournalEntry → Callers
callers_after callers [] entries = callers
callers_after callers (line ∷ lines) [] = callers
callers_after callers (line ∷ lines) (entry ∷ entries) =
    callers_after (callers_next callers line.caller line.command entry.outcome) lines entries

-- the run of a script
abbrev pub IsRunOf : Script → List JournalEntry → Type 0
IsRunOf script journal = IsRun (setting_of script) script.lines journal

-- a caller's commands among lines, and its entries in a journal
abbrev pub own_commands : ℕ → List Line → List PlainCommand
own_commands who [] = []
own_commands who (line ∷ lines) = if who == line.caller then line.command ∷ own_commands who lines else own_commands who lines

-- lines are an interleaving of the callers' lists: each caller's, in its order, and no other
abbrev pub IsInterleaving : (ℕ → List PlainCommand) → List Line → Type 0
IsInterleaving lists lines = (who : ℕ) → own_commands who lines ≡ lists who
