-- How often a journal indexes each word, and which words it looks for or opens. The journal stands beside its plain
-- commands. Rows that a step opens depend on the state, so the words are told entry by entry beside it.
use Rattle.std.specs.Prelude.{ℕ, ◌==◌, List, [], ◌∷◌, ◌++◌, Bool, true, false, not, bytes_eq, Option, None, Some, if◌then◌else◌}
use Rattle.std.specs.FinMap.{empty}
use Rattle.qe_base.specs.declared.maintenance.Count.{Count}
use Rattle.qe_tokens.specs.declared.words.FieldToken.{FieldToken}
use Rattle.qe_tokens.specs.declared.words.Word.{Word}
use Rattle.qe_tokens.specs.declared.words.Word.TheVariants.{Stray}
use Rattle.qe_ecoc.specs.declared.rows.Entry.{Entry}
use Rattle.qe_plain.specs.declared.command.PlainCommand.{PlainCommand}
use Rattle.qe_command.specs.declared.command.Command.{Command}
use Rattle.qe_command.specs.declared.command.Command.TheVariants as c
use Rattle.qe_protocol.specs.declared.journal.JournalEntry.{JournalEntry}
use Rattle.qe_protocol.specs.declared.reply.Outcome.{Outcome}
use Rattle.qe_protocol.specs.declared.reply.Outcome.TheVariants as o
use Rattle.qe_protocol.specs.State.{Job, State}
use Rattle.qe_protocol.specs.Jobs.{step_units}
use Rattle.qe_protocol.specs.Journal.{done, opening}
use Rattle.qe_protocol.specs.Units.{opened_row, token_for}
use Rattle.qe_labels.specs.Numbers.{Numbers, all_learned, all_raised}
use Rattle.qe_labels.specs.Under.{Under}
use Rattle.qe_encodes.specs.Payloads.{ecoc_token}
use Rattle.qe_encodes.specs.Words.{stored_words, sought_words}

-- whether an insert or an update stored its values
abbrev pub is_accepted : Outcome → Bool
is_accepted o.Inserted = true
is_accepted (o.Updated count) = not (count == 0)
is_accepted _ = false

-- rows that a step of the job asked for opens, with the tokens that the job was begun with
abbrev pub opened_by : State → ℕ → List (List ℕ) → List Count → Option Job → List FieldToken × List Entry
opened_by state asked nonces counts None = ([], [])
opened_by state asked nonces counts (Some job) =
    if job.number == asked then (job.tokens, (step_units state job nonces counts).opened) else ([], [])

abbrev pub opened_in : State → Command → List (List ℕ) → List Count → List FieldToken × List Entry
opened_in state (c.Step asked limit) nonces counts = opened_by state asked nonces counts state.jobs.job
opened_in state _ nonces counts = ([], [])

module _ (u : Under) where
  -- a row that is opened with another token than its field's gives a stray word
  abbrev pub strays_of : List FieldToken → List Entry → List Word
  strays_of tokens [] = []
  strays_of tokens (row ∷ rows) =
      (if bytes_eq (token_for tokens row.field) (ecoc_token u row.field) then [] else Stray (opened_row tokens row).token ∷ [])
      ++ strays_of tokens rows

  abbrev pub stray_words : State → Command → List (List ℕ) → List Count → List Word
  stray_words state command nonces counts = let opened = opened_in state command nonces counts in strays_of opened.0 opened.1

  -- what the words become by a command, what goes with it, and what it led to: those that it looks for or opens are known,
  -- and those of values that it stored count once more
  abbrev pub numbers_by : State → PlainCommand → Command → List (List ℕ) → List Count → Outcome → Numbers → Numbers
  numbers_by state plain command nonces counts outcome numbers =
      let sought = all_learned numbers (sought_words u.schema plain command) in
      let stored = if is_accepted outcome then all_raised sought (stored_words u.schema plain command) else sought in
      all_learned stored (stray_words state command nonces counts)

  abbrev pub numbers_with : State → PlainCommand → JournalEntry → Numbers → Numbers
  numbers_with state plain entry numbers = numbers_by state plain entry.command entry.nonces entry.counts entry.outcome numbers

  -- the words after a list of entries, from a state and the words before it
  abbrev pub numbers_from : State → Numbers → List PlainCommand → List JournalEntry → Numbers
  numbers_from state numbers [] entries = numbers
  numbers_from state numbers (plain ∷ plains) [] = numbers
  numbers_from state numbers (plain ∷ plains) (entry ∷ entries) =
      numbers_from (done state entry).state (numbers_with state plain entry numbers) plains entries

  -- the words of a journal
  unfoldable pub numbers_of : List PlainCommand → List JournalEntry → Numbers
  numbers_of plains journal = numbers_from (opening u.schema) empty plains journal
