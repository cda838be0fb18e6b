-- The words of a journal's commands, without stray ones.
use Rattle.std.specs.Prelude.{◌≡◌, ℕ, List, [], ◌∷◌, length, if◌then◌else◌}
use Rattle.std.specs.FinMap.{empty}
use Rattle.qe_plain.specs.declared.command.PlainCommand.{PlainCommand}
use Rattle.qe_command.specs.declared.command.Command.{Command}
use Rattle.qe_protocol.specs.declared.journal.JournalEntry.{JournalEntry}
use Rattle.qe_protocol.specs.declared.reply.Outcome.{Outcome}
use Rattle.qe_protocol.specs.Journal.{IsLegal}
use Rattle.qe_labels.specs.Numbers.{Numbers, all_learned, all_raised}
use Rattle.qe_labels.specs.Under.{Under}
use Rattle.qe_encodes.specs.Counted.{is_accepted, numbers_of}
use Rattle.qe_encodes.specs.Words.{sought_words, stored_words}
use Rattle.qe_strays.specs.Strays.{strays_in}

module _ (u : Under) where
  -- the words that a command looks for are known, and those of values that it stored count once more
  abbrev pub met_by : Numbers → PlainCommand → Command → Outcome → Numbers
  met_by numbers plain command outcome =
      let sought = all_learned numbers (sought_words u.schema plain command) in
      if is_accepted outcome then all_raised sought (stored_words u.schema plain command) else sought

  abbrev pub met_from : Numbers → List PlainCommand → List JournalEntry → Numbers
  met_from numbers [] entries = numbers
  met_from numbers (plain ∷ plains) [] = numbers
  met_from numbers (plain ∷ plains) (entry ∷ entries) = met_from (met_by numbers plain entry.command entry.outcome) plains entries

  abbrev pub met_of : List PlainCommand → List JournalEntry → Numbers
  met_of plains journal = met_from empty plains journal

-- stray words may be learned after all others
abbrev pub StraysJoin : Type 0
StraysJoin = (u : Under) (plains : List PlainCommand) (journal : List JournalEntry) → IsLegal u.schema journal → length plains ≡ length journal
    → all_learned (met_of u plains journal) (strays_in u journal) ≡ numbers_of u plains journal
