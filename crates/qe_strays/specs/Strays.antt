-- The stray words of a journal, from the journal alone.
use Rattle.std.specs.Prelude.{ℕ, List, [], ◌∷◌, ◌++◌, bytes_eq, if◌then◌else◌}
use Rattle.qe_base.specs.declared.maintenance.Count.{Count}
use Rattle.qe_tokens.specs.declared.words.FieldToken.{FieldToken}
use Rattle.qe_tokens.specs.declared.words.Word.{Word}
use Rattle.qe_tokens.specs.declared.words.Word.TheVariants.{Stray}
use Rattle.qe_command.specs.declared.command.Command.{Command}
use Rattle.qe_command.specs.declared.command.Command.TheVariants as c
use Rattle.qe_protocol.specs.declared.journal.JournalEntry.{JournalEntry}
use Rattle.qe_protocol.specs.declared.reply.Outcome.{Outcome}
use Rattle.qe_protocol.specs.declared.reply.Outcome.TheVariants as o
use Rattle.qe_protocol.specs.Units.{token_for}
use Rattle.qe_labels.specs.Under.{Under}
use Rattle.qe_encodes.specs.Payloads.{ecoc_token}

-- the tokens of the last job that was begun
abbrev pub tokens_after : List FieldToken → Command → Outcome → List FieldToken
tokens_after before (c.Begin kind tokens) (o.Begun job) = tokens
tokens_after before command outcome = before

module _ (u : Under) where
  -- of the fields of rows that a step opened, and of the searches for what they opened to: those under another token than
  -- their field's
  abbrev pub opened_strays : List FieldToken → List ℕ → List Count → List Word
  opened_strays tokens [] counts = []
  opened_strays tokens (field ∷ fields) [] = []
  opened_strays tokens (field ∷ fields) (count ∷ counts) =
      (if bytes_eq (token_for tokens field) (ecoc_token u field) then [] else Stray count.token ∷ []) ++ opened_strays tokens fields counts

  -- .. of entries, where the last job was begun with tokens
  abbrev pub strays_from : List FieldToken → List JournalEntry → List Word
  strays_from tokens [] = []
  strays_from tokens (entry ∷ entries) =
      opened_strays tokens entry.opened entry.counts ++ strays_from (tokens_after tokens entry.command entry.outcome) entries

  abbrev pub strays_in : List JournalEntry → List Word
  strays_in journal = strays_from [] journal
