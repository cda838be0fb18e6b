-- Journals of encoded commands, beside their plain ones.
use Rattle.std.specs.Prelude.{List, [], ◌∷◌, Bool}
use Rattle.qe_plain.specs.declared.command.PlainCommand.{PlainCommand}
use Rattle.qe_protocol.specs.declared.journal.JournalEntry.{JournalEntry}
use Rattle.qe_protocol.specs.Journal.{IsLegal}
use Rattle.qe_protocol.specs.Laws.{AreLong}
use Rattle.qe_labels.specs.Under.{Under}
use Rattle.qe_encodes.specs.Callers.{Callers, callers_next, opening_callers}
use Rattle.qe_encodes.specs.Encodes.{Encodes}
use Rattle.qe_encodes.specs.Meant.{IsMeant}

module _ (u : Under) where
  -- an entry's command is sent for a plain one that means something under the schema, by a sender that writes leaf bytes
  -- or by one that doesn't; its nonces have 16 bytes
  pub record IsEncodedEntry (callers : Callers) (plain : PlainCommand) (entry : JournalEntry) : Type 0 where
    pub meant : IsMeant u.schema plain
    pub leaves : Bool
    pub encodes : Encodes u leaves (callers entry.caller).contentions plain entry.command
    pub nonces : AreLong entry.nonces

  abbrev pub EncodedFrom : Callers → List PlainCommand → List JournalEntry → Type 0
  EncodedFrom callers [] [] = Unit {0}
  EncodedFrom callers [] (entry ∷ entries) = ⊥
  EncodedFrom callers (plain ∷ plains) [] = ⊥
  EncodedFrom callers (plain ∷ plains) (entry ∷ entries) =
      IsEncodedEntry callers plain entry × EncodedFrom (callers_next callers entry.caller plain entry.outcome) plains entries

  -- a legal journal of encoded commands, beside their plain ones
  pub record IsEncoded (plains : List PlainCommand) (journal : List JournalEntry) : Type 0 where
    pub legal : IsLegal u.schema journal
    pub encoded : EncodedFrom (opening_callers u.schema) plains journal
