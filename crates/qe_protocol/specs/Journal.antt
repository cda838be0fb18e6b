-- Journals: each entry is allowed in the state that the entries before it lead to. All stand under one schema.
use Rattle.std.specs.Prelude.{◌≡◌, ◌≤◌, ℕ, List, [], ◌∷◌, ◌++◌, length, map}
use Rattle.qe_field.specs.declared.field.Field.{Field}
use Rattle.qe_field.specs.declared.field.FieldKind.{FieldKind}
use Rattle.qe_field.specs.declared.field.FieldKind.TheVariants as k
use Rattle.qe_command_document.specs.CommandDocument.{Fits}
use Rattle.qe_command.specs.Nonces.{nonces_of}
use Rattle.qe_protocol.specs.declared.journal.JournalEntry.{JournalEntry}
use Rattle.qe_protocol.specs.State.{State, Done, opening_with}
use Rattle.qe_protocol.specs.Next.{next, outcome_of, AllowedCounts}

-- a field's contention at first; a plain field has none
abbrev pub first_contention : FieldKind → ℕ
first_contention k.Plain = 0
first_contention (k.Equality _ _ contention _) = contention
first_contention (k.Range _ _ contention _ _) = contention

-- the state before the first entry
abbrev pub opening : List Field → State
opening fields = opening_with (map (λ field. first_contention field.kind) fields)

-- what an entry leads to
unfoldable pub done : State → JournalEntry → Done
done state entry = next state entry.command entry.nonces entry.counts

-- its command fits the schema, it has as many nonces as are needed and a true count for each search, and it says what
-- was opened and answered
pub record IsAllowed (fields : List Field) (state : State) (entry : JournalEntry) : Type 0 where
  pub fits : Fits fields entry.command
  pub nonces : length entry.nonces ≡ nonces_of entry.command
  pub counts : AllowedCounts state entry.command entry.nonces entry.counts
  pub opened : entry.opened ≡ (done state entry).opened
  pub outcome : entry.outcome ≡ outcome_of (done state entry).reply

abbrev pub state_from : State → List JournalEntry → State
state_from state [] = state
state_from state (entry ∷ entries) = state_from (done state entry).state entries

abbrev pub IsLegalFrom : List Field → State → List JournalEntry → Type 0
IsLegalFrom fields state [] = Unit {0}
IsLegalFrom fields state (entry ∷ entries) = IsAllowed fields state entry × IsLegalFrom fields (done state entry).state entries

-- the state of a journal
unfoldable pub state_of : List Field → List JournalEntry → State
state_of fields journal = state_from (opening fields) journal

-- each entry is allowed in the state that the entries before it give from the opening state
unfoldable pub IsLegal : List Field → List JournalEntry → Type 0
IsLegal fields journal = IsLegalFrom fields (opening fields) journal

-- a journal grows by entries that are allowed in its state, which then becomes what they lead to
pub record GrowsByEntries (fields : List Field) : Type 0 where
  pub empty : IsLegal fields []
  pub state : (journal : List JournalEntry) (entry : JournalEntry)
      → state_of fields (journal ++ entry ∷ []) ≡ (done (state_of fields journal) entry).state
  pub legal : (journal : List JournalEntry) (entry : JournalEntry)
      → IsLegal fields journal → IsAllowed fields (state_of fields journal) entry → IsLegal fields (journal ++ entry ∷ [])
  pub before : (journal : List JournalEntry) (entry : JournalEntry) → IsLegal fields (journal ++ entry ∷ []) → IsLegal fields journal
  -- there are no more jobs than entries
  pub jobs : (journal : List JournalEntry) → (state_of fields journal).jobs.last ≤ length journal
