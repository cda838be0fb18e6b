-- Lines and entries, one more of each: replies and words.
use Rattle.std.proofs.Common.{◌≡◌, List, [], ◌∷◌, ◌++◌, length, refl, ap, arith}
use Rattle.qe_field.specs.declared.field.Field.{Field}
use Rattle.qe_plain.specs.declared.command.PlainCommand.{PlainCommand}
use Rattle.qe_protocol.specs.declared.journal.JournalEntry.{JournalEntry}
use Rattle.qe_protocol.specs.Journal.{done, opening, state_from, state_of}
use Rattle.qe_protocol.specs.State.{State}
use Rattle.qe_labels.specs.Numbers.{Numbers}
use Rattle.qe_labels.specs.Under.{Under}
use Rattle.qe_laws.specs.Journals.{replies_from, replies_of}
use Rattle.qe_strays.specs.Met.{met_by, met_from}

replies_from-more : (state : State) (entries : List JournalEntry) (entry : JournalEntry)
    → replies_from state (entries ++ entry ∷ []) ≡ replies_from state entries ++ (done (state_from state entries) entry).reply ∷ []
replies_from-more state [] entry = refl
replies_from-more state (first ∷ entries) entry =
    ap (λ rest. (done state first).reply ∷ rest) (replies_from-more (done state first).state entries entry)

pub replies_more : (fields : List Field) (journal : List JournalEntry) (entry : JournalEntry)
    → replies_of fields (journal ++ entry ∷ []) ≡ replies_of fields journal ++ (done (state_of fields journal) entry).reply ∷ []
unfolding replies_of state_of
replies_more fields journal entry = replies_from-more (opening fields) journal entry

pub met_more : (u : Under) (numbers : Numbers) (plains : List PlainCommand) (entries : List JournalEntry) (plain : PlainCommand) (entry : JournalEntry)
    → length entries ≡ length plains
    → met_from u numbers (plains ++ plain ∷ []) (entries ++ entry ∷ [])
    ≡ met_by u (met_from u numbers plains entries) plain entry.command entry.outcome
met_more u numbers [] [] plain entry many = refl
met_more u numbers [] (e ∷ entries) plain entry many = absurd (omega arith)
met_more u numbers (p ∷ plains) [] plain entry many = absurd (omega arith)
met_more u numbers (p ∷ plains) (e ∷ entries) plain entry many =
    let fewer : length entries ≡ length plains = omega arith in
    met_more u (met_by u numbers p e.command e.outcome) plains entries plain entry fewer
