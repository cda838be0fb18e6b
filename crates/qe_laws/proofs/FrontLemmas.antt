-- Fronts of journals, and how a journal stands where one of its entries does.
use Rattle.std.proofs.Common.{◌≡◌, List, [], ◌∷◌, ◌++◌, length, arith}
use Rattle.std.specs.FinMap.{empty}
use Rattle.qe_field.specs.declared.field.Field.{Field}
use Rattle.qe_plain.specs.declared.command.PlainCommand.{PlainCommand}
use Rattle.qe_plain.specs.declared.command.PlainDocument.{PlainDocument}
use Rattle.qe_protocol.specs.declared.journal.JournalEntry.{JournalEntry}
use Rattle.qe_protocol.specs.Journal.{IsAllowed, IsLegal, IsLegalFrom, done, opening, state_from, state_of}
use Rattle.qe_protocol.specs.State.{State}
use Rattle.qe_labels.specs.Laws.{IsFree}
use Rattle.qe_labels.specs.Numbers.{Later, Numbers}
use Rattle.qe_labels.specs.Under.{Under, root_of}
use Rattle.qe_labels.proofs.NumberLemmas.{free_before}
use Rattle.qe_encodes.specs.Callers.{Callers, callers_next, opening_callers}
use Rattle.qe_encodes.specs.Counted.{numbers_from, numbers_of, numbers_with}
use Rattle.qe_encodes.specs.Encoded.{EncodedFrom, IsEncoded, IsEncodedEntry}
use Rattle.qe_laws.specs.Entries.{FrontsAreJournals}
use Rattle.qe_laws.specs.Journals.{EntryKept, IsNow, KeepsEntries}
use Rattle.qe_laws.proofs.JournalLemmas.{later_from, opening_now}

-- ---- fronts
legal_front : (fields : List Field) (front back : List JournalEntry) (state : State) → IsLegalFrom fields state (front ++ back) → IsLegalFrom fields state front
legal_front fields [] back state legal = tt
legal_front fields (entry ∷ front) back state legal = (legal.0, legal_front fields front back (done state entry).state legal.1)

module _ (u : Under) where
  encoded_front : (earlier later : List PlainCommand) (front back : List JournalEntry) (callers : Callers) → length earlier ≡ length front
      → EncodedFrom u callers (earlier ++ later) (front ++ back) → EncodedFrom u callers earlier front
  encoded_front [] later [] back callers many encoded = tt
  encoded_front [] later (entry ∷ front) back callers many encoded = absurd (omega (arith, many))
  encoded_front (plain ∷ earlier) later [] back callers many encoded = absurd (omega (arith, many))
  encoded_front (plain ∷ earlier) later (entry ∷ front) back callers many encoded =
      (encoded.0, encoded_front earlier later front back (callers_next callers entry.caller plain entry.outcome) (omega (arith, many)) encoded.1)

  numbers_front : (earlier later : List PlainCommand) (front back : List JournalEntry) (state : State) (numbers : Numbers) → length earlier ≡ length front
      → Later (numbers_from u state numbers earlier front) (numbers_from u state numbers (earlier ++ later) (front ++ back))
  numbers_front [] later [] back state numbers many = later_from u later back state numbers
  numbers_front [] later (entry ∷ front) back state numbers many = absurd (omega (arith, many))
  numbers_front (plain ∷ earlier) later [] back state numbers many = absurd (omega (arith, many))
  numbers_front (plain ∷ earlier) later (entry ∷ front) back state numbers many =
      numbers_front earlier later front back (done state entry).state (numbers_with u state plain entry numbers) (omega (arith, many))

pub fronts_are : FrontsAreJournals
unfolding numbers_of IsLegal
fronts_are u earlier later front back many = record {
  encoded = λ is. record {
    legal = legal_front u.schema front back (opening u.schema) is.legal;
    encoded = encoded_front u earlier later front back (opening_callers u.schema) many is.encoded;
  };
  free = λ free. free_before (root_of u) (numbers_from u (opening u.schema) empty earlier front)
      (numbers_from u (opening u.schema) empty (earlier ++ later) (front ++ back))
      (numbers_front u earlier later front back (opening u.schema) empty many) free;
}

-- ---- where an entry stands
module _ (u : Under) where
  pub record IsReached (numbers run : Numbers) (state : State) (plain : PlainCommand) (entry : JournalEntry) : Type 0 where
    pub callers : Callers
    pub documents : List PlainDocument
    pub now : IsNow u numbers state callers documents
    pub encoded : IsEncodedEntry u callers plain entry
    pub allowed : IsAllowed u.schema state entry
    pub later : Later (numbers_with u state plain entry numbers) run

module _ (u : Under) (keep : KeepsEntries u) where
  reached_from : (earlier later : List PlainCommand) (plain : PlainCommand) (front back : List JournalEntry) (entry : JournalEntry) (numbers : Numbers) (state : State)
      (callers : Callers) (documents : List PlainDocument) → length earlier ≡ length front → IsNow u numbers state callers documents
      → EncodedFrom u callers (earlier ++ plain ∷ later) (front ++ entry ∷ back) → IsLegalFrom u.schema state (front ++ entry ∷ back)
      → IsFree (root_of u) (numbers_from u state numbers (earlier ++ plain ∷ later) (front ++ entry ∷ back))
      → IsReached u (numbers_from u state numbers earlier front) (numbers_from u state numbers (earlier ++ plain ∷ later) (front ++ entry ∷ back)) (state_from state front) plain entry
  reached_from [] later plain [] back entry numbers state callers documents many now encoded legal free = record {
    callers = callers;
    documents = documents;
    now = now;
    encoded = encoded.0;
    allowed = legal.0;
    later = later_from u later back (done state entry).state (numbers_with u state plain entry numbers);
  }
  reached_from [] later plain (one ∷ front) back entry numbers state callers documents many now encoded legal free = absurd (omega (arith, many))
  reached_from (first ∷ earlier) later plain [] back entry numbers state callers documents many now encoded legal free = absurd (omega (arith, many))
  reached_from (first ∷ earlier) later plain (one ∷ front) back entry numbers state callers documents many now encoded legal free =
      let next = numbers_with u state first one numbers in
      let after_state = (done state one).state in
      let free_next = free_before (root_of u) next (numbers_from u after_state next (earlier ++ plain ∷ later) (front ++ entry ∷ back))
      (later_from u (earlier ++ plain ∷ later) (front ++ entry ∷ back) after_state next) free in
      let kept : EntryKept u numbers state callers documents first one = keep numbers state callers documents first one now encoded.0 legal.0 free_next in
      reached_from earlier later plain front back entry next after_state (callers_next callers one.caller first one.outcome) kept.later (omega (arith, many)) kept.now encoded.1 legal.1 free

  pub reached : (earlier later : List PlainCommand) (plain : PlainCommand) (front back : List JournalEntry) (entry : JournalEntry) → length earlier ≡ length front
      → IsEncoded u (earlier ++ plain ∷ later) (front ++ entry ∷ back) → IsFree (root_of u) (numbers_of u (earlier ++ plain ∷ later) (front ++ entry ∷ back))
      → IsReached u (numbers_of u earlier front) (numbers_of u (earlier ++ plain ∷ later) (front ++ entry ∷ back)) (state_of u.schema front) plain entry
  unfolding numbers_of state_of IsLegal
  reached earlier later plain front back entry many is free =
      reached_from earlier later plain front back entry empty (opening u.schema) (opening_callers u.schema) [] many (opening_now u keep) is.encoded is.legal free
