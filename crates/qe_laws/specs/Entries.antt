-- What holds of each entry of a journal of encoded commands.
use Rattle.std.specs.Prelude.{◌≡◌, ℕ, List, ◌∷◌, ◌++◌, length, map, Option, None, Some, unwrap_or}
use Rattle.std.specs.List.{AllByRecursion}
use Rattle.std.specs.FinMap.{get}
use Rattle.qe_tokens.specs.Labels.{row_token}
use Rattle.qe_tokens.specs.declared.words.Word.{Word}
use Rattle.qe_plain.specs.declared.command.Pair.{Pair}
use Rattle.qe_plain.specs.declared.command.PlainCommand.{PlainCommand}
use Rattle.qe_plain.specs.declared.command.PlainCommand.TheVariants as p
use Rattle.qe_protocol.specs.declared.journal.JournalEntry.{JournalEntry}
use Rattle.qe_protocol.specs.declared.reply.Outcome.{Outcome}
use Rattle.qe_protocol.specs.declared.reply.Outcome.TheVariants as o
use Rattle.qe_protocol.specs.Counting.{counted}
use Rattle.qe_protocol.specs.Journal.{IsAllowed, state_of}
use Rattle.qe_protocol.specs.State.{State}
use Rattle.qe_protocol.specs.UnitLaws.{IsOnlyCount}
use Rattle.qe_labels.specs.Laws.{IsFree}
use Rattle.qe_labels.specs.Numbers.{Numbers, StraysAreZero}
use Rattle.qe_labels.specs.Under.{Under, root_of}
use Rattle.qe_relation.specs.Steps.{TellsMismatch}
use Rattle.qe_encodes.specs.Counted.{numbers_of, opened_in}
use Rattle.qe_encodes.specs.Encoded.{IsEncoded}
use Rattle.qe_encodes.specs.Fields.{IsUnder}
use Rattle.qe_laws.specs.Searches.{Searched, searches_of}

-- each front of a journal of encoded commands is one, beside as many of the plain commands, and so is one without a clash
pub record FrontsAre (u : Under) (earlier later : List PlainCommand) (front back : List JournalEntry) : Type 0 where
  pub encoded : IsEncoded u (earlier ++ later) (front ++ back) → IsEncoded u earlier front
  pub free : IsFree (root_of u) (numbers_of u (earlier ++ later) (front ++ back)) → IsFree (root_of u) (numbers_of u earlier front)

abbrev pub FrontsAreJournals : Type 0
FrontsAreJournals = (u : Under) (earlier later : List PlainCommand) (front back : List JournalEntry) → length earlier ≡ length front
    → FrontsAre u earlier later front back

-- something holds of each entry of a journal of encoded commands without a clash: of the words of the entries before it and
-- those of the whole journal, of the state before it, its plain command and itself
abbrev pub AtEachEntry : (Under → Numbers → Numbers → State → PlainCommand → JournalEntry → Type 0) → Type 0
AtEachEntry Holds = (u : Under) → IsUnder u → (earlier later : List PlainCommand) (plain : PlainCommand) (front back : List JournalEntry) (entry : JournalEntry)
    → length earlier ≡ length front → IsEncoded u (earlier ++ plain ∷ later) (front ++ entry ∷ back)
    → IsFree (root_of u) (numbers_of u (earlier ++ plain ∷ later) (front ++ entry ∷ back))
    → Holds u (numbers_of u earlier front) (numbers_of u (earlier ++ plain ∷ later) (front ++ entry ∷ back)) (state_of u.schema front) plain entry

-- no other entry of its caller, command and nonces is allowed where it stands
abbrev pub IsOnlyEntry : Under → Numbers → Numbers → State → PlainCommand → JournalEntry → Type 0
IsOnlyEntry u before run state plain entry = (other : JournalEntry) → IsAllowed u.schema state other
    → entry.caller ≡ other.caller → entry.command ≡ other.command → entry.nonces ≡ other.nonces → entry ≡ other

-- how often a word was indexed
abbrev pub times : Numbers → Word → ℕ
times numbers word = unwrap_or (get numbers word) 0

-- a search is for one word of the run, whose token no other one has. What is told is its one true count, and the count's
-- number is how often the entries before it indexed the word
pub record CountsItsWord (root : ℕ → List ℕ) (before run : Numbers) (search : Searched) : Type 0 where
  pub word : Word
  pub known : (n : ℕ) × (get run word ≡ Some n)
  pub token : search.token ≡ row_token root word
  pub alone : (other : Word) (n : ℕ) → get run other ≡ Some n → search.token ≡ row_token root other → other ≡ word
  pub searched : search.count.token ≡ search.token
  pub only : IsOnlyCount search.rows search.count
  pub number : counted search.rows search.count ≡ times before word

-- the counts that the entry tells are those of its searches, in their order, and each counts its word; a stray word was never
-- indexed. An entry of a legal journal has as many counts as it makes searches, so none is left out for want of a count
pub record SearchesCount (u : Under) (before run : Numbers) (state : State) (plain : PlainCommand) (entry : JournalEntry) : Type 0 where
  pub told : map (λ search. search.count) (searches_of state entry) ≡ entry.counts
  pub each : AllByRecursion (CountsItsWord (root_of u) before run) (searches_of state entry)
  pub strays : StraysAreZero before

-- the field of a mismatch
abbrev pub mismatch_in : Outcome → Option ℕ
mismatch_in (o.TokenMismatch field) = Some field
mismatch_in _ = None

-- an entry answers a mismatch exactly where the last row that it opened is of the field that is answered, and was opened with
-- another token than its field's; each other row that it opened, it opened with its field's token
abbrev pub MismatchTells : Under → Numbers → Numbers → State → PlainCommand → JournalEntry → Type 0
MismatchTells u before run state plain entry =
    let opened = opened_in state entry.command entry.nonces entry.counts in
    TellsMismatch (root_of u) opened.0 (mismatch_in entry.outcome) opened.1

-- a begin sends for each field the field's own token
abbrev pub SendsOwnTokens : PlainCommand → Type 0
SendsOwnTokens (p.Begin kind pairs) = AllByRecursion (λ (pair : Pair). pair.sent ≡ pair.field) pairs
SendsOwnTokens _ = Unit {0}

-- where each begin does, no step answers a mismatch
abbrev pub OwnTokensServe : Type 0
OwnTokensServe = (u : Under) → IsUnder u → (plains : List PlainCommand) (journal : List JournalEntry) → IsEncoded u plains journal
    → IsFree (root_of u) (numbers_of u plains journal) → AllByRecursion SendsOwnTokens plains
    → AllByRecursion (λ (entry : JournalEntry). mismatch_in entry.outcome ≡ None) journal
