-- What a run of a script has: its labels, whether any two of them clash, and its text.
use Rattle.std.specs.Prelude.{◌≡◌, ◌≢◌, ℕ, List, ◌++◌, map, length, Result, Ok, Err}
use Rattle.std.specs.List.{AllByRecursion}
use Rattle.qe_tokens.specs.declared.words.Label.{Label}
use Rattle.qe_field.specs.Judgements.{bind}
use Rattle.qe_field.specs.declared.field.Field.{Field}
use Rattle.qe_plain.specs.declared.command.PlainReply.{PlainReply}
use Rattle.qe_protocol.specs.declared.journal.JournalEntry.{JournalEntry}
use Rattle.qe_protocol.specs.Journal.{state_of}
use Rattle.qe_texts.specs.declared.fault.PrintFault.{PrintFault}
use Rattle.qe_texts.specs.declared.fault.PrintFault.TheVariants as f
use Rattle.qe_texts.specs.Replies.{reply_line}
use Rattle.qe_script.specs.declared.script.Script.{Script}
use Rattle.qe_script.specs.Read.{IsScript}
use Rattle.qe_script.specs.Script.{script_of}
use Rattle.qe_labels.specs.Clashes.{with_identifier}
use Rattle.qe_labels.specs.Laws.{IsFree}
use Rattle.qe_labels.specs.Listed.{labels}
use Rattle.qe_labels.specs.Numbers.{Numbers}
use Rattle.qe_labels.specs.Under.{root_of}
use Rattle.qe_encodes.specs.Counted.{numbers_of}
use Rattle.qe_meant.specs.Held.{under_of}
use Rattle.qe_runs.specs.Runs.{commands_of, IsRunOf}
use Rattle.qe_runs.specs.Texts.{due_text}
use Rattle.qe_opening.specs.Answer.{answer_of}
use Rattle.qe_opening.specs.Laws.{read_as}
use Rattle.qe_laws.specs.Journals.{replies_of}
use Rattle.qe_run_texts.specs.Closing.{closing_line}

-- a script that bytes are
pub record WasRead (script : Script) : Type 0 where
  pub bytes : List ℕ
  pub from : script_of bytes ≡ Ok script
  pub is : IsScript script

-- the words of a run, each with how often it was indexed
abbrev pub numbers_in : Script → List JournalEntry → Numbers
numbers_in script journal = numbers_of (under_of script) (commands_of script.lines) journal

-- no two labels of a run share an identifier
abbrev pub IsClear : Script → List JournalEntry → Type 0
IsClear script journal = IsFree (root_of (under_of script)) (numbers_in script journal)

-- all labels of a run in their order, each with its identifier
abbrev pub labels_in : Script → List JournalEntry → List (Label × List ℕ)
labels_in script journal = map (with_identifier (root_of (under_of script))) (labels (numbers_in script journal))

-- the line of a run's last state and its labels
abbrev pub closing_of : Script → List JournalEntry → List ℕ
closing_of script journal = closing_line script.schema (state_of script.schema journal) (length (labels_in script journal))

-- the text of a run: what is due of its replies, and the line of its last state and its labels
abbrev pub run_text : Script → List JournalEntry → Result (List ℕ) PrintFault
run_text script journal =
    bind (due_text script.schema script.brief script.lines journal) (λ lines. Ok (lines ++ closing_of script journal))

-- a reply, and replies, with a line each
abbrev pub IsPrinted : List Field → PlainReply → Type 0
IsPrinted fields reply = reply_line fields reply ≢ Err f.Unprintable

abbrev pub ArePrinted : List Field → List PlainReply → Type 0
ArePrinted fields replies = AllByRecursion (IsPrinted fields) replies

-- replies are what is read of a run's
abbrev pub AreAnswered : Script → List JournalEntry → List PlainReply → Type 0
AreAnswered script journal replies = map (answer_of (under_of script)) (replies_of script.schema journal) ≡ map read_as replies
