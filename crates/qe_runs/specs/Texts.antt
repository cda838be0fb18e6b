-- What is written of a run's replies: a line for each, or their number and their hash.
use Rattle.std.specs.Prelude.{ℕ, List, [], ◌∷◌, ◌++◌, length, codes, Bool, true, false, Result, Ok}
use Rattle.std.specs.Fmt.{decimal}
use Rattle.hex.specs.Hex.{encode_lower}
use Rattle.sha2.specs.Sha256.{sha256}
use Rattle.qe_field.specs.declared.field.Field.{Field}
use Rattle.qe_field.specs.Judgements.{bind, gather}
use Rattle.qe_plain.specs.declared.command.PlainReply.{PlainReply}
use Rattle.qe_protocol.specs.declared.journal.JournalEntry.{JournalEntry}
use Rattle.qe_texts.specs.declared.fault.PrintFault.{PrintFault}
use Rattle.qe_texts.specs.Replies.{reply_line}
use Rattle.qe_script.specs.declared.script.Line.{Line}
use Rattle.qe_encodes.specs.Kept.{outcomes_of, replies_due}
use Rattle.qe_runs.specs.Runs.{commands_of}

-- a line ends with a line feed
abbrev pub ended : List ℕ → Result (List ℕ) PrintFault
ended text = Ok (text ++ 10 ∷ [])

unfoldable pub reply_text : List Field → PlainReply → Result (List ℕ) PrintFault
reply_text fields reply = bind (reply_line fields reply) ended

-- the lines of all replies, or why one can't be printed
abbrev pub reply_texts : List Field → List PlainReply → Result (List ℕ) PrintFault
reply_texts fields replies = gather (reply_text fields) replies

-- the number of replies, and the SHA-256 of their lines in hex
abbrev pub brief_text : ℕ → List ℕ → List ℕ
brief_text count lines = codes "replies " ++ (decimal count ++ (codes " sha256 " ++ (encode_lower (sha256 lines) ++ 10 ∷ [])))

abbrev pub written_as : Bool → ℕ → List ℕ → List ℕ
written_as false count lines = lines
written_as true count lines = brief_text count lines

unfoldable pub replies_text : List Field → Bool → List PlainReply → Result (List ℕ) PrintFault
replies_text fields brief replies = bind (reply_texts fields replies) (λ lines. Ok (written_as brief (length replies) lines))

-- what is due of the replies of a run: of each command that isn't maintenance the plain reply's line, of any other its outcome's
abbrev pub due_text : List Field → Bool → List Line → List JournalEntry → Result (List ℕ) PrintFault
due_text fields brief lines journal = replies_text fields brief (replies_due (commands_of lines) (outcomes_of journal))
