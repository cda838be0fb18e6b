-- A run without its maintenance: what a user sees of it.
use Rattle.std.specs.Prelude.{List, [], ◌∷◌, map, Bool, true, false, Option, None, Some, if◌then◌else◌, ◌&&◌}
use Rattle.qe_plain.specs.Collection.{plain_replay}
use Rattle.qe_plain.specs.declared.command.PlainCommand.{PlainCommand}
use Rattle.qe_plain.specs.declared.command.PlainCommand.TheVariants as p
use Rattle.qe_plain.specs.declared.command.PlainDocument.{PlainDocument}
use Rattle.qe_plain.specs.declared.command.PlainReply.{PlainReply}
use Rattle.qe_protocol.specs.declared.reply.Outcome.{Outcome}
use Rattle.qe_protocol.specs.declared.reply.Outcome.TheVariants as o
use Rattle.qe_protocol.specs.declared.journal.JournalEntry.{JournalEntry}
use Rattle.qe_encodes.specs.Replies.{told}

-- a command on documents
abbrev pub is_plain : PlainCommand → Bool
is_plain (p.Insert document) = true
is_plain (p.Find terms ids) = true
is_plain (p.Update terms set) = true
is_plain (p.Delete terms) = true
is_plain _ = false

-- .. was served: a field's contention didn't refuse it
abbrev pub was_served : Outcome → Bool
was_served (o.ContentionBelow field got current) = false
was_served (o.ContentionOver field got current) = false
was_served _ = true

abbrev pub is_kept : PlainCommand → Outcome → Bool
is_kept plain outcome = is_plain plain && was_served outcome

abbrev pub outcomes_of : List JournalEntry → List Outcome
outcomes_of journal = map (λ entry. entry.outcome) journal

-- the commands without begins, steps, ends, abandons and raises, and without those that a field's contention refused
abbrev pub without_maintenance : List PlainCommand → List Outcome → List PlainCommand
without_maintenance [] outcomes = []
without_maintenance (plain ∷ plains) [] = []
without_maintenance (plain ∷ plains) (outcome ∷ outcomes) =
    if is_kept plain outcome then plain ∷ without_maintenance plains outcomes else without_maintenance plains outcomes

-- a kept command's reply is the next plain one, every other command's tells its outcome
abbrev pub woven_at : Bool → Outcome → List PlainReply → (List PlainReply → List PlainReply) → List PlainReply
woven_at false outcome replies rest = told outcome ∷ rest replies
woven_at true outcome [] rest = []
woven_at true outcome (reply ∷ replies) rest = reply ∷ rest replies

abbrev pub woven : List PlainCommand → List Outcome → List PlainReply → List PlainReply
woven [] outcomes replies = []
woven (plain ∷ plains) [] replies = []
woven (plain ∷ plains) (outcome ∷ outcomes) replies = woven_at (is_kept plain outcome) outcome replies (woven plains outcomes)

abbrev pub replies_in : Option (List PlainDocument × List PlainReply) → List PlainReply
replies_in None = []
replies_in (Some last) = last.1

-- the replies that are due of a run: those of the plain replay of what is kept, and the outcomes of everything else
unfoldable pub replies_due : List PlainCommand → List Outcome → List PlainReply
replies_due plains outcomes = woven plains outcomes (replies_in (plain_replay (without_maintenance plains outcomes)))
