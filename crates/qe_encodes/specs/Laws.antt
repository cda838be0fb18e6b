-- What holds of what is sent, and of what is stored.
use Rattle.std.specs.Prelude.{◌≡◌, ℕ}
use Rattle.qe_value.specs.declared.value.Plain.{Plain}
use Rattle.qe_edges.specs.Prefixes.{CoverIsListed, EdgesAreListed, MeetInside}
use Rattle.qe_edges.specs.Texts.{TextsDiffer}
use Rattle.qe_plain.specs.declared.command.PlainCommand.{PlainCommand}
use Rattle.qe_plain.specs.declared.command.PlainDocument.{PlainDocument}
use Rattle.qe_plain.specs.declared.command.PlainReply.{PlainReply}
use Rattle.qe_plain.specs.declared.command.Term.{Term}
use Rattle.qe_plain.specs.declared.command.Term.TheVariants as t
use Rattle.qe_schema.specs.Resolved.{IsKeptBy, IsTerm}
use Rattle.qe_protocol.specs.declared.reply.Reply.{Reply}
use Rattle.qe_protocol.specs.declared.row.Row.{Row}
use Rattle.qe_labels.specs.Under.{Under}
use Rattle.qe_encodes.specs.Callers.{Caller}
use Rattle.qe_encodes.specs.Decodes.{Decodes}
use Rattle.qe_encodes.specs.Encodes.{Encodes}
use Rattle.qe_encodes.specs.Fields.{kind_at}
use Rattle.qe_encodes.specs.Items.{meet, says_of, term_items, value_items}
use Rattle.qe_encodes.specs.Replies.{Answers}
use Rattle.qe_encodes.specs.Sending.{Sender, command_of}

-- what a sender sends is sent for the plain command
abbrev pub SendersEncode : Type 0
SendersEncode = (sender : Sender) (caller : Caller) (plain : PlainCommand)
    → Encodes sender.under sender.leaves caller.contentions plain (command_of sender caller plain)

-- a stored document means one plain document at most, and a reply one plain reply
pub record MeansOne (u : Under) : Type 0 where
  pub document : (row : Row) (one other : PlainDocument) → Decodes u row one → Decodes u row other → one ≡ other
  pub reply : (reply : Reply) (one other : PlainReply) → Answers u reply one → Answers u reply other → one ≡ other

-- what qe_edges says of edges and covers: they meet once, inside the interval, and their lists and texts are theirs alone
pub record EdgeLaws : Type 0 where
  pub meet : MeetInside
  pub edges : EdgesAreListed
  pub cover : CoverIsListed
  pub texts : TextsDiffer

-- the field that a term of a value is of
abbrev pub IsTermIn : ℕ → Term → Type 0
IsTermIn field (t.Id value) = ⊥
IsTermIn field (t.Equal of value) = of ≡ field
IsTermIn field (t.Between of lo hi) = of ≡ field

-- a value's items and a term's of its field have one in common exactly where the term holds of the value
abbrev pub ItemsMeet : Under → Type 0
ItemsMeet u = (field : ℕ) (value : Plain) (term : Term) → IsKeptBy value (kind_at u.schema field) → IsTermIn field term → IsTerm u.schema term
    → meet (value_items (kind_at u.schema field) value) (term_items u.schema term) ≡ says_of term value
