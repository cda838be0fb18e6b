-- What a reply means to those who have the keys, and what an outcome tells.
use Rattle.std.specs.Prelude.{◌≡◌, List, []}
use Rattle.std.specs.List.{AllZip}
use Rattle.qe_plain.specs.declared.command.PlainDocument.{PlainDocument}
use Rattle.qe_plain.specs.declared.command.PlainReply.{PlainReply}
use Rattle.qe_plain.specs.declared.command.PlainReply.TheVariants as p
use Rattle.qe_protocol.specs.declared.reply.Outcome.{Outcome}
use Rattle.qe_protocol.specs.declared.reply.Outcome.TheVariants as o
use Rattle.qe_protocol.specs.declared.reply.Reply.{Reply}
use Rattle.qe_protocol.specs.declared.reply.Reply.TheVariants as r
use Rattle.qe_protocol.specs.declared.row.Row.{Row}
use Rattle.qe_labels.specs.Under.{Under}
use Rattle.qe_encodes.specs.Decodes.{Decodes}

-- the documents of a find decode
pub record AnswersFound (u : Under) (rows : List Row) (reply : PlainReply) : Type 0 where
  pub documents : List PlainDocument
  pub decode : AllZip (Decodes u) rows documents
  pub is : reply ≡ p.Found documents

-- a reply means a plain one: documents decode, everything else is as it stands
abbrev pub Answers : Under → Reply → PlainReply → Type 0
Answers u r.Inserted reply = reply ≡ p.Inserted
Answers u r.DuplicateId reply = reply ≡ p.DuplicateId
Answers u (r.Updated count) reply = reply ≡ p.Updated count
Answers u (r.Deleted count) reply = reply ≡ p.Deleted count
Answers u (r.Found rows) reply = AnswersFound u rows reply
Answers u (r.Ids ids) reply = reply ≡ p.Ids ids
Answers u (r.Begun job) reply = reply ≡ p.Begun job
Answers u (r.Stepped left) reply = reply ≡ p.Stepped left
Answers u (r.Ended leaves) reply = reply ≡ p.Ended leaves
Answers u r.Abandoned reply = reply ≡ p.Abandoned
Answers u (r.JobRunning job) reply = reply ≡ p.JobRunning job
Answers u (r.NoJob asked running) reply = reply ≡ p.NoJob asked running
Answers u (r.TokenMissing field) reply = reply ≡ p.TokenMissing field
Answers u (r.TokenMismatch field) reply = reply ≡ p.TokenMismatch field
Answers u (r.NotDone left) reply = reply ≡ p.NotDone left
Answers u (r.Raised to) reply = reply ≡ p.Raised to
Answers u (r.NotRaised asked current) reply = reply ≡ p.NotRaised asked current
Answers u (r.ContentionBelow field got current) reply = reply ≡ p.ContentionBelow field got current
Answers u (r.ContentionOver field got current) reply = reply ≡ p.ContentionOver field got current

-- an outcome as a plain reply; a find's has no documents
abbrev pub told : Outcome → PlainReply
told o.Inserted = p.Inserted
told o.DuplicateId = p.DuplicateId
told (o.Updated count) = p.Updated count
told (o.Deleted count) = p.Deleted count
told (o.Found count) = p.Found []
told (o.Ids count) = p.Ids []
told (o.Begun job) = p.Begun job
told (o.Stepped left) = p.Stepped left
told (o.Ended leaves) = p.Ended leaves
told o.Abandoned = p.Abandoned
told (o.JobRunning job) = p.JobRunning job
told (o.NoJob asked running) = p.NoJob asked running
told (o.TokenMissing field) = p.TokenMissing field
told (o.TokenMismatch field) = p.TokenMismatch field
told (o.NotDone left) = p.NotDone left
told (o.Raised to) = p.Raised to
told (o.NotRaised asked current) = p.NotRaised asked current
told (o.ContentionBelow field got current) = p.ContentionBelow field got current
told (o.ContentionOver field got current) = p.ContentionOver field got current
