-- The replies that are due of a run of a script are printed.
use Rattle.std.proofs.Common.{◌≡◌, ℕ, List, [], ◌∷◌, ◌++◌, map, Bool, true, false, Option, None, Some, Result, Ok, Err, refl, sym, ap, ◌∙◌, subst}
use Rattle.std.proofs.lemmas.List.Elements.{All-contains_itself, All-from_recursion, recursion_from_All}
use Rattle.std.specs.Prelude.{◌≢◌, ◌↔◌, All, Contains, if◌then◌else◌, length}
use Rattle.std.specs.List.{AllByRecursion}
use Rattle.qe_field.specs.declared.field.Field.{Field}
use Rattle.qe_field.specs.Judgements.{bind, gather}
use Rattle.qe_plain.specs.Collection.{plain_replay}
use Rattle.qe_plain.specs.declared.command.PlainCommand.{PlainCommand}
use Rattle.qe_plain.specs.declared.command.PlainDocument.{PlainDocument}
use Rattle.qe_plain.specs.declared.command.PlainReply.{PlainReply}
use Rattle.qe_protocol.specs.declared.reply.Outcome.{Outcome}
use Rattle.qe_protocol.specs.declared.reply.Outcome.TheVariants as o
use Rattle.qe_texts.specs.declared.fault.PrintFault.{PrintFault}
use Rattle.qe_texts.specs.declared.fault.PrintFault.TheVariants as f
use Rattle.qe_texts.specs.Replies.{reply_line}
use Rattle.qe_texts.specs.Unprintable.{UnprintableExactly, holds_formless}
use Rattle.qe_script.specs.declared.script.Script.{Script}
use Rattle.qe_script.specs.Printed.{RepliesArePrinted}
use Rattle.qe_encodes.specs.Kept.{is_kept, replies_due, replies_in, without_maintenance, woven, woven_at}
use Rattle.qe_encodes.specs.Replies.{told}
use Rattle.qe_runs.specs.Runs.{commands_of}
use Rattle.qe_runs.specs.Texts.{ended, replies_text, reply_text, reply_texts, written_as}
use Rattle.qe_play.specs.Runs.{ArePrinted, IsPrinted, WasRead}

-- a reply that tells an outcome has no document
told_formless : (outcome : Outcome) → holds_formless (told outcome) ≡ false
told_formless o.Inserted = refl
told_formless o.DuplicateId = refl
told_formless (o.Updated count) = refl
told_formless (o.Deleted count) = refl
told_formless (o.Found count) = refl
told_formless (o.Ids count) = refl
told_formless (o.Begun job) = refl
told_formless (o.Stepped left) = refl
told_formless (o.Ended leaves) = refl
told_formless o.Abandoned = refl
told_formless (o.JobRunning job) = refl
told_formless (o.NoJob asked running) = refl
told_formless (o.TokenMissing field) = refl
told_formless (o.TokenMismatch field) = refl
told_formless (o.NotDone left) = refl
told_formless (o.Raised to) = refl
told_formless (o.NotRaised asked current) = refl
told_formless (o.ContentionBelow field got current) = refl
told_formless (o.ContentionOver field got current) = refl

told_printed : UnprintableExactly → (fields : List Field) (outcome : Outcome) → IsPrinted fields (told outcome)
told_printed exactly fields outcome refused =
    let holds : holds_formless (told outcome) ≡ true = (exactly fields (told outcome)).0 refused in
    let none = told_formless outcome in
    cc

module _ (P : PlainReply → Type 0) (tells : (outcome : Outcome) → P (told outcome)) where
  woven_at_all : (kept : Bool) (outcome : Outcome) (replies : List PlainReply) (rest : List PlainReply → List PlainReply) → AllByRecursion P replies
      → ((others : List PlainReply) → AllByRecursion P others → AllByRecursion P (rest others)) → AllByRecursion P (woven_at kept outcome replies rest)
  woven_at_all false outcome replies rest all next = (tells outcome, next replies all)
  woven_at_all true outcome [] rest all next = tt
  woven_at_all true outcome (reply ∷ replies) rest all next = (all.0, next replies all.1)

  woven_all : (plains : List PlainCommand) (outcomes : List Outcome) (replies : List PlainReply) → AllByRecursion P replies
      → AllByRecursion P (woven plains outcomes replies)
  woven_all [] outcomes replies all = tt
  woven_all (plain ∷ plains) [] replies all = tt
  woven_all (plain ∷ plains) (outcome ∷ outcomes) replies all =
      woven_at_all (is_kept plain outcome) outcome replies (woven plains outcomes) all (woven_all plains outcomes)

module _ (P : PlainCommand → Type 0) where
  kept_if : (kept : Bool) (plain : PlainCommand) (rest : List PlainCommand) → P plain → AllByRecursion P rest
      → AllByRecursion P (if kept then plain ∷ rest else rest)
  kept_if true plain rest is all = (is, all)
  kept_if false plain rest is all = all

  kept_all : (plains : List PlainCommand) (outcomes : List Outcome) → AllByRecursion P plains → AllByRecursion P (without_maintenance plains outcomes)
  kept_all [] outcomes all = tt
  kept_all (plain ∷ plains) [] all = tt
  kept_all (plain ∷ plains) (outcome ∷ outcomes) all =
      kept_if (is_kept plain outcome) plain (without_maintenance plains outcomes) all.0 (kept_all plains outcomes all.1)

-- the replies that are due of a script, where the plain replay of what is kept of its commands comes to an end
pub due_printed : UnprintableExactly → RepliesArePrinted → (script : Script) → WasRead script → (outcomes : List Outcome)
    → (last : List PlainDocument × List PlainReply) → plain_replay (without_maintenance (commands_of script.lines) outcomes) ≡ Some last
    → ArePrinted script.schema (replies_due (commands_of script.lines) outcomes)
unfolding replies_due
due_printed exactly printed script read outcomes last is =
    let plains = commands_of script.lines in
    let kept = without_maintenance plains outcomes in
    let P = IsPrinted script.schema in
    let among = All-from_recursion (Contains plains) kept
    (kept_all (Contains plains) plains outcomes (recursion_from_All (Contains plains) plains (All-contains_itself plains))) in
    let each = recursion_from_All P last.1 (printed read.bytes script kept last read.from among is) in
    subst (λ (replay : Option (List PlainDocument × List PlainReply)). AllByRecursion P (woven plains outcomes (replies_in replay))) (sym is)
    (woven_all P (told_printed exactly script.schema) plains outcomes last.1 each)

-- .. and so is their text
line_printed : (fields : List Field) (reply : PlainReply) → IsPrinted fields reply → reply_text fields reply ≡ Err f.Unprintable → ⊥
unfolding reply_text
line_printed fields reply is refused = by (reply_line fields reply) refl refused
  where
    by : (line : Result (List ℕ) PrintFault) → reply_line fields reply ≡ line → bind line ended ≡ Err f.Unprintable → ⊥
    by (Ok text) gives h = cc
    by (Err fault) gives h = let same : fault ≡ f.Unprintable = cc in is (gives ∙ ap Err same)

joined_printed : (first rest : Result (List ℕ) PrintFault) → (first ≡ Err f.Unprintable → ⊥) → (rest ≡ Err f.Unprintable → ⊥)
    → bind first (λ ys. bind rest (λ zs. Ok (ys ++ zs))) ≡ Err f.Unprintable → ⊥
joined_printed (Ok ys) (Ok zs) is all h = cc
joined_printed (Ok ys) (Err fault) is all h = all h
joined_printed (Err fault) rest is all h = is h

lines_printed : (fields : List Field) (replies : List PlainReply) → ArePrinted fields replies → reply_texts fields replies ≡ Err f.Unprintable → ⊥
lines_printed fields [] all h = cc
lines_printed fields (reply ∷ replies) all h =
    joined_printed (reply_text fields reply) (reply_texts fields replies) (line_printed fields reply all.0) (lines_printed fields replies all.1) h

pub text_printed : (fields : List Field) (brief : Bool) (replies : List PlainReply) → ArePrinted fields replies
    → replies_text fields brief replies ≡ Err f.Unprintable → ⊥
unfolding replies_text
text_printed fields brief replies all = by (reply_texts fields replies) (lines_printed fields replies all)
  where
    by : (lines : Result (List ℕ) PrintFault) → (lines ≡ Err f.Unprintable → ⊥)
        → bind lines (λ text. Ok (written_as brief (length replies) text)) ≡ Err f.Unprintable → ⊥
    by (Ok text) is h = cc
    by (Err fault) is h = is h
