-- Maintenance and raises, as commands of a journal.
use Rattle.std.proofs.Common.{◌≡◌, ℕ, Bool, true, false, if◌then◌else◌, List, refl, sym, ap, subst}
use Rattle.qe_base.specs.declared.maintenance.Count.{Count}
use Rattle.qe_base.specs.declared.maintenance.JobKind.{JobKind}
use Rattle.qe_tokens.specs.declared.words.FieldToken.{FieldToken}
use Rattle.qe_plain.specs.declared.command.Pair.{Pair}
use Rattle.qe_plain.specs.declared.command.PlainCommand.{PlainCommand}
use Rattle.qe_plain.specs.declared.command.PlainCommand.TheVariants as p
use Rattle.qe_plain.specs.declared.command.PlainDocument.{PlainDocument}
use Rattle.qe_command.specs.declared.command.Command.{Command}
use Rattle.qe_command.specs.declared.command.Command.TheVariants as c
use Rattle.qe_protocol.specs.declared.reply.Outcome.{Outcome}
use Rattle.qe_protocol.specs.Next.{next, outcome_of}
use Rattle.qe_protocol.specs.State.{State}
use Rattle.qe_labels.specs.Laws.{IsFree}
use Rattle.qe_labels.specs.Numbers.{Numbers, all_learned}
use Rattle.qe_labels.specs.Under.{Under, root_of}
use Rattle.qe_encodes.specs.Callers.{Contentions}
use Rattle.qe_encodes.specs.Counted.{is_accepted, numbers_by, opened_by, strays_of}
use Rattle.qe_encodes.specs.Fields.{IsUnder}
use Rattle.qe_encodes.specs.Replies.{Answers, told}
use Rattle.qe_standing.specs.Stands.{Acted, Stands}
use Rattle.qe_laws.proofs.Commands.{CommandKept, CommandSent}
use Rattle.qe_laws.proofs.MaintenanceLemmas.{begin_acted, step_acted, end_acted, abandon_acted, raise_acted}

pub either_same : {A : Type 0} (b : Bool) (x : A) → (if b then x else x) ≡ x
either_same true x = refl
either_same false x = refl

module _ (u : Under) (is : IsUnder u) (numbers : Numbers) (state : State) (documents : List PlainDocument) (stands : Stands u numbers state documents)
    (contentions : Contentions) (nonces : List (List ℕ)) (counts : List Count) (outcome : Outcome) where
  -- what is not a command on documents is due as its outcome tells
  module _ (plain : PlainCommand) (command : Command) (sent : CommandSent u numbers state documents contentions plain command nonces counts outcome)
      (words : Numbers) (words_are : numbers_by u state plain command nonces counts outcome numbers ≡ words)
      (acted : Acted u words (next state command nonces counts) documents (told (outcome_of (next state command nonces counts).reply))) where
    told_stands : Stands u (numbers_by u state plain command nonces counts outcome numbers) (next state command nonces counts).state documents
    told_stands = subst (λ m. Stands u m (next state command nonces counts).state documents) (sym words_are) acted.stands

    told_answers : Answers u (next state command nonces counts).reply (told outcome)
    told_answers = subst (λ x. Answers u (next state command nonces counts).reply (told x)) (sym sent.outcome_is) acted.answers

  pub begin_kept : (kind : JobKind) (pairs : List Pair) (sort : JobKind) (tokens : List FieldToken)
      → CommandSent u numbers state documents contentions (p.Begin kind pairs) (c.Begin sort tokens) nonces counts outcome
      → CommandKept u numbers state documents contentions (p.Begin kind pairs) (c.Begin sort tokens) nonces counts outcome
  begin_kept kind pairs sort tokens sent =
      let same : numbers_by u state (p.Begin kind pairs) (c.Begin sort tokens) nonces counts outcome numbers ≡ numbers = either_same (is_accepted outcome) numbers in
      let acted = begin_acted u is state documents numbers stands sort tokens in
      record {
        later = documents;
        reply = told outcome;
        stands = told_stands (p.Begin kind pairs) (c.Begin sort tokens) sent numbers same acted;
        answers = told_answers (p.Begin kind pairs) (c.Begin sort tokens) sent numbers same acted;
        due = (refl, refl);
      }

  pub end_kept : (job asked : ℕ) → CommandSent u numbers state documents contentions (p.End job) (c.End asked) nonces counts outcome
      → CommandKept u numbers state documents contentions (p.End job) (c.End asked) nonces counts outcome
  end_kept job asked sent =
      let same : numbers_by u state (p.End job) (c.End asked) nonces counts outcome numbers ≡ numbers = either_same (is_accepted outcome) numbers in
      let acted = end_acted u is state documents numbers stands asked in
      record {
        later = documents;
        reply = told outcome;
        stands = told_stands (p.End job) (c.End asked) sent numbers same acted;
        answers = told_answers (p.End job) (c.End asked) sent numbers same acted;
        due = (refl, refl);
      }

  pub abandon_kept : (job asked : ℕ) → CommandSent u numbers state documents contentions (p.Abandon job) (c.Abandon asked) nonces counts outcome
      → CommandKept u numbers state documents contentions (p.Abandon job) (c.Abandon asked) nonces counts outcome
  abandon_kept job asked sent =
      let same : numbers_by u state (p.Abandon job) (c.Abandon asked) nonces counts outcome numbers ≡ numbers = either_same (is_accepted outcome) numbers in
      let acted = abandon_acted u is state documents numbers stands asked in
      record {
        later = documents;
        reply = told outcome;
        stands = told_stands (p.Abandon job) (c.Abandon asked) sent numbers same acted;
        answers = told_answers (p.Abandon job) (c.Abandon asked) sent numbers same acted;
        due = (refl, refl);
      }

  pub raise_kept : (field contention named asked : ℕ) → CommandSent u numbers state documents contentions (p.Raise field contention) (c.Raise named asked) nonces counts outcome
      → CommandKept u numbers state documents contentions (p.Raise field contention) (c.Raise named asked) nonces counts outcome
  raise_kept field contention named asked sent =
      let same : numbers_by u state (p.Raise field contention) (c.Raise named asked) nonces counts outcome numbers ≡ numbers = either_same (is_accepted outcome) numbers in
      let acted = raise_acted u is state documents numbers stands named asked in
      record {
        later = documents;
        reply = told outcome;
        stands = told_stands (p.Raise field contention) (c.Raise named asked) sent numbers same acted;
        answers = told_answers (p.Raise field contention) (c.Raise named asked) sent numbers same acted;
        due = (refl, refl);
      }

  pub step_kept : (job limit asked most : ℕ) → CommandSent u numbers state documents contentions (p.Step job limit) (c.Step asked most) nonces counts outcome
      → CommandKept u numbers state documents contentions (p.Step job limit) (c.Step asked most) nonces counts outcome
  step_kept job limit asked most sent =
      let opened = opened_by state asked nonces counts state.jobs.job in
      let words = strays_of u opened.0 opened.1 in
      let same : numbers_by u state (p.Step job limit) (c.Step asked most) nonces counts outcome numbers ≡ all_learned numbers words =
      ap (λ m. all_learned m words) (either_same (is_accepted outcome) numbers) in
      let acted = step_acted u is state documents numbers stands sent.strays asked nonces sent.long counts sent.allowed (subst (IsFree (root_of u)) same sent.free) in
      record {
        later = documents;
        reply = told outcome;
        stands = told_stands (p.Step job limit) (c.Step asked most) sent (all_learned numbers words) same acted;
        answers = told_answers (p.Step job limit) (c.Step asked most) sent (all_learned numbers words) same acted;
        due = (refl, refl);
      }
