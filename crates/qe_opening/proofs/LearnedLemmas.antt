-- What is learned stays within the greatest contentions of the fields.
use Rattle.std.proofs.Common.{◌≡◌, ◌≤◌, ℕ, List, true, Option, None, Some, sym, subst, inl, inr}
use Rattle.qe_field.specs.declared.field.Field.{Field}
use Rattle.qe_field.specs.Lookup.{greatest_of, is_encrypted}
use Rattle.qe_plain.specs.declared.command.PlainCommand.{PlainCommand}
use Rattle.qe_protocol.specs.declared.reply.Outcome.{Outcome}
use Rattle.qe_protocol.specs.declared.reply.Outcome.TheVariants as o
use Rattle.qe_encodes.specs.Callers.{Contentions, learned, raised_field, with_contention}
use Rattle.qe_encodes.specs.Fields.{kind_at}
use Rattle.qe_encodes.proofs.FieldLemmas.{allowed_at}
use Rattle.qe_standing.specs.Laws.{CanLearn, IsRaiseUpTo, IsUpTo}
use Rattle.qe_standing.proofs.LimitLemmas.{put_cases}
use Rattle.std.specs.Prelude.{slice_set}
use Rattle.qe_opening.specs.Laws.{AreUpToGreatest, LearnsWithin}

module _ (fields : List Field) (contentions : Contentions) (within : AreUpToGreatest fields contentions) where
  put_within : (field to : ℕ) → IsUpTo fields field to → AreUpToGreatest fields (slice_set contentions field to)
  put_within field to up_to other =
      let below : to ≤ greatest_of (kind_at fields field) = (allowed_at fields field (λ kind. (is_encrypted kind ≡ true) × (to ≤ greatest_of kind)) up_to).1 in
      elim (put_cases contentions field to other) [
        | inl here ↦ subst (λ n. n ≤ greatest_of (kind_at fields other)) (sym here.1) (subst (λ f. to ≤ greatest_of (kind_at fields f)) (sym here.0) below)
        | inr there ↦ subst (λ n. n ≤ greatest_of (kind_at fields other)) (sym there) (within other)
      ]

  raise_within : (field : Option ℕ) (to : ℕ) → IsRaiseUpTo fields field to → AreUpToGreatest fields (with_contention contentions field to)
  raise_within None to up_to = absurd up_to
  raise_within (Some field) to up_to = put_within field to up_to

  learned_within : (plain : PlainCommand) (outcome : Outcome) → CanLearn fields plain outcome → AreUpToGreatest fields (learned contentions plain outcome)
  learned_within plain (o.Raised to) can = raise_within (raised_field plain) to can
  learned_within plain (o.NotRaised asked now) can = raise_within (raised_field plain) now can
  learned_within plain (o.ContentionBelow field got now) can = put_within field now can
  learned_within plain o.Inserted can = within
  learned_within plain o.DuplicateId can = within
  learned_within plain (o.Updated count) can = within
  learned_within plain (o.Deleted count) can = within
  learned_within plain (o.Found count) can = within
  learned_within plain (o.Ids count) can = within
  learned_within plain (o.Begun job) can = within
  learned_within plain (o.Stepped left) can = within
  learned_within plain (o.Ended leaves) can = within
  learned_within plain o.Abandoned can = within
  learned_within plain (o.JobRunning job) can = within
  learned_within plain (o.NoJob asked running) can = within
  learned_within plain (o.TokenMissing field) can = within
  learned_within plain (o.TokenMismatch field) can = within
  learned_within plain (o.NotDone left) can = within
  learned_within plain (o.ContentionOver field got now) can = within

pub learns_within : LearnsWithin
learns_within fields contentions plain outcome can within = learned_within fields contentions within plain outcome can
