-- Callers: the number of a caller's next command, and the contention of each field as far as it has learned it.
use Rattle.std.specs.Prelude.{ℕ, ◌+◌, ◌%◌, ◌^◌, ◌==◌, List, map, slice_index, slice_set, Option, None, Some, if◌then◌else◌}
use Rattle.qe_field.specs.declared.field.Field.{Field}
use Rattle.qe_plain.specs.declared.command.PlainCommand.{PlainCommand}
use Rattle.qe_plain.specs.declared.command.PlainCommand.TheVariants as p
use Rattle.qe_protocol.specs.declared.reply.Outcome.{Outcome}
use Rattle.qe_protocol.specs.declared.reply.Outcome.TheVariants as o
use Rattle.qe_protocol.specs.Journal.{first_contention}

-- each field's contention, by its number
abbrev pub Contentions : Type 0
Contentions = List ℕ

abbrev pub contention_of : Contentions → ℕ → ℕ
contention_of contentions field = slice_index contentions field

-- the field of a raise
abbrev pub raised_field : PlainCommand → Option ℕ
raised_field (p.Raise field contention) = Some field
raised_field _ = None

abbrev pub with_contention : Contentions → Option ℕ → ℕ → Contentions
with_contention contentions None to = contentions
with_contention contentions (Some field) to = slice_set contentions field to

-- what a caller learns of the answer to a command: of a raise the contention of its field, raised or not, and of a
-- filter with too few factors that of the term's field
abbrev pub learned : Contentions → PlainCommand → Outcome → Contentions
learned contentions plain (o.Raised to) = with_contention contentions (raised_field plain) to
learned contentions plain (o.NotRaised asked current) = with_contention contentions (raised_field plain) current
learned contentions plain (o.ContentionBelow field got current) = slice_set contentions field current
learned contentions plain _ = contentions

pub record Caller : Type 0 where
  pub number : ℕ
  pub contentions : Contentions

-- the next command has the next number, modulo 2^64
abbrev pub caller_next : Caller → PlainCommand → Outcome → Caller
caller_next caller plain outcome = record { number = (caller.number + 1) % 2 ^ 64; contentions = learned caller.contentions plain outcome }

-- all callers, by their numbers
abbrev pub Callers : Type 0
Callers = ℕ → Caller

abbrev pub callers_next : Callers → ℕ → PlainCommand → Outcome → Callers
callers_next callers who plain outcome = λ k. if k == who then caller_next (callers k) plain outcome else callers k

-- at first each caller has each field's contention of the schema
abbrev pub opening_callers : List Field → Callers
opening_callers fields = λ k. record { number = 0; contentions = map (λ field. first_contention field.kind) fields }
