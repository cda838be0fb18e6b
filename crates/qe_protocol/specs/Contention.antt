-- Each field's current contention: how it is raised, and what is refused before all else.
use Rattle.std.specs.Prelude.{ℕ, nat_abs, nat_le, nat_lt, List, [], ◌∷◌, slice_index, slice_set, Option, None, Some, if◌then◌else◌}
use Rattle.qe_command.specs.declared.cells.SentCell.{SentCell}
use Rattle.qe_command.specs.declared.cells.SentCell.TheVariants as sent
use Rattle.qe_command.specs.declared.command.Command.{Command}
use Rattle.qe_command.specs.declared.command.Command.TheVariants as c
use Rattle.qe_command.specs.declared.filter.SentTerm.{SentTerm}
use Rattle.qe_command.specs.declared.filter.SentTerm.TheVariants as t
use Rattle.qe_protocol.specs.declared.reply.Reply.{Reply}
use Rattle.qe_protocol.specs.declared.reply.Reply.TheVariants as r
use Rattle.qe_protocol.specs.State.{State, Done, answered}

-- a field's current contention
abbrev pub current_of : List ℕ → ℕ → ℕ
current_of current field = slice_index current field

abbrev pub or_else : {A : Type 0} → Option A → Option A → Option A
or_else None other = other
or_else (Some x) other = Some x

-- a term that asks for fewer factors than are in use could miss documents
abbrev pub below_at : List ℕ → ℕ → ℕ → Option Reply
below_at current field got =
    if nat_lt got (current_of current field) then Some (r.ContentionBelow field got (current_of current field)) else None

abbrev pub term_below : List ℕ → SentTerm → Option Reply
term_below current (t.Id id) = None
term_below current (t.Equal field payload) = below_at current field (nat_abs payload.cm)
term_below current (t.Range field payload) = below_at current field (nat_abs payload.cm)

-- the first such term of a filter
abbrev pub filter_below : List ℕ → List SentTerm → Option Reply
filter_below current [] = None
filter_below current (term ∷ terms) = or_else (term_below current term) (filter_below current terms)

-- a value whose factor is above those in use could be missed
abbrev pub over_at : List ℕ → ℕ → ℕ → Option Reply
over_at current field got =
    if nat_lt (current_of current field) got then Some (r.ContentionOver field got (current_of current field)) else None

abbrev pub cell_over : List ℕ → ℕ → SentCell → Option Reply
cell_over current field (sent.Plain value) = None
cell_over current field (sent.Payload payload) = over_at current field (nat_abs payload.k)

-- the first such value of a command
abbrev pub cells_over : List ℕ → List (ℕ × SentCell) → Option Reply
cells_over current [] = None
cells_over current (cell ∷ cells) = or_else (cell_over current cell.0 cell.1) (cells_over current cells)

-- why a command is refused before all else, if it is: its filter, and then its values
abbrev pub refusal : List ℕ → Command → Option Reply
refusal current (c.Insert id cells) = cells_over current cells
refusal current (c.Find filter ids) = filter_below current filter
refusal current (c.Update filter set) = or_else (filter_below current filter) (cells_over current set)
refusal current (c.Delete filter) = filter_below current filter
refusal current _ = None

abbrev pub with_current : State → List ℕ → State
with_current state current = record { docs = state.docs; index = state.index; jobs = state.jobs; current = current }

-- a field's contention becomes a greater one
abbrev pub raise : State → ℕ → ℕ → Done
raise state field asked =
    if nat_le asked (current_of state.current field) then answered state (r.NotRaised asked (current_of state.current field))
    else answered (with_current state (slice_set state.current field asked)) (r.Raised asked)
