-- What holds of each reply that the contentions refuse by holds of a refusal.
use Rattle.std.proofs.Common.{ℕ, List, [], ◌∷◌, Option, None, Some}
use Rattle.std.proofs.lemmas.Bool.{cond_both}
use Rattle.std.specs.Prelude.{nat_lt}
use Rattle.qe_command.specs.declared.cells.SentCell.{SentCell}
use Rattle.qe_command.specs.declared.cells.SentCell.TheVariants as sent
use Rattle.qe_command.specs.declared.command.Command.{Command}
use Rattle.qe_command.specs.declared.command.Command.TheVariants as c
use Rattle.qe_command.specs.declared.filter.SentTerm.{SentTerm}
use Rattle.qe_command.specs.declared.filter.SentTerm.TheVariants as t
use Rattle.qe_protocol.specs.declared.reply.Reply.{Reply}
use Rattle.qe_protocol.specs.declared.reply.Reply.TheVariants as r
use Rattle.qe_protocol.specs.Contention.{refusal, current_of, or_else, below_at, over_at, term_below, filter_below, cell_over, cells_over}

-- it holds of the reply, if there is one
abbrev pub IsOther : (Reply → Type 0) → Option Reply → Type 0
IsOther Holds None = Unit {0}
IsOther Holds (Some reply) = Holds reply

module _ (Holds : Reply → Type 0) (below : (field got current : ℕ) → Holds (r.ContentionBelow field got current))
    (over : (field got current : ℕ) → Holds (r.ContentionOver field got current)) (current : List ℕ) where
  or_else-other : (one other : Option Reply) → IsOther Holds one → IsOther Holds other → IsOther Holds (or_else one other)
  or_else-other None other is then = then
  or_else-other (Some reply) other is then = is

  below-other : (field got : ℕ) → IsOther Holds (below_at current field got)
  below-other field got =
      cond_both (nat_lt got (current_of current field)) (Some (r.ContentionBelow field got (current_of current field))) None (IsOther Holds)
      (λ _. below field got (current_of current field)) (λ _. tt)

  over-other : (field got : ℕ) → IsOther Holds (over_at current field got)
  over-other field got =
      cond_both (nat_lt (current_of current field) got) (Some (r.ContentionOver field got (current_of current field))) None (IsOther Holds)
      (λ _. over field got (current_of current field)) (λ _. tt)

  term-other : (term : SentTerm) → IsOther Holds (term_below current term)
  term-other (t.Id id) = tt
  term-other (t.Equal field payload) = below-other field _
  term-other (t.Range field payload) = below-other field _

  filter-other : (terms : List SentTerm) → IsOther Holds (filter_below current terms)
  filter-other [] = tt
  filter-other (term ∷ terms) = or_else-other (term_below current term) (filter_below current terms) (term-other term) (filter-other terms)

  cell-other : (field : ℕ) (cell : SentCell) → IsOther Holds (cell_over current field cell)
  cell-other field (sent.Plain value) = tt
  cell-other field (sent.Payload payload) = over-other field _

  cells-other : (cells : List (ℕ × SentCell)) → IsOther Holds (cells_over current cells)
  cells-other [] = tt
  cells-other (cell ∷ cells) = or_else-other (cell_over current cell.0 cell.1) (cells_over current cells) (cell-other cell.0 cell.1) (cells-other cells)

  pub refusal-other : (command : Command) → IsOther Holds (refusal current command)
  refusal-other (c.Insert id cells) = cells-other cells
  refusal-other (c.Find terms ids) = filter-other terms
  refusal-other (c.Update terms set) = or_else-other (filter_below current terms) (cells_over current set) (filter-other terms) (cells-other set)
  refusal-other (c.Delete terms) = filter-other terms
  refusal-other (c.Begin kind tokens) = tt
  refusal-other (c.Step job limit) = tt
  refusal-other (c.End job) = tt
  refusal-other (c.Abandon job) = tt
  refusal-other (c.Raise field contention) = tt
