-- What a sender sends for a plain command encodes it.
use Rattle.std.proofs.Common.{◌+◌, ℕ, List, [], ◌∷◌, refl}
use Rattle.std.specs.List.{AllZip}
use Rattle.qe_plain.specs.declared.command.PlainCell.{PlainCell}
use Rattle.qe_plain.specs.declared.command.PlainCommand.{PlainCommand}
use Rattle.qe_plain.specs.declared.command.PlainCommand.TheVariants as p
use Rattle.qe_encodes.specs.Callers.{Caller, contention_of}
use Rattle.qe_encodes.specs.Draws.{cell_draws, drawn_at}
use Rattle.qe_encodes.specs.Encodes.{Encodes, SendsCell}
use Rattle.qe_encodes.specs.Sending.{Sender, cells_sent, command_of, stream_of}
use Rattle.qe_encodes.proofs.DrawLemmas.{are_drawn}

module _ (sender : Sender) (caller : Caller) where
  cells_encode : (cells : List PlainCell) (place : ℕ)
      → AllZip (SendsCell sender.under sender.leaves caller.contentions) cells (cells_sent sender caller cells place)
  cells_encode [] place = tt
  cells_encode (cell ∷ cells) place =
      let most = contention_of caller.contentions cell.field in
      let stream = stream_of sender caller.number in (
        record { field = refl; drawn = drawn_at stream most place; are_drawn = are_drawn stream most place; value = refl },
        cells_encode cells (place + cell_draws sender.under.schema cell),
      )

  pub command_encodes : (plain : PlainCommand) → Encodes sender.under sender.leaves caller.contentions plain (command_of sender caller plain)
  unfolding command_of
  command_encodes (p.Insert document) = (refl, cells_encode document.cells 0)
  command_encodes (p.Find terms ids) = (refl, refl)
  command_encodes (p.Update terms set) = (refl, cells_encode set 0)
  command_encodes (p.Delete terms) = refl
  command_encodes (p.Begin kind pairs) = (refl, refl)
  command_encodes (p.Step job limit) = (refl, refl)
  command_encodes (p.End job) = refl
  command_encodes (p.Abandon job) = refl
  command_encodes (p.Raise field contention) = (refl, refl)
