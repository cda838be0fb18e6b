-- The words of a command, taken one after another.
use Rattle.std.specs.Prelude.{ℕ, ◌+◌}
use Rattle.qe_encodes.specs.Draws.{Stream}

-- a stream, and the place of its next word
pub record Drawing : Type 0 where
  pub stream : Stream
  pub place : ℕ

-- so many words further
abbrev pub further : Drawing → ℕ → Drawing
further drawing words = record { stream = drawing.stream; place = drawing.place + words }
