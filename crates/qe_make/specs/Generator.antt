-- The generator of the values: Knuth's linear congruential generator for MMIX (The Art of Computer Programming, volume 2,
-- section 3.3.4).
use Rattle.std.specs.Prelude.{ℕ, ◌+◌, ◌*◌, ◌/◌, ◌%◌, ◌^◌}

-- the state behind a draw
unfoldable pub next_state : ℕ → ℕ
next_state x = (x * 6364136223846793005 + 1442695040888963407) % 2 ^ 64

-- the number that is drawn: the highest 31 bits of the state behind the draw
unfoldable pub drawn : ℕ → ℕ
drawn x = next_state x / 2 ^ 33
