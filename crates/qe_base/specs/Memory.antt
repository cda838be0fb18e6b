-- What a source and a sink in memory are.
use Rattle.std.specs.Prelude.{ℕ, List}

-- the bytes left, the numbers of the read calls that fail, the number of the next call, and how often one failed
pub record MemoryInput : Type 0 where
  pub left : List ℕ
  pub failing : List ℕ
  pub calls : ℕ
  pub faults : ℕ

-- the bytes held, how many more there is room for, and how often a put was refused
pub record MemoryOutput : Type 0 where
  pub held : List ℕ
  pub room : ℕ
  pub faults : ℕ
