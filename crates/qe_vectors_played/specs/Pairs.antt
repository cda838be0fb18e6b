-- Two clients and their engine.
use Rattle.std.specs.Prelude.{◌≡◌, List}
use Rattle.qe_field.specs.declared.field.Field.{Field}
use Rattle.qe_vectors_played.specs.declared.pair.Pair.{Pair}

-- all are of one schema
pub record AreUnder (fields : List Field) (pair : Pair) : Type 0 where
  pub engine : pair.engine.schema ≡ fields
  pub first : pair.first.sender.under.schema ≡ fields
  pub second : pair.second.sender.under.schema ≡ fields
