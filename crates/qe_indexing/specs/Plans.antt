-- The index as a plan will leave it.
use Rattle.std.specs.Prelude.{◌++◌}
use Rattle.qe_esc.specs.Rows as esc
use Rattle.qe_esc.specs.Changes.{changed}
use Rattle.qe_ecoc.specs.Rows as ecoc
use Rattle.qe_protocol.specs.State.{Index}
use Rattle.qe_indexing.specs.declared.plan.Plan.{Plan}
use Rattle.qe_indexing.specs.declared.plan.Standing.{Standing}

-- the index that two collections hold
abbrev pub index_of : esc.Held → ecoc.Held → Index
index_of rows entries = record { rows = rows.rows; ecoc = entries.rows }

abbrev pub index_in : Standing → Index
index_in standing = index_of standing.esc.now standing.ecoc.now

-- the index with what is planned
unfoldable pub planned : Index → Plan → Index
planned index plan = record { rows = changed index.rows plan.changes; ecoc = index.ecoc ++ plan.entries }
