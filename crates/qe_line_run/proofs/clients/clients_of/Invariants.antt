use Rattle.std.specs.Prelude.{◌≡◌, length}
use Rattle.qe_encodes.specs.Callers.{opening_callers}
use Rattle.qe_runs.specs.Runs.{setting_of}
use Rattle.qe_line_run.proofs.ClientLemmas.{EachIsClient}
use Rattle.qe_line_run.proofs.clients.clients_of.Given as goal

-- the clients of the first callers
abbrev pub invariant-loop-who : goal.invariant-loop-who
invariant-loop-who l = (length l.clients.items ≡ l.who) × EachIsClient (setting_of l.script) (opening_callers l.script.schema) l.clients.items
