use Rattle.std.proofs.Common.{◌∙◌, ap, List, []}
use Rattle.qe_field.specs.declared.field.Field.{Field}
use Rattle.qe_runs.specs.Runs.{setting_of}
use Rattle.qe_engine.specs.Engines.{Engined}
use Rattle.qe_script_run.specs.declared.ran.Ran.{Ran}
use Rattle.qe_script_run.proofs.ReachedLemmas.{reached_at_first}
use Rattle.qe_script_run.proofs.starting.begin.Goals as goal

abbrev first : List Field → Engined
first schema = record { schema = schema; journal = [] }

pub returns : goal.returns
returns c =
    let ran : Ran = record { engine = c.in_ok-engine.engine; clients = c.in_ok-clients.clients; census = c.new-2.result; replies = c.new-3.result } in
    reached_at_first (setting_of c.args.script.now) ran (c.in_ok-engine.ensures ∙ ap first c.in_ok-copy.ensures) c.in_ok-clients.ensures c.new-2.ensures
    c.new-3.ensures
