use Rattle.std.specs.Prelude.{take}
use Rattle.qe_runs.specs.Runs.{setting_of}
use Rattle.qe_script_run.specs.Reached.{IsReached}
use Rattle.qe_script_run.proofs.running.run_script.Given as goal

-- the first lines were run
abbrev pub invariant-loop-place : goal.invariant-loop-place
invariant-loop-place l = IsReached (setting_of l.script) (take l.place l.script.lines) l.ran
