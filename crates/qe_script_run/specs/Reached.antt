-- How far a run of a script's lines has come.
use Rattle.std.specs.Prelude.{◌≡◌, List, map}
use Rattle.qe_script.specs.declared.script.Line.{Line}
use Rattle.qe_laws.specs.Journals.{replies_of}
use Rattle.qe_opening.specs.Answer.{answer_of}
use Rattle.qe_opening.specs.Laws.{read_as}
use Rattle.qe_runs.specs.Runs.{Setting, IsRun, commands_of}
use Rattle.qe_strays.specs.Met.{met_of}
use Rattle.qe_line_run.specs.Running.{AreClients, callers_now}
use Rattle.qe_script_run.specs.declared.ran.Ran.{Ran}

-- WHAT A RUN OF LINES LEAVES: the engine's journal is a run of them, clients stand as their callers do, the census has the words
-- that their commands stored and looked for, and the replies are what is read of the journal's
pub record IsReached (setting : Setting) (lines : List Line) (ran : Ran) : Type 0 where
  pub schema : ran.engine.schema ≡ setting.under.schema
  pub run : IsRun setting lines ran.engine.journal
  pub clients : AreClients setting (callers_now setting lines ran.engine.journal) ran.clients.items
  pub met : ran.census ≡ met_of setting.under (commands_of lines) ran.engine.journal
  pub answers : map (answer_of setting.under) (replies_of setting.under.schema ran.engine.journal) ≡ map read_as ran.replies
