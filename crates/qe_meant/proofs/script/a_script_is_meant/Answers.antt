use Rattle.std.proofs.Common.{subst}
use Rattle.qe_meant.specs.Held.{AreHeldLines}
use Rattle.qe_meant.proofs.MeantLemmas.{lines_meant}
use Rattle.qe_meant.proofs.script.a_script_is_meant.Goals as goal

pub keys_serve_their_schema-requires : goal.keys_serve_their_schema-requires
keys_serve_their_schema-requires c = c.requires.header.keyed

pub returns-clause-under : goal.returns-clause-under
returns-clause-under c = c.keys_serve_their_schema.ensures

pub returns-clause-meant : goal.returns-clause-meant
returns-clause-meant c =
    lines_meant c.args.script.now.schema c.requires.header.schema c.a_resolved_command_holds_what_is_allowed.ensures c.args.script.now.callers c.args.script.now.lines
    c.requires.lines (subst AreHeldLines c.slice.ensures c.lines_held.ensures)
