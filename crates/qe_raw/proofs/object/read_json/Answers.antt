use Rattle.std.proofs.Common.{ap}
use Rattle.qe_schema.specs.Judgements.{some_or}
use Rattle.qe_raw.specs.declared.fault.ScriptKind.TheVariants as k
use Rattle.qe_raw.proofs.ObjectLemmas.{json_of-text, json_of-bytes}
use Rattle.qe_raw.proofs.object.read_json.Goals as goal

pub returns-in_default : goal.returns-in_default
returns-in_default c = ap (some_or k.NotJson) (json_of-bytes c.args.line.now c.in_default.ensures.cases.0)

pub returns-in-Ok-from_str : goal.returns-in-Ok-from_str
returns-in-Ok-from_str c =
    let text = c.in-Ok.ensures.cases in
    ap (some_or k.NotJson) (json_of-text c.args.line.now c.in-Ok.text.now _ text.0 text.1 c.in-Ok-from_str.ensures.ok)
