use Rattle.std.proofs.Common.{sym, subst}
use Rattle.qe_value.specs.Names.{Distinct}
use Rattle.qe_script.proofs.FieldLemmas.{kept_distinct}
use Rattle.qe_script.proofs.fields.without_key.Goals as goal

pub from_fields-requires : goal.from_fields-requires
from_fields-requires c =
    kept_distinct c.loop-name.kept.items c.slice-name-items.result.now c.loop-name.name-index c.loop-name.invariant c.loop-name-test.false
    (subst Distinct (sym c.slice-name-items.ensures) c.len.ensures.distinct)
