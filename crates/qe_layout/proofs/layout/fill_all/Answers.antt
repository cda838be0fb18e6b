use Rattle.std.proofs.Common.{sym, rules, arith}
use Rattle.std.proofs.lemmas.Grind.{common_steps}
use Rattle.qe_layout.proofs.FillLemmas.{filled-slots}
use Rattle.qe_layout.proofs.layout.fill_all.Goals as goal

pub returns-clause-exact : goal.returns-clause-exact
returns-clause-exact g c =
    let reads = g.L.Layout.reads c.args.layout.now in
    let rows = g.L.Layout.rows c.args.layout.now in
    rw (sym (filled-slots reads rows c.args.document c.requires.apart c.into_fields-fields.ensures.distinct)) (grind (arith, common_steps))

pub returns-in_err-slots-2-clause-exact : goal.returns-in_err-slots-2-clause-exact
returns-in_err-slots-2-clause-exact g c =
    let reads = g.L.Layout.reads c.args.layout.now in
    let rows = g.L.Layout.rows c.args.layout.now in
    rw (sym (filled-slots reads rows c.args.document c.requires.apart c.into_fields-fields.ensures.distinct)) (search rules)
