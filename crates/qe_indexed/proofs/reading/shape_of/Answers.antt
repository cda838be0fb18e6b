use Rattle.qe_indexed.proofs.ReadingLemmas.{shape_at-none, shape_at-14, shape_at-15, shape_at-other}
use Rattle.qe_indexed.proofs.reading.shape_of.Goals as goal

pub returns-in-None-clause-exact : goal.returns-in-None-clause-exact
returns-in-None-clause-exact c = shape_at-none c.args.bytes.now c.in-None.ensures.value

pub returns-in-Some-eq14-clause-exact : goal.returns-in-Some-eq14-clause-exact
returns-in-Some-eq14-clause-exact c =
    rw (shape_at-14 c.args.bytes.now c.in-Some-eq14.field-0.now c.in-Some-eq14.ensures.value c.in-Some-eq14.field-0-test) c.equality_shape.ensures.exact

pub returns-in-Some-eq15-clause-exact : goal.returns-in-Some-eq15-clause-exact
returns-in-Some-eq15-clause-exact c =
    rw (shape_at-15 c.args.bytes.now c.in-Some-eq15.field-0.now c.in-Some-eq15.ensures.value c.in-Some-eq15.field-0-test) c.range_shape.ensures.exact

pub returns-in-Some-clause-exact : goal.returns-in-Some-clause-exact
returns-in-Some-clause-exact c =
    shape_at-other c.args.bytes.now c.in-Some.field-0.now c.in-Some.ensures.value c.in-Some.field-0-test.0.1 c.in-Some.field-0-test.1
