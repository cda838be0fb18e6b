use Rattle.std.proofs.lemmas.Result.{err_from_is_err_and}
use Rattle.qe_indexed.specs.Faults.{refusal_of}
use Rattle.qe_indexed.specs.Reading.{parts_by, is_range, count_in, shape_at, indexed_at}
use Rattle.qe_indexed.proofs.FaultLemmas.{Refuses-alike}
use Rattle.qe_indexed.proofs.ReadingLemmas.{parts_are}
use Rattle.qe_indexed.proofs.value.IndexedValue.read.Goals as goal

pub returns-in_err-shape-clause-exact : goal.returns-in_err-shape-clause-exact
unfolding shape_at indexed_at
returns-in_err-shape-clause-exact c =
    let bytes = c.args.bytes.now in
    let p = err_from_is_err_and c.from_residual.result c.from_residual.ensures.1 in
    rw (p.1, p.2) (Refuses-alike _ (refusal_of bytes) (is_range bytes, count_in bytes) (parts_by (is_range bytes) (count_in bytes) bytes) c.in_err-shape.ensures.exact)

pub returns-in_err-shape-clause-only : goal.returns-in_err-shape-clause-only
returns-in_err-shape-clause-only c = λ value is. rw (parts_are value c.args.bytes.now is) at (returns-in_err-shape-clause-exact c)

pub returns-clause-exact : goal.returns-clause-exact
returns-clause-exact c = parts_are c.in_ok-value.value c.args.bytes.now c.in_ok-value.ensures

pub returns-clause-only : goal.returns-clause-only
returns-clause-only c = λ value is. rw (parts_are value c.args.bytes.now is) at (returns-clause-exact c)
