use Rattle.std.proofs.lemmas.Result.{err_from_is_err_and}
use Rattle.std.proofs.KnownBytes.{Consumes-trans}
use Rattle.qe_base.proofs.transfer.take_all.Goals as goal

-- the bytes of the last piece were taken too
pub returns-in_err-extend-clause-err : goal.returns-in_err-extend-clause-err
returns-in_err-extend-clause-err g c =
    let p = err_from_is_err_and c.from_residual-in_err-extend.result c.from_residual-in_err-extend.ensures.1 in
    rw (p.1) record { bytes = _; taken = Consumes-trans _ _ _ _ _ c.loop-piece.invariant.0 c.in_ok-count.ensures.bytes.0 }
