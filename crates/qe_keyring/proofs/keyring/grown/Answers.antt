use Rattle.std.proofs.Common.{ap, arith, ◌∙◌, ◌++◌, ◌∷◌, []}
use Rattle.qe_keyring.proofs.KeyLemmas.{grown_next}
use Rattle.qe_keyring.proofs.keyring.grown.Goals as goal

pub loop-place-preserved : goal.loop-place-preserved
loop-place-preserved c =
    c.in_ok-push.ensures.ok ∙ ap (λ key. c.loop-place.grown ++ key ∷ []) c.new.ensures
    ∙ grown_next c.args.keys.now c.loop-place.grown c.loop-place.place c.key.result.now (omega (arith, c.len-place-end.ensures)) c.key.ensures c.loop-place.invariant
