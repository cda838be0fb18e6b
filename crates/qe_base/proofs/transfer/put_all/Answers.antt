use Rattle.std.proofs.Common.{ℕ, ◌+◌, List, take, drop, Option, ◌≡◌, subst, sym, ap, arith, ◌++◌, ◌∙◌}
use Rattle.std.proofs.lemmas.Grind.{common_steps}
use Rattle.std.proofs.Math.Seq.{take-add}
use Rattle.std.proofs.KnownBytes.{Appends-trans}
use Rattle.std.specs.Io.KnownBytes.{Appends}
use Rattle.qe_base.proofs.transfer.put_all.Goals as goal

-- what was put before and the front of what was left are a longer front of the text
Appends-on : (old mid new : Option (List ℕ)) (done count : ℕ) (text piece : List ℕ) → piece ≡ drop done text
    → Appends old mid (take done text) → Appends mid new (take count piece) → Appends old new (take (done + count) text)
Appends-on old mid new done count text piece left before after =
    subst (Appends old new) (ap (λ rest. take done text ++ take count rest) left ∙ sym (take-add done count text))
    (Appends-trans old mid new _ _ before after)

pub loop-done-preserved : goal.loop-done-preserved
loop-done-preserved g c = (
  Appends-on _ _ _ _ _ _ _ (grind (arith, common_steps)) c.loop-done.invariant.0 c.in_ok-done.ensures.bytes,
  grind (arith, common_steps),
  omega (arith, c.loop-done.invariant.2, c.in_ok-done.ensures.cause.later),
)
