use Rattle.std.proofs.Common.{◌≡◌, ℕ, zero, suc, List, [], ◌∷◌, get_or, slice_get, Some, All, subst, take_all, arith}
use Rattle.std.proofs.lemmas.List.Elements.{All-more}
use Rattle.qe_encodes.specs.Fields.{IsKey}
use Rattle.qe_meant.proofs.schema.are_keys.Goals as goal

there : (xs : List (List ℕ)) (i : ℕ) (x : List ℕ) → Some x ≡ slice_get xs i → x ≡ get_or xs i x
there [] i x is = cc
there (y ∷ ys) zero x is = cc
there (y ∷ ys) (suc i) x is = there ys i x is

pub loop-i-preserved : goal.loop-i-preserved
loop-i-preserved c =
    All-more IsKey c.args.keys.now c.loop-i.i c.key.result.now (omega (arith, c.len-i-end.ensures, c.loop-i-test.true)) c.loop-i.invariant
    (subst IsKey (there c.args.keys.now c.loop-i.i c.key.result.now c.key.ensures) c.is_key.ensures)

pub returns : goal.returns
returns c = subst (All IsKey) (take_all c.loop-i.i c.args.keys.now (omega (arith, c.len-i-end.ensures, c.loop-i-test.false))) c.loop-i.invariant
