use Rattle.std.proofs.Common.{take, drop, ap, ◌∙◌, arith, length-drop}
use Rattle.std.proofs.lemmas.List.{take_all}
use Rattle.qe_aes.specs.CounterMode.{counter_mode}
use Rattle.qe_ecoc.proofs.opening.open_leaf.Goals as goal

pub returns : goal.returns
returns c =
    let key = c.args.key.now in
    let bytes = c.args.bytes.now in
    c.ctr.ensures ∙ ap (λ iv. counter_mode key iv c.array_at-plain.result) c.array_at-iv.ensures
    ∙ ap (counter_mode key (take 16 bytes)) (c.array_at-plain.ensures ∙ take_all 33 (drop 16 bytes) (omega (arith, length-drop 16 bytes)))
