use Rattle.std.proofs.Common.{◌++◌, ap, ◌∙◌, rules, replicate}
use Rattle.qe_seal.proofs.ArrayLemmas.{in_two}
use Rattle.qe_ecoc.proofs.opening.write_old.Goals as goal

pub returns : goal.returns
returns c =
    in_two (replicate 48 0) c.write_at.new.bytes c.write_at-2.new.bytes c.args.iv.now c.ctr.new.bytes 16 (search rules) (search rules) (search rules)
    c.write_at.ensures c.write_at-2.ensures
    ∙ ap (λ cipher. c.args.iv.now ++ cipher) c.ctr.ensures
