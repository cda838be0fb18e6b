use Rattle.std.proofs.Common.{map, ap}
use Rattle.std.proofs.lemmas.List.{drop_all}
use Rattle.qe_value.specs.Measures.{fields_length}
use Rattle.qe_fits.specs.Sizes.{pair_element}
use Rattle.qe_fits.proofs.CountLemmas.{counted}
use Rattle.qe_fits.proofs.command.tokens_length.Goals as goal

pub returns : goal.returns
returns c =
    counted _ _ _ c.loop-pair.invariant.small
    (ap (λ xs. fields_length (map (pair_element c.args.fields.now) xs)) (drop_all c.loop-pair.pair-index c.args.pairs.now c.loop-pair-test.false)) c.loop-pair.invariant.told
