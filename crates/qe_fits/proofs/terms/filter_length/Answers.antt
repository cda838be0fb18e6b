use Rattle.std.proofs.Common.{map, ap}
use Rattle.std.proofs.lemmas.List.{drop_all}
use Rattle.qe_value.specs.Measures.{items_length}
use Rattle.qe_fits.specs.Sizes.{term_size}
use Rattle.qe_fits.proofs.CountLemmas.{counted}
use Rattle.qe_fits.proofs.terms.filter_length.Goals as goal

pub returns : goal.returns
returns c =
    counted _ _ _ c.loop-place.invariant.small
    (ap (λ xs. items_length c.loop-place.place (map (term_size c.args.fields.now) xs)) (drop_all c.loop-place.place c.args.terms.now c.loop-place-test.false)) c.loop-place.invariant.told
