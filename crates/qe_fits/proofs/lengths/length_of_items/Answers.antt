use Rattle.std.proofs.Common.{arith}
use Rattle.qe_fits.proofs.CountLemmas.{goes_on, more_items}
use Rattle.qe_fits.proofs.lengths.length_of_items.Goals as goal

pub loop-place-preserved : goal.loop-place-preserved
loop-place-preserved c =
    let one = c.item_length.ensures in
    let added = c.saturating_add-length.ensures in
    record {
      small = omega arith;
      told = goes_on c.loop-place.length _ _ _ _ _ c.loop-place.invariant.told (more_items c.args.count c.loop-place.place c.args.item c.loop-place-test.true) (omega arith);
    }
