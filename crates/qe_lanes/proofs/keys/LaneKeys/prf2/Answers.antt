use Rattle.std.proofs.Common.{◌++◌, slice_index, refl, ◌∙◌}
use Rattle.std.specs.Int.{w64, to_le_bytes}
use Rattle.qe_seal.specs.Hmac.{prf2_of}
use Rattle.qe_lanes.proofs.keys.LaneKeys.prf2.Goals as goal

pub returns : goal.returns
unfolding prf2_of
returns c = λ lane key lt keyed.
    let message = to_le_bytes w64 (slice_index c.args.firsts.now lane) ++ to_le_bytes w64 (slice_index c.args.seconds.now lane) in
    c.digests.ensures lane lt ∙ c.mac.ensures lane key message lt keyed refl (c.pair_block.ensures lane lt)
