use Rattle.std.proofs.Common.{slice_index, refl, ◌∙◌}
use Rattle.std.specs.Int.{w64, to_le_bytes}
use Rattle.qe_seal.specs.Hmac.{prf1_of}
use Rattle.qe_lanes.proofs.keys.LaneKeys.prf1.Goals as goal

pub returns : goal.returns
unfolding prf1_of
returns c = λ lane key lt keyed.
    c.digests.ensures lane lt
    ∙ c.mac.ensures lane key (to_le_bytes w64 (slice_index c.args.numbers.now lane)) lt keyed refl (c.number_block.ensures lane lt)
