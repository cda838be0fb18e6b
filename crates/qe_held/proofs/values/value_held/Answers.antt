use Rattle.std.proofs.Common.{◌∙◌}
use Rattle.qe_held.proofs.values.value_held.Goals as goal

pub returns : goal.returns
returns c = record {
  bytes = c.value_bytes.ensures;
  fits = λ room deep zero. c.value_has_zero-zero.ensures.fits room deep (c.value_has_zero-zero.ensures.zero ∙ zero);
}
