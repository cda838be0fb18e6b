use Rattle.std.proofs.Common.{[], ◌∷◌}
use Rattle.qe_value.specs.Spelling.{spelled}
use Rattle.qe_value.specs.Views.{plain}
use Rattle.qe_encode.proofs.FlatLemmas.{value_read_again}
use Rattle.qe_encode.proofs.RefusalLemmas.{bytes_written}
use Rattle.qe_encode.proofs.writing.value_bytes.Goals as goal

pub returns-clause-again : goal.returns-clause-again
returns-clause-again c =
    let v = plain c.args.value.now in
    value_read_again v c.value_out.result (bytes_written (([], v) ∷ []) (spelled v).bytes c.value_out.result c.value_out.ensures.exact) c.value_out.ensures.fits
