use Rattle.std.proofs.Common.{ap, ◌∙◌, arith}
use Rattle.qe_aes.specs.Words.{word_bytes}
use Rattle.qe_aes.proofs.TableLemmas.{MIXED_S_BOX-multiples}
use Rattle.qe_aes.proofs.columns.sub_mix_byte.Goals as goal

pub returns : goal.returns
returns c =
    ap word_bytes c.rotate_right.ensures ∙ MIXED_S_BOX-multiples c.args.row c.args.byte c.requires (omega arith)
