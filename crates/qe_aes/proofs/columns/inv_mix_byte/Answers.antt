use Rattle.std.proofs.Common.{ap, ◌∙◌, arith}
use Rattle.qe_aes.specs.Words.{word_bytes}
use Rattle.qe_aes.proofs.TableLemmas.{INV_MIXED-multiples}
use Rattle.qe_aes.proofs.columns.inv_mix_byte.Goals as goal

pub returns : goal.returns
returns c = ap word_bytes c.rotate_right.ensures ∙ INV_MIXED-multiples c.args.row c.args.byte c.requires (omega arith)
