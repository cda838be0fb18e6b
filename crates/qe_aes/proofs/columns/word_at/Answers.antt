use Rattle.std.proofs.Common.{sym, ◌∙◌}
use Rattle.qe_aes.proofs.WordLemmas.{take_four-drop, word_bytes-from_be_bytes}
use Rattle.qe_aes.proofs.columns.word_at.Goals as goal

pub returns : goal.returns
returns c =
    word_bytes-from_be_bytes _ _ _ _ _ (c.type_inv.bytes _).fits (c.type_inv.bytes _).fits (c.type_inv.bytes _).fits (c.type_inv.bytes _).fits c.from_be_bytes.ensures
    ∙ sym (take_four-drop c.args.bytes.now c.args.at c.requires)
