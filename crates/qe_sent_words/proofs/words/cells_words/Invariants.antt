use Rattle.std.proofs.Common.{◌≡◌, ◌++◌, drop}
use Rattle.qe_encodes.specs.Words.{cells_words}
use Rattle.qe_sent_words.proofs.words.cells_words.Given as goal

abbrev pub invariant-loop-i : goal.invariant-loop-i
invariant-loop-i l =
    l.words ++ cells_words l.keyring.schema (drop l.i l.cells) (drop l.i l.sents) ≡ cells_words l.keyring.schema l.cells l.sents
