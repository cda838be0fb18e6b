use Rattle.std.proofs.Common.{◌≡◌, ◌++◌, drop}
use Rattle.qe_encodes.specs.Words.{terms_words}
use Rattle.qe_sent_words.proofs.words.terms_words.Given as goal

abbrev pub invariant-loop-i : goal.invariant-loop-i
invariant-loop-i l =
    l.words ++ terms_words l.keyring.schema (drop l.i l.terms) (drop l.i l.sents) ≡ terms_words l.keyring.schema l.terms l.sents
