use Rattle.std.proofs.Common.{◌<◌, ◌^◌, ap, sym, ◌∙◌, rules}
use Rattle.std.proofs.lemmas.Slice.Eq.{bytes_eq-Decides}
use Rattle.qe_words.specs.Words.{number_of}
use Rattle.qe_words.proofs.NumberLemmas.{number_read, number_refused, number_differs}
use Rattle.qe_words.proofs.words.number_of.Goals as goal

pub returns-in_err-n : goal.returns-in_err-n
returns-in_err-n c = rw c.from_residual.ensures (number_refused c.args.word.now c.parse.result c.in_err-n.ensures.value c.parse.ensures.value.0)

pub returns-then-eq : goal.returns-then-eq
returns-then-eq c =
    let n = c.in_ok-n.n in
    let below : n < 2 ^ 64 = search rules in
    let same = (bytes_eq-Decides c.format.result.now c.args.word.now).0 (sym c.if-eq.ensures) in
    sym (ap number_of (sym same ∙ c.format.ensures.text) ∙ number_read n below)

pub returns-else-eq : goal.returns-else-eq
returns-else-eq c =
    number_differs c.args.word.now c.parse.result c.in_ok-n.n c.in_ok-n.ensures.value
    (λ is. let same = (bytes_eq-Decides c.format.result.now c.args.word.now).1 (c.format.ensures.text ∙ is) in cc (c.if-eq.ensures))
    c.parse.ensures.value.0
