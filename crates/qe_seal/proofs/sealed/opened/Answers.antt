use Rattle.std.proofs.Common.{drop, ap, sym, ◌∙◌}
use Rattle.std.proofs.lemmas.List.{take_rest}
use Rattle.qe_seal.specs.Cbc.{cbc_decryption}
use Rattle.qe_seal.specs.Sealed.{encryption_key, seal_answer}
use Rattle.qe_seal.proofs.sealed.opened.Goals as goal

pub returns : goal.returns
returns c =
    let body = c.args.body.now in
    ap seal_answer
    (sym
    (ap (cbc_decryption c.encryption_key.result c.array_at-iv.result) (take_rest body 16)
    ∙ ap (λ key. cbc_decryption key c.array_at-iv.result (drop 16 body)) c.encryption_key.ensures
    ∙ ap (λ iv. cbc_decryption (encryption_key c.args.key.now) iv (drop 16 body)) c.array_at-iv.ensures)
    ∙ c.in_ok-plain.ensures)
