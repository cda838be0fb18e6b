use Rattle.std.proofs.Common.{◌++◌, length, drop, replicate, ap, ◌∙◌, zero-add}
use Rattle.std.proofs.lemmas.List.{drop-replicate}
use Rattle.qe_seal.proofs.mac.zero_padded.Goals as goal

pub returns : goal.returns
returns c =
    let bytes = c.args.bytes.now in
    c.write_at.ensures ∙ ap (λ n. bytes ++ drop n (replicate 64 0)) (zero-add (length bytes))
    ∙ ap (λ zeros. bytes ++ zeros) (drop-replicate (length bytes) 64 0)
