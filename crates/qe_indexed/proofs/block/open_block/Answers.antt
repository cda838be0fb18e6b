use Rattle.std.proofs.Common.{◌≡◌, true, ap, ◌∙◌, sym}
use Rattle.qe_indexed.specs.Block.{zeros_in}
use Rattle.qe_indexed.proofs.BlockLemmas.{numbers_in-is, zeros_in-is, numbers_in-made, zeros_in-made}
use Rattle.qe_indexed.proofs.block.open_block.Goals as goal

pub returns-clause-count : goal.returns-clause-count
returns-clause-count c =
    ap (λ pair. pair.0) (numbers_in-is c.args.block.now c.args.server.now.0 _ _ _ c.decipher_pair-count.ensures c.server_count.ensures c.array_at.ensures)

pub returns-clause-factor : goal.returns-clause-factor
returns-clause-factor c =
    ap (λ pair. pair.1) (numbers_in-is c.args.block.now c.args.server.now.0 _ _ _ c.decipher_pair-count.ensures c.server_count.ensures c.array_at.ensures)

pub returns-clause-zeros : goal.returns-clause-zeros
returns-clause-zeros c =
    let same : c.decipher-zeros.result ≡ zeros_in c.args.block.now c.args.server.now.0 =
    zeros_in-is c.args.block.now c.args.server.now.0 _ _ _ c.decipher-zeros.ensures c.server_zeros.ensures c.array_at-2.ensures in
    (λ is. sym same ∙ c.are_zeros.ensures.0 is, λ is. c.are_zeros.ensures.1 (same ∙ is))

pub returns-clause-undoes : goal.returns-clause-undoes
returns-clause-undoes c = λ count contention edc iv_count iv_zeros is.
    let made = numbers_in-made count contention edc c.args.server.now.0 iv_count iv_zeros c.args.block.now is in
    let first : c.decipher_pair-count.result.0 ≡ count = returns-clause-count c ∙ ap (λ pair. pair.0) made in
    let second : c.decipher_pair-count.result.1 ≡ contention = returns-clause-factor c ∙ ap (λ pair. pair.1) made in
    let third : c.are_zeros.result ≡ true =
    (returns-clause-zeros c).1 (zeros_in-made count contention edc c.args.server.now.0 iv_count iv_zeros c.args.block.now is) in
    λ i. (first i, second i, third i)
