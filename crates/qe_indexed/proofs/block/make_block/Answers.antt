use Rattle.std.proofs.Common.{refl, rules, replicate, ◌∙◌}
use Rattle.qe_seal.proofs.ArrayLemmas.{in_three}
use Rattle.qe_indexed.specs.Block.{block_of, zeros}
use Rattle.qe_indexed.proofs.block.make_block.Goals as goal

pub returns : goal.returns
unfolding block_of zeros
returns c =
    in_three (replicate 96 0) c.write_at.new.bytes c.write_at-2.new.bytes c.write_at-3.new.bytes c.encipher_pair-numbers.result c.document_tag.result
    c.encipher-zeros.result 32 64 (search rules) (search rules) (search rules) (search rules) (search rules)
    c.write_at.ensures c.write_at-2.ensures c.write_at-3.ensures
    ∙ rw (c.encipher_pair-numbers.ensures, c.encipher-zeros.ensures, c.document_tag.ensures, c.server_count.ensures, c.server_zeros.ensures) refl
