use Rattle.std.proofs.Common.{List, ℕ, [], ap, ◌∙◌}
use Rattle.std.specs.List.{slice_index_or}
use Rattle.sha2.specs.Sha256.{compress}
use Rattle.qe_seal.specs.Hmac.{key_block, padded_block}
use Rattle.qe_lanes.proofs.BlockLemmas.{initial_in}
use Rattle.qe_lanes.proofs.keys.LaneKeys.new.Goals as goal

pub returns : goal.returns
returns c = λ lane lt.
    let block : ℕ → List ℕ = λ pad. padded_block pad (key_block (slice_index_or c.args.keys.now lane [])) in record {
      inner = c.compress.ensures lane (block 0x36) lt (c.pad_block.ensures lane lt) ∙ ap (λ (state : List ℕ). compress state (block 0x36)) (initial_in lane lt);
      outer = c.compress-2.ensures lane (block 0x5c) lt (c.pad_block-2.ensures lane lt) ∙ ap (λ (state : List ℕ). compress state (block 0x5c)) (initial_in lane lt);
    }
