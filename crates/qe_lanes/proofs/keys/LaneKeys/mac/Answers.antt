use Rattle.std.proofs.Common.{List, ℕ, ◌+◌, ◌++◌, length, sym, ap, ◌∙◌}
use Rattle.sha2.specs.Sha256.{compress, digest_bytes, padding}
use Rattle.qe_lanes.specs.Keys.{pad_state}
use Rattle.qe_lanes.proofs.HmacLemmas.{hmac_by_blocks}
use Rattle.qe_lanes.proofs.keys.LaneKeys.mac.Goals as goal

pub returns : goal.returns
returns c = λ lane key message lt keyed fits has.
    let block = message ++ padding (64 + length message) in
    let inner = c.compress.ensures lane block lt has ∙ ap (λ (state : List ℕ). compress state block) keyed.inner in
    let last = digest_bytes (compress (pad_state 0x36 key) block) 8 ++ padding 96 in
    let outer = c.compress-2.ensures lane last lt (c.digest_block.ensures lane (pad_state 0x36 key) block lt inner)
    ∙ ap (λ (state : List ℕ). compress state last) keyed.outer in
    ap (λ (state : List ℕ). digest_bytes state 8) outer ∙ sym (hmac_by_blocks key message fits)
