use Rattle.std.proofs.Common.{◌∙◌, ap, subst}
use Rattle.std.proofs.lemmas.List.{get_or-replicate}
use Rattle.std.specs.List.{slice_index_or}
use Rattle.qe_lanes.specs.Keys.{IsKeyedIn}
use Rattle.qe_seal.specs.Hmac.{prf1_of}
use Rattle.qe_label_rows.specs.Made.{token_for}
use Rattle.qe_label_rows.proofs.KeyLemmas.{key_of_token}
use Rattle.qe_label_rows.proofs.keys.first_keys.Goals as goal

pub returns : goal.returns
returns c = λ lane d low within.
    let token = token_for c.args.kind (slice_index_or c.args.words.now lane d) in
    let keyed = subst (IsKeyedIn c.new-tokens.result lane) (c.first_tokens.ensures lane d low within) (c.new-tokens.ensures lane low) in
    let is = c.prf1.ensures lane token low keyed ∙ ap (prf1_of token) (get_or-replicate 16 lane 1 0 low)
    ∙ key_of_token c.args.kind (slice_index_or c.args.words.now lane d) in
    subst (IsKeyedIn c.new.result lane) is (c.new.ensures lane low)
