use Rattle.std.proofs.Common.{◌≡◌, ◌≤◌, List, length, take, ap, ◌∙◌, arith}
use Rattle.qe_field.specs.declared.field.Field.{Field}
use Rattle.qe_field.specs.Lookup.{encrypted_numbers}
use Rattle.qe_tokens.specs.Tokens.{collections_of, ecoc_of}
use Rattle.qe_strays.proofs.StrayLemmas.{token_is, token_none}
use Rattle.qe_strays.proofs.strays.field_token.Goals as goal

pub returns-then-place-len : goal.returns-then-place-len
returns-then-place-len c =
    let place : c.len-place.result ≡ length (encrypted_numbers (take c.args.field c.args.schema.now)) =
    c.len-place.ensures ∙ ap length (c.in_ok-encrypted_numbers.ensures.exact
    ∙ ap (λ (fields : List Field). encrypted_numbers (take c.args.field fields)) c.fields-fields.ensures.all) in
    c.ecoc.ensures ∙ ap ecoc_of (c.collections.ensures ∙ ap collections_of c.root_key.ensures)
    ∙ token_is c.args.schema.now c.args.keys.now c.args.field c.len-place.result c.key.result.now place c.key.ensures

pub returns-else-place-len : goal.returns-else-place-len
returns-else-place-len c =
    let place : c.len-place.result ≡ length (encrypted_numbers (take c.args.field c.args.schema.now)) =
    c.len-place.ensures ∙ ap length (c.in_ok-encrypted_numbers.ensures.exact
    ∙ ap (λ (fields : List Field). encrypted_numbers (take c.args.field fields)) c.fields-fields.ensures.all) in
    let past : length c.args.keys.now ≤ c.len-place.result = omega arith in
    c.ecoc-else-place-len.ensures ∙ ap ecoc_of (c.prf1-level.ensures _ c.new.ensures)
    ∙ token_none c.args.schema.now c.args.keys.now c.args.field c.len-place.result place past
