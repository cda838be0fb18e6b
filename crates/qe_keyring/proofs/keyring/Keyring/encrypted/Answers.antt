use Rattle.std.proofs.Common.{◌≡◌, ℕ, List, [], length, take, ap, ap₂, ◌∙◌, arith}
use Rattle.std.specs.Prelude.{slice_index_or}
use Rattle.qe_field.specs.declared.field.Field.{Field}
use Rattle.qe_field.specs.Lookup.{encrypted_numbers}
use Rattle.qe_labels.specs.Under.{Under}
use Rattle.qe_keyring.proofs.KeyLemmas.{key_within}
use Rattle.qe_keyring.proofs.keyring.Keyring.encrypted.Goals as goal

pub key_at-requires : goal.key_at-requires
key_at-requires c =
    let u = c.args.self.now in
    let schema : c.fields.result.now ≡ u.schema = c.fields.ensures.all ∙ ap (λ (u : Under). u.schema) c.self.view_is in
    let keys : length c.slice.result.now ≡ length (encrypted_numbers u.schema) =
    ap length c.slice.ensures ∙ c.self.invariant ∙ ap (λ (u : Under). length (encrypted_numbers u.schema)) c.self.view_is in
    let before : c.encrypted_count.result ≡ length (encrypted_numbers (take c.args.number u.schema)) =
    c.encrypted_count.ensures ∙ ap (λ (fields : List Field). length (encrypted_numbers (take c.args.number fields))) schema in
    omega (arith, keys, before, key_within u.schema c.args.number c.requires)

pub invariant_of-result : goal.invariant_of-result
invariant_of-result c =
    let u = c.args.self.now in
    let schema : c.fields.result.now ≡ u.schema = c.fields.ensures.all ∙ ap (λ (u : Under). u.schema) c.self.view_is in
    let before : c.encrypted_count.result ≡ length (encrypted_numbers (take c.args.number u.schema)) =
    c.encrypted_count.ensures ∙ ap (λ (fields : List Field). length (encrypted_numbers (take c.args.number fields))) schema in
    c.key_at.ensures
    ∙ ap₂ (λ (keys : List (List ℕ)) (place : ℕ). slice_index_or keys place []) (c.slice.ensures ∙ ap (λ (u : Under). u.keys) c.self.view_is) before
