use Rattle.std.proofs.Common.{List, ℕ, ap, ◌∙◌}
use Rattle.qe_tokens.specs.Tokens.{edc_contention_of, esc_contention_of}
use Rattle.qe_ecoc.specs.Opening.{written}
use Rattle.qe_labels.specs.Under.{key_of}
use Rattle.qe_keyring.specs.Keyrings.{FieldOf}
use Rattle.qe_keyring.proofs.KeyLemmas.{item_made}
use Rattle.qe_keyring.proofs.keyring.EncryptedField.item_tokens.Goals as goal

pub returns : goal.returns
returns c =
    let field = c.args.self.now in
    let grown = c.key.invariant in
    let is = c.key.view_is ∙ c.self.invariant ∙ ap (λ (f : FieldOf). key_of f.under f.number) c.self.view_is in
    item_made field.under field.number c.key.inside.key is c.args.factor c.args.item.now c.args.iv.now c.args.leaf c.edc_contention.result.0
    c.esc_contention.result.0 c.mac-l.result c.make_cipher-p.result
    (c.edc_contention.ensures ∙ ap (λ (derived : List ℕ). edc_contention_of derived c.args.factor) (c.mac.ensures _ grown.documents))
    (c.esc_contention.ensures ∙ ap (λ (derived : List ℕ). esc_contention_of derived c.args.factor) (c.mac-2.ensures _ grown.rows))
    (c.mac-l.ensures _ grown.block_tokens)
    (c.make_cipher-p.ensures ∙ ap (λ (k : List ℕ). written k c.args.iv.now c.esc_contention.result.0 c.args.leaf) grown.compaction)
