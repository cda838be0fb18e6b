use Rattle.std.proofs.Common.{ap, ◌∙◌}
use Rattle.qe_labels.specs.Under.{key_of}
use Rattle.qe_keyring.specs.Keyrings.{FieldOf}
use Rattle.qe_keyring.proofs.KeyLemmas.{find_made}
use Rattle.qe_keyring.proofs.keyring.EncryptedField.find_tokens.Goals as goal

pub returns : goal.returns
returns c =
    let field = c.args.self.now in
    let grown = c.key.invariant in
    let is = c.key.view_is ∙ c.self.invariant ∙ ap (λ (f : FieldOf). key_of f.under f.number) c.self.view_is in
    find_made field.under field.number c.key.inside.key is c.args.item.now c.mac-d.result c.mac-s.result c.mac-l.result
    (c.mac-d.ensures _ grown.documents) (c.mac-s.ensures _ grown.rows) (c.mac-l.ensures _ grown.block_tokens)
