use Rattle.std.proofs.Common.{ap, ◌∙◌}
use Rattle.qe_labels.specs.Under.{key_of}
use Rattle.qe_keyring.specs.Keyrings.{FieldOf}
use Rattle.qe_keyring.proofs.KeyLemmas.{values_made}
use Rattle.qe_keyring.proofs.keyring.EncryptedField.cipher.Goals as goal

pub returns : goal.returns
returns c =
    let field = c.args.self.now in
    let is = c.key.view_is ∙ c.self.invariant ∙ ap (λ (f : FieldOf). key_of f.under f.number) c.self.view_is in
    c.key.invariant.values ∙ values_made field.under field.number c.key.inside.key is
