use Rattle.std.proofs.Common.{List, ℕ, ◌++◌, ap, ap₂, ◌∙◌}
use Rattle.qe_labels.specs.Under.{key_of}
use Rattle.qe_encodes.specs.Payloads.{seal_of}
use Rattle.qe_keyring.specs.Keyrings.{FieldOf}
use Rattle.qe_keyring.proofs.KeyLemmas.{sealed_is}
use Rattle.qe_keyring.proofs.keyring.EncryptedField.sealed.Goals as goal

pub returns : goal.returns
returns c =
    let is = c.key.view_is ∙ c.self.invariant ∙ ap (λ (f : FieldOf). key_of f.under f.number) c.self.view_is in
    let sealed = sealed_is c.key.inside.key c.args.id.now c.args.iv.now c.args.bytes.now c.in_ok-sealed.sealed c.in_ok-sealed.ensures in
    c.in_ok-extend.ensures.ok
    ∙ ap₂ (λ front behind. front ++ behind) (c.in_ok-value.ensures ∙ c.bytes_of.ensures.same)
    (c.slice.ensures ∙ sealed ∙ ap (λ (key : List ℕ). seal_of key c.args.id.now c.args.iv.now c.args.bytes.now) is)
