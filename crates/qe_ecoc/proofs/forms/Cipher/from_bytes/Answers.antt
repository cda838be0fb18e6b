use Rattle.std.proofs.Common.{ap, sym, ◌∙◌, Some, arith}
use Rattle.std.proofs.lemmas.List.{take_all}
use Rattle.qe_ecoc.specs.declared.forms.Cipher.TheVariants.{Old, Leaf}
use Rattle.qe_ecoc.proofs.OpeningLemmas.{cipher_from-old, cipher_from-leaf}
use Rattle.qe_ecoc.proofs.forms.Cipher.from_bytes.Goals as goal

pub returns-in-48 : goal.returns-in-48
returns-in-48 c =
    let bytes = c.args.bytes.now in
    ap (λ all. Some (Old all)) (c.array_at.ensures ∙ take_all 48 bytes (omega arith)) ∙ sym (cipher_from-old bytes c.in-48.is)

pub returns-in-49 : goal.returns-in-49
returns-in-49 c =
    let bytes = c.args.bytes.now in
    ap (λ all. Some (Leaf all)) (c.array_at-in-49.ensures ∙ take_all 49 bytes (omega arith)) ∙ sym (cipher_from-leaf bytes c.in-49.is)
