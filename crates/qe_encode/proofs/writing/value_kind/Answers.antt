use Rattle.std.proofs.Common.{sym, ap, ◌∙◌}
use Rattle.qe_value.specs.Spelling.{Spelled}
use Rattle.qe_value.specs.Types.{type_byte}
use Rattle.qe_encode.proofs.WriteLemmas.{spell_plain}
use Rattle.qe_encode.proofs.writing.value_kind.Goals as goal

pub returns : goal.returns
returns c = c.byte.ensures ∙ ap type_byte c.kind_of.ensures ∙ ap (λ (s : Spelled). type_byte s.kind) (sym (spell_plain c.args.value.now))
