use Rattle.std.proofs.Common.{sym, ap, ◌∙◌, option_map}
use Rattle.std.specs.Prelude.{option_and_then}
use Rattle.qe_value.proofs.ViewLemmas.{fields_of-plain}
use Rattle.qe_value.specs.Views.{plain, fields_of}
use Rattle.qe_raw.proofs.values.document_of.Goals as goal

pub returns-in-Some : goal.returns-in-Some
returns-in-Some c =
    c.into_document.ensures ∙ sym (fields_of-plain c.in-Some.value)
    ∙ ap (option_and_then fields_of) (sym (ap (option_map plain) c.in-Some.is) ∙ c.in_ok-value.ensures)
