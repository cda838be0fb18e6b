use Rattle.std.proofs.Common.{Ok, sym, ap, ◌∙◌}
use Rattle.qe_texts.specs.Documents.{text_of}
use Rattle.qe_texts.proofs.DocumentLemmas.{document_json-no_float}
use Rattle.qe_texts.proofs.document.document_text.Goals as goal

pub returns-in_ok-to_string-in-Ok : goal.returns-in_ok-to_string-in-Ok
returns-in_ok-to_string-in-Ok c =
    let written = c.in_ok-to_string-in-Ok.ensures.text (document_json-no_float c.args.fields.now c.args.document.now _ c.in-Ok.ensures) in
    ap text_of c.in-Ok.ensures ∙ ap Ok (sym written)
