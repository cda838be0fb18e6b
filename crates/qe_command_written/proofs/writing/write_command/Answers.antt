use Rattle.std.proofs.Common.{◌≡◌, subst, sym, ap, ◌∙◌}
use Rattle.std.proofs.lemmas.Result.{err_from_is_err_and}
use Rattle.qe_base.specs.Answers.{Answers}
use Rattle.qe_document.specs.Faults.{encode_refusal}
use Rattle.qe_document.specs.Spelling.{document_bytes}
use Rattle.qe_document.specs.Writing.{encoded}
use Rattle.qe_command_written.specs.Faults.{payloads_fault}
use Rattle.qe_command_written.specs.Parts.{FitsParts}
use Rattle.qe_command_written.specs.Written.{command_elements}
use Rattle.qe_command_written.proofs.CommandLemmas.{fits_parts, bytes_again}
use Rattle.qe_command_written.proofs.CommandWhole.{written_whole_again}
use Rattle.qe_command_written.proofs.DueLemmas.{unless_ok, refused_free}
use Rattle.qe_command_written.proofs.writing.write_command.Goals as goal

pub document_of-requires : goal.document_of-requires
document_of-requires c =
    subst (λ fields. FitsParts fields c.args.command.now) (sym c.fields.ensures.all)
    (fits_parts c.args.schema.now c.args.command.now c.requires.bytes c.fields.ensures.schema c.requires.laid)

pub returns-clause-again : goal.returns-clause-again
returns-clause-again c =
    let command = c.args.command.now in
    let made = unless_ok (payloads_fault command) (command_elements c.fields.result.now command) c.in_ok-document.document c.in_ok-document.ensures.exact in
    bytes_again c.args.schema.now command c.requires.bytes c.in_ok-document.document c.encode.result c.fields.ensures.schema c.requires.laid
    (made.1 ∙ ap (λ fields. command_elements fields command) c.fields.ensures.all) c.in_ok-document.ensures.again c.encode.ensures.exact c.encode.ensures.fits

pub returns-in_err-document-clause-exact : goal.returns-in_err-document-clause-exact
returns-in_err-document-clause-exact c =
    let command = c.args.command.now in
    let p = err_from_is_err_and c.from_residual.result c.from_residual.ensures.1 in
    let whole = written_whole_again c.args.schema.now command c.requires.bytes c.fields.ensures.schema c.requires.are_bytes c.requires.laid in
    rw (p.1, p.2)
    (refused_free (encode_refusal c.in_err-document.field-0.0) (payloads_fault command) (command_elements c.fields.result.now command)
    (document_bytes (command_elements c.args.schema.now command)) whole.0 c.in_err-document.ensures.exact)

pub returns-clause-exact : goal.returns-clause-exact
returns-clause-exact c =
    let command = c.args.command.now in
    let made = unless_ok (payloads_fault command) (command_elements c.fields.result.now command) c.in_ok-document.document c.in_ok-document.ensures.exact in
    let same : c.in_ok-document.document ≡ command_elements c.args.schema.now command =
    made.1 ∙ ap (λ fields. command_elements fields command) c.fields.ensures.all in
    let whole = written_whole_again c.args.schema.now command c.requires.bytes c.fields.ensures.schema c.requires.are_bytes c.requires.laid in
    subst (Answers (λ bytes. bytes) encode_refusal c.encode.result) (ap encoded same ∙ whole.1) c.encode.ensures.exact
