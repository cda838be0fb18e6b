use Rattle.qe_value.specs.Spelling.{document_bytes}
use Rattle.qe_value.proofs.DocumentLemmas.{is_read_again}
use Rattle.qe_encode.proofs.RefusalLemmas.{bytes_written}
use Rattle.qe_encode.proofs.writing.encode.Goals as goal

pub returns-clause-again : goal.returns-clause-again
returns-clause-again c =
    let fs = c.args.document.now in
    is_read_again fs c.document_out.result (bytes_written fs (document_bytes fs) c.document_out.result c.document_out.ensures.exact) c.document_out.ensures.fits
