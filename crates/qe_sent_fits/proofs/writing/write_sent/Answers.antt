use Rattle.qe_sent_fits.proofs.writing.write_sent.Goals as goal

pub returns-in-Ok-clause-again : goal.returns-in-Ok-clause-again
returns-in-Ok-clause-again c = (c.command_documents_are_read.ensures c.args.schema.now).laid_is_read c.args.command.now c.in-Ok.bytes c.in-Ok.ensures.again
