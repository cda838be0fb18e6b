use Rattle.qe_vectors_payloads.proofs.libmongocrypt.print_insert.Goals as goal

pub write_insert-requires-clause-value : goal.write_insert-requires-clause-value
write_insert-requires-clause-value c = (c.what_is_read_fits.ensures.insert c.in-Ok.payload c.args.blob.now c.in-Ok.ensures.found).value

pub write_insert-requires-clause-factor : goal.write_insert-requires-clause-factor
write_insert-requires-clause-factor c = (c.what_is_read_fits.ensures.insert c.in-Ok.payload c.args.blob.now c.in-Ok.ensures.found).factor

pub write_insert-requires-clause-edges : goal.write_insert-requires-clause-edges
write_insert-requires-clause-edges c = (c.what_is_read_fits.ensures.insert c.in-Ok.payload c.args.blob.now c.in-Ok.ensures.found).edges

pub write_insert-requires-clause-extra : goal.write_insert-requires-clause-extra
write_insert-requires-clause-extra c = (c.what_is_read_fits.ensures.insert c.in-Ok.payload c.args.blob.now c.in-Ok.ensures.found).extra
