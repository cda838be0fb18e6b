use Rattle.qe_vectors_payloads.proofs.libmongocrypt.print_range.Goals as goal

pub write_range-requires-clause-factor : goal.write_range-requires-clause-factor
write_range-requires-clause-factor c = (c.what_is_read_fits.ensures.range c.in-Ok.payload c.args.blob.now c.in-Ok.ensures.found).factor

pub write_range-requires-clause-edges : goal.write_range-requires-clause-edges
write_range-requires-clause-edges c = (c.what_is_read_fits.ensures.range c.in-Ok.payload c.args.blob.now c.in-Ok.ensures.found).edges

pub write_range-requires-clause-extra : goal.write_range-requires-clause-extra
write_range-requires-clause-extra c = (c.what_is_read_fits.ensures.range c.in-Ok.payload c.args.blob.now c.in-Ok.ensures.found).extra
