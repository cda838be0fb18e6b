use Rattle.qe_vectors_payloads.proofs.libmongocrypt.print_equal.Goals as goal

pub write_equal-requires : goal.write_equal-requires
write_equal-requires c = c.what_is_read_fits.ensures.equal c.in-Ok.payload c.args.blob.now c.in-Ok.ensures.found
