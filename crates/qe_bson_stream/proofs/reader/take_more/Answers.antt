use Rattle.std.proofs.Common.{◌≡◌, ◌+◌, ◌-◌, length, arith}
use Rattle.std.proofs.lemmas.List.{length-append}
use Rattle.qe_bson_stream.proofs.StreamLemmas.{front_shorter}
use Rattle.qe_bson_stream.proofs.reader.take_more.Goals as goal

pub overflow_sub-result : goal.overflow_sub-result
overflow_sub-result c =
    let begins = rw (c.deref.ensures.value, c.in_ok-extend_from_slice.ensures.items) at c.in-Ok.ensures.found in
    let later = front_shorter c.args.held.now.items c.args.piece.now c.in-Ok.document c.in-Ok.n c.requires begins in
    omega (arith, later, c.len-before.ensures, c.args.held.now.ok)

pub returns-in-Ok : goal.returns-in-Ok
returns-in-Ok c =
    let begins = rw (c.deref.ensures.value, c.in_ok-extend_from_slice.ensures.items) at c.in-Ok.ensures.found in
    let later = front_shorter c.args.held.now.items c.args.piece.now c.in-Ok.document c.in-Ok.n c.requires begins in
    let read = rw (c.deref.ensures.value, c.in_ok-extend_from_slice.ensures.items) at c.in-Ok.ensures.exact in
    let count : length c.args.held.now.items + (c.in-Ok.n - c.len-before.result) ≡ c.in-Ok.n = omega (arith, later, c.len-before.ensures, c.args.held.now.ok) in
    (rw count read, omega (arith, later, begins.within, length-append c.args.held.now.items c.args.piece.now, c.len-before.ensures, c.args.held.now.ok), c.clear.ensures.items)
