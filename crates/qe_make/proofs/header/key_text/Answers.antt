use Rattle.std.proofs.Common.{◌+◌, refl, sym, ◌∙◌, arith}
use Rattle.std.proofs.lemmas.Iterator.{items_from_collect, YieldsList-from_range}
use Rattle.qe_make.specs.Header.{key_text}
use Rattle.qe_make.proofs.header.key_text.Goals as goal

pub returns : goal.returns
unfolding key_text
returns c =
    let first = c.args.first in
    let items = items_from_collect c.collect.result c.collect.ensures.ran (YieldsList-from_range first (first + 96) 96 refl (omega arith)) in
    let bytes = rw c.in_ok-bytes.was at items in
    rw (sym (c.as_slice.ensures.value ∙ bytes)) c.encode.ensures
