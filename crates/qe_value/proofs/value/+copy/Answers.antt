use Rattle.std.proofs.lemmas.List.{take_all}
use Rattle.qe_value.proofs.value.+copy.Goals as goal

-- all fields were copied, so their names are distinct as in the source
pub copy_of_document-invariant_of-result : goal.copy_of_document-invariant_of-result
copy_of_document-invariant_of-result t c = rw (c.loop-name.invariant, take_all _ _ c.loop-name-test.false, c.deref-name-items.ensures.value) c.document.invariant
