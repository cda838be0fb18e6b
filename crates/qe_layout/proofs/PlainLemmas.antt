-- The elements and items of a value are those of its tree.
use Rattle.qe_value.proofs.ViewLemmas.{fields_of-plain, items_of-plain}

pub ruleset parts_of_plain = (fields_of-plain, items_of-plain)
