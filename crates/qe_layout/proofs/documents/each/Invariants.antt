use Rattle.std.proofs.Common.{◌≡◌, map, length}
use Rattle.qe_document.specs.Views.{plain}
use Rattle.qe_layout.specs.Documents.{each_read}
use Rattle.qe_layout.proofs.ItemLemmas.{ahead}
use Rattle.qe_layout.proofs.documents.each.Given as goal

-- what is left decides
abbrev pub invariant-loop-value : goal.invariant-loop-value
invariant-loop-value g l =
    each_read (g.I.Item.reads l.fn.item) 0 l.fn.values ≡ ahead l.read (each_read (g.I.Item.reads l.fn.item) (length l.read) (map plain l.value-iterator.rest.items))
