use Rattle.std.proofs.Common.{◌≡◌, ◌-◌, take, drop, length, sym, subst, arith, length-drop}
use Rattle.std.proofs.lemmas.List.{take_all}
use Rattle.qe_store.specs.Cells.{AreRising}
use Rattle.qe_indexing.proofs.MergeLemmas.{rising_drop}
use Rattle.qe_indexing.proofs.merge.cells_from.Goals as goal

pub returns-clause-rising : goal.returns-clause-rising
returns-clause-rising c =
    let place = c.args.place in
    let cells = c.args.cells.now in
    let rest = drop place cells in
    let all : take (length cells - place) rest ≡ rest = take_all (length cells - place) rest (omega (arith, length-drop place cells)) in
    subst AreRising (sym all) (rising_drop place cells c.requires.rising)
