use Rattle.std.proofs.Common.{[], drop, sym, subst, subst₂}
use Rattle.qe_indexing.specs.Merge.{Rises, IsNextCell}
use Rattle.qe_indexing.proofs.MergeLemmas.{head_of, no_head, rises, next_new}
use Rattle.qe_indexing.proofs.merge.next_cell.Goals as goal

pub returns-in-Some-first-clause-some : goal.returns-in-Some-first-clause-some
returns-in-Some-first-clause-some c =
    let old = c.args.old.now in
    let new = c.args.new.now in
    let first = c.first_of.result in
    let olds = head_of old c.in-Some-first.cell.now c.in-Some-first.ensures.value in
    let news = head_of new c.in-Some.put.now c.in-Some.ensures.value in
    subst₂ (λ a b. IsNextCell a b first.cell.now first.old first.new) (sym olds) (sym news)
    (c.first_of.ensures (drop 1 old) (drop 1 new) (subst Rises olds (rises old c.requires.old)) (subst Rises news (rises new c.requires.new)))

pub returns-in-None-clause-some : goal.returns-in-None-clause-some
returns-in-None-clause-some c =
    let new = c.args.new.now in
    let put = c.in-Some.put.now in
    let news = head_of new put c.in-Some.ensures.value in
    subst₂ (λ a b. IsNextCell a b put 0 1) (sym (no_head c.args.old.now c.in-None.ensures.value)) (sym news)
    (next_new put [] (drop 1 new) tt (subst Rises news (rises new c.requires.new)).0)
