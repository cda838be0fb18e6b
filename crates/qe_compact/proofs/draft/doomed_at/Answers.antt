use Rattle.std.proofs.Common.{ℕ, ◌+◌, ◌-◌, List, length, sym, subst, arith}
use Rattle.qe_compact.specs.Drafts.{IsFirst}
use Rattle.qe_compact.proofs.ListLemmas.{drop_past}
use Rattle.qe_compact.proofs.draft.doomed_at.Goals as goal

pub returns-clause-first : goal.returns-clause-first
returns-clause-first c =
    let xs = c.args.standing.now in
    let ys = c.args.added.now in
    let here = drop_past xs ys c.args.place (c.args.place - length xs) (omega arith) in
    let next = drop_past xs ys (c.args.place + 1) (c.args.place - length xs + 1) (omega arith) in
    subst (λ (lists : List (List ℕ) × List (List ℕ)). IsFirst lists.0 lists.1 c.item_at-2.result) (λ i. (sym here i, sym next i)) c.item_at-2.ensures.first
