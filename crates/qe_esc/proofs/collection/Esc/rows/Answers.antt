use Rattle.std.proofs.Common.{ap, ◌∙◌, sym, ◌++◌, ◌∷◌, [], get_or}
use Rattle.std.specs.FinMap as map
use Rattle.std.specs.Ordering.{nat_cmp}
use Rattle.std.specs.Cmp.Lexicographic.{slice_cmp, nat_list_cmp_total}
use Rattle.std.proofs.lemmas.List.{take_all}
use Rattle.qe_esc.proofs.ListedLemmas.{rows_at, rows_at-some, rows_at-none, rows_at-keys}
use Rattle.qe_esc.proofs.collection.Esc.rows.Goals as goal
use Rattle.qe_esc.proofs.collection.Esc.rows.Goals.{in-Some+in_ok-push, in_default}

pub loop-id-preserved : goal.loop-id-preserved
loop-id-preserved c =
    let at = map.get c.args.self.now.rows in
    let ids = c.deref-id-items.result.now in
    let i = c.loop-id.id-index in
    elim c.match-get.branch [
      | in-Some+in_ok-push w ↦ w.rows-is ∙ w.in_ok-push.ensures.ok ∙ ap (λ rows. rows ++ (get_or ids i [], w.in-Some.row) ∷ []) c.loop-id.invariant
          ∙ sym (rows_at-some at ids i [] w.in-Some.row c.loop-id-test.true (sym c.get.ensures ∙ w.in-Some.is))
      | in_default w ↦ w.rows-is ∙ c.loop-id.invariant ∙ sym (rows_at-none at ids i [] c.loop-id-test.true (sym c.get.ensures ∙ w.in_default.is))
    ]

pub returns : goal.returns
returns c =
    c.loop-id.invariant
    ∙ ap (rows_at (map.get c.args.self.now.rows)) (take_all c.loop-id.id-index c.deref-id-items.result.now c.loop-id-test.false ∙ c.deref-id-items.ensures.value ∙ c.in_ok-ids.ensures)
    ∙ rows_at-keys (slice_cmp nat_cmp) nat_list_cmp_total c.args.self.now.rows
