use Rattle.std.proofs.Common.{◌+◌, ◌++◌, ◌∷◌, [], map, take, sym, ap, ap₂, ◌∙◌}
use Rattle.std.specs.Option.{option_copied}
use Rattle.qe_protocol.specs.Next.{row_of}
use Rattle.qe_serving.specs.Documents.{picked}
use Rattle.qe_serving.proofs.PickLemmas.{picked_some, picked_none, mapped_some}
use Rattle.qe_serving.proofs.collections.Collections.rows_of.Goals as goal
use Rattle.qe_serving.proofs.collections.Collections.rows_of.Goals.{in-Some+in_ok-copy+in_ok-copy-2+in_ok-push, in_default}

pub loop-number-preserved : goal.loop-number-preserved
loop-number-preserved c =
    let documents = c.args.self.now.store.documents in
    let numbers = c.args.numbers.now in
    let place = c.loop-number.number-index in
    elim c.match-at.branch [
      | in-Some+in_ok-copy+in_ok-copy-2+in_ok-push w ↦ mapped_some row_of (picked documents (take place numbers)) (picked documents (take (place + 1) numbers)) w.in-Some.stored.now
          c.loop-number.rows c.match-at.rows c.loop-number.invariant
          (picked_some documents numbers place 0 c.loop-number-test.true w.in-Some.stored.now (sym c.at.ensures.exact ∙ ap option_copied w.in-Some.is))
          (w.rows-is ∙ w.in_ok-push.ensures.ok ∙ ap₂ (λ id cells. c.loop-number.rows ++ record { id = id; cells = cells } ∷ []) w.in_ok-copy.ensures w.in_ok-copy-2.ensures)
      | in_default w ↦ w.rows-is ∙ c.loop-number.invariant
          ∙ ap (map row_of) (sym (picked_none documents numbers place 0 c.loop-number-test.true (sym c.at.ensures.exact ∙ ap option_copied w.in_default.is)))
    ]
