use Rattle.std.proofs.Common.{◌+◌, ◌++◌, flat_map, take, sym, ap, ◌∙◌}
use Rattle.std.specs.Option.{option_copied}
use Rattle.qe_dump.specs.Dump.{document_lines}
use Rattle.qe_serving.specs.Documents.{picked}
use Rattle.qe_serving.proofs.PickLemmas.{picked_some, picked_none}
use Rattle.qe_engine.proofs.DumpLemmas.{lines_some}
use Rattle.qe_engine.proofs.dump.put_picked.Goals as goal
use Rattle.qe_engine.proofs.dump.put_picked.Goals.{in-Some+in_ok-put_document, in_default}

pub loop-number-preserved : goal.loop-number-preserved
loop-number-preserved c =
    let documents = c.args.kept.now.store.documents in
    let numbers = c.args.numbers.now in
    let place = c.loop-number.number-index in
    let lines = document_lines c.args.fields.now in
    elim c.match-at.branch [
      | in-Some+in_ok-put_document w ↦ lines_some lines (picked documents (take place numbers)) (picked documents (take (place + 1) numbers)) w.in-Some.stored.now
          c.args.text.now c.loop-number.text c.match-at.text c.loop-number.invariant
          (picked_some documents numbers place 0 c.loop-number-test.true w.in-Some.stored.now (sym c.at.ensures.exact ∙ ap option_copied w.in-Some.is))
          (w.text-is ∙ w.in_ok-put_document.ensures)
      | in_default w ↦ w.text-is ∙ c.loop-number.invariant
          ∙ ap (λ all. c.args.text.now ++ flat_map lines all) (sym (picked_none documents numbers place 0 c.loop-number-test.true (sym c.at.ensures.exact ∙ ap option_copied w.in_default.is)))
    ]
