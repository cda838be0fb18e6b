use Rattle.std.proofs.Common.{◌≡◌, ◌+◌, ◌++◌, ◌∷◌, [], take, map, ap, sym, ◌∙◌}
use Rattle.std.proofs.lemmas.List.{map-append}
use Rattle.qe_value.specs.declared.value.Plain.TheVariants.{Doc}
use Rattle.qe_parts.proofs.EntryLemmas.{take_next, all_next}
use Rattle.qe_parts.proofs.entries.trees_of.Goals as goal

pub loop-i-preserved : goal.loop-i-preserved
loop-i-preserved g c =
    let elements = g.E.Entry.elements in
    let entries = c.args.of.now in
    let i = c.loop-i.i in
    let entry = c.index-of-i.result in
    let document = c.in_ok-document.document in
    let more : take (i + 1) entries ≡ take i entries ++ entry ∷ [] = take_next entries i entry c.loop-i-test.true c.index-of-i.is in
    record {
      trees = c.in_ok-push.ensures.ok
          ∙ ap (λ items. items ++ Doc document ∷ []) c.loop-i.invariant.trees
          ∙ ap (λ fields. map (λ e. Doc (elements e)) (take i entries) ++ Doc fields ∷ []) c.in_ok-document.ensures.elements
          ∙ sym (map-append (λ e. Doc (elements e)) (take i entries) (entry ∷ []))
          ∙ ap (map (λ e. Doc (elements e))) (sym more);
      again = all_next g.E.Entry.again (take i entries) entry (take (i + 1) entries) more c.loop-i.invariant.again c.in_ok-document.ensures.again;
    }
