use Rattle.std.proofs.Common.{◌<◌, length, ◌∙◌, arith}
use Rattle.qe_label_list.specs.Roots.{root_in}
use Rattle.qe_label_list.proofs.FieldLemmas.{item_made, stray_made, tokens_next}
use Rattle.qe_label_list.proofs.making.word_tokens.Goals as goal
use Rattle.qe_label_list.proofs.making.word_tokens.Goals.{in-Item+in_ok-push-in-Item, in-Stray+in_ok-push-in-Stray}

pub loop-word-preserved : goal.loop-word-preserved
loop-word-preserved c = λ roots are.
    let within : c.loop-word.word-index < length c.args.counted.now = omega arith in
    let before = c.loop-word.invariant roots are in
    elim c.match-word.branch [
      | in-Item+in_ok-push-in-Item w ↦
          let kept = w.of-of_item.ensures.keys roots are before.0 in
          rw (w.kept-is, w.tokens-is) (
            kept,
            tokens_next (root_in roots) c.args.counted.now c.loop-word.word-index c.loop-word-item.result c.loop-word.tokens.items w.push.new.self.items w.word.result
                within c.loop-word-item.is before.1 w.in_ok-push-in-Item.ensures.items
                (item_made w.of-of_item.result w.in-Item.contention w.word.result roots w.in-Item.field w.in-Item.item c.in_ok-end.end c.loop-word-item.result.1
                c.loop-word-item.result.0 kept w.of-of_item.ensures.field (w.of-of_item.ensures.item ∙ w.slice.ensures) w.word.ensures.rows w.word.ensures.tags
                w.word.ensures.has_tags w.word.ensures.end c.in_ok-end.ensures w.in-Item.is),
          )
      | in-Stray+in_ok-push-in-Stray w ↦
          rw (w.kept-is, w.tokens-is) (
            before.0,
            tokens_next (root_in roots) c.args.counted.now c.loop-word.word-index c.loop-word-item.result c.loop-word.tokens.items w.push-in-Stray.new.self.items
                w.stray_tokens.result within c.loop-word-item.is before.1 w.in_ok-push-in-Stray.ensures.items
                (stray_made (root_in roots) w.in-Stray.token c.in_ok-end.end c.loop-word-item.result.1 c.loop-word-item.result.0 w.stray_tokens.result
                w.stray_tokens.ensures.rows w.stray_tokens.ensures.tags w.stray_tokens.ensures.has_tags w.stray_tokens.ensures.end c.in_ok-end.ensures w.in-Stray.is),
          )
    ]
