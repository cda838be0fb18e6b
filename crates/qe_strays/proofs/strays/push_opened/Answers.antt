use Rattle.std.proofs.Common.{◌≡◌, ◌<◌, ◌≤◌, [], min, length, ◌∙◌, arith}
use Rattle.qe_strays.proofs.StrayLemmas.{opened_all, pass_next, push_next}
use Rattle.qe_strays.proofs.strays.push_opened.Goals as goal
use Rattle.qe_strays.proofs.strays.push_opened.Goals.{then-branch+in_ok-push, else-branch}

pub loop-i-preserved : goal.loop-i-preserved
loop-i-preserved c =
    let within : c.loop-i.i < length c.args.opened.now = omega arith in
    let also : c.loop-i.i < length c.args.counts.now = omega arith in
    elim c.if-branch.branch [
      | then-branch+in_ok-push w ↦
          push_next (record { schema = c.args.schema.now; keys = c.args.keys.now }) c.args.tokens.now c.args.opened.now c.args.counts.now c.loop-i.i _
          c.in_ok-is_stray.field-0 c.loop-i.words c.if-branch.words _ within also c.in_ok-is_stray.ensures c.loop-i.invariant w.if-branch.true
          (w.words-is ∙ w.in_ok-push.ensures.ok)
      | else-branch w ↦
          pass_next (record { schema = c.args.schema.now; keys = c.args.keys.now }) c.args.tokens.now c.args.opened.now c.args.counts.now c.loop-i.i
          (record { token = []; hop = 0; positions = 0 }) c.in_ok-is_stray.field-0 c.loop-i.words c.if-branch.words _ within also c.in_ok-is_stray.ensures
          c.loop-i.invariant w.if-branch.false w.words-is
    ]

pub returns : goal.returns
returns c =
    let past : min (length c.args.opened.now) (length c.args.counts.now) ≤ c.loop-i.i = omega arith in
    opened_all (record { schema = c.args.schema.now; keys = c.args.keys.now }) c.args.tokens.now c.args.opened.now c.args.counts.now c.loop-i.i c.loop-i.words _ past
    c.loop-i.invariant
