use Rattle.std.proofs.Common.{◌≡◌, ◌<◌, length, take, ◌++◌, min, false, [], ap, ◌∙◌, subst, arith}
use Rattle.std.proofs.lemmas.List.{take_min}
use Rattle.qe_lanes.specs.Keys.{IsKeyedBy}
use Rattle.qe_label_rows.specs.Batches.{AreKeys}
use Rattle.qe_label_rows.specs.declared.row.WordTokens.{WordTokens}
use Rattle.qe_label_rows.proofs.KeyLemmas.{keys_next}
use Rattle.qe_label_rows.proofs.keys.push_keys.Goals as goal

pub loop-lane-preserved : goal.loop-lane-preserved
loop-lane-preserved c = λ before are.
    let none : WordTokens = record { rows = []; tags = []; has_tags = false; end = 0 } in
    let within : c.loop-lane.lane < length c.args.words.now = omega arith in
    let low : c.loop-lane.lane < 16 = omega arith in
    let keyed = c.key.ensures _ (c.first_keys-lanes.ensures c.loop-lane.lane none low within) in
    rw c.in_ok-push.ensures.items
    (keys_next c.args.kind c.loop-lane.keys.items before c.args.words.now c.key.result c.loop-lane.lane none within (c.loop-lane.invariant before are) keyed)

pub returns : goal.returns
returns c = λ before are.
    let all : c.loop-lane.lane ≡ min 16 (length c.args.words.now) = omega arith in
    let same : take c.loop-lane.lane c.args.words.now ≡ take 16 c.args.words.now = ap (λ n. take n c.args.words.now) all ∙ take_min 16 c.args.words.now in
    subst (λ words. AreKeys c.args.kind c.loop-lane.keys.items (before ++ words)) same (c.loop-lane.invariant before are)
