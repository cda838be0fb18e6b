use Rattle.std.proofs.Common.{◌≡◌, ◌<◌, cond, length, map, take, None, Some, sym, ap, ◌∙◌, arith}
use Rattle.std.specs.List.{position_from}
use Rattle.qe_labels.specs.Clashes.{same_key}
use Rattle.qe_label_list.specs.Keys.{key_at}
use Rattle.qe_label_list.proofs.KeyLemmas.{same_exact, same_itself}
use Rattle.qe_label_list.proofs.RepeatLemmas.{hit_by, miss_by}
use Rattle.qe_label_list.proofs.clash.first_repeat_of.Goals as goal

pub returns-in-Some : goal.returns-in-Some
returns-in-Some c =
    let within : c.loop-place.place < length c.args.rows.now = omega arith in
    let found : position_from (same_key c.key_of-key.result) 0 (map key_at (take c.loop-place.place c.args.rows.now)) ≡ Some c.in-Some.first.now =
    sym (c.loop-place.invariant.0 c.key_of-key.result) ∙ sym c.in-Some.ensures.value in
    hit_by same_key same_exact same_itself key_at c.args.rows.now c.loop-place.place c.in-Some.first.now _ c.key_of-key.result c.key_of-key.ensures within
    c.loop-place.invariant.1 found

pub loop-place-preserved : goal.loop-place-preserved
loop-place-preserved c =
    let within : c.loop-place.place < length c.args.rows.now = omega arith in
    let none : position_from (same_key c.key_of-key.result) 0 (map key_at (take c.loop-place.place c.args.rows.now)) ≡ None =
    sym (c.loop-place.invariant.0 c.key_of-key.result) ∙ sym c.in-None.ensures.value in
    let next =
    miss_by same_key same_exact same_itself key_at c.args.rows.now c.loop-place.place _ c.key_of-key.result c.key_of-key.ensures within
    c.loop-place.invariant.1 none in (
      λ q. c.in_ok-insert-in-None.ensures.updates.0 q
          ∙ ap (cond (same_key c.key_of-key.result q) (Some c.loop-place.place)) (c.loop-place.invariant.0 q) ∙ next.0 q,
      next.1,
    )
