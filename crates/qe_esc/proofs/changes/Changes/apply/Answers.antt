use Rattle.std.proofs.Common.{◌≤◌, arith, sym, ap, ◌∙◌, refl, subst, length}
use Rattle.std.specs.FinMap as map
use Rattle.std.specs.Map.Iter.{deref_pair}
use Rattle.std.proofs.lemmas.Map.Iter.{rest_all}
use Rattle.qe_esc.specs.Changes.{changed}
use Rattle.qe_esc.proofs.HashLemmas.{len-from_entries}
use Rattle.qe_esc.proofs.ChangesLemmas.{forward, forward-changed}
use Rattle.qe_esc.proofs.changes.Changes.apply.Goals as goal

pub loop-id-init : goal.loop-id-init
loop-id-init c =
    let start = c.into_iter-id-iterator.ensures.into_iter_gives ∙ c.iter-id-items.ensures.rest in
    let long = sym (ap map.len c.self.view_is) ∙ len-from_entries c.self.inside.rows.entries c.iter-id-items.ensures.unique ∙ sym (ap length start) in
    record { rows = refl; room = subst (λ n. n ≤ c.args.esc.now.spare) long c.requires; left = omega arith }

pub returns-clause-rows : goal.returns-clause-rows
returns-clause-rows c =
    let rows = c.args.esc.now.rows in
    let end = rest_all deref_pair c.loop-id.id-iterator c.next.new.self c.next.result c.in-None.is c.next.ensures.steps in
    let start = c.into_iter-id-iterator.ensures.into_iter_gives ∙ c.iter-id-items.ensures.rest in
    ap (forward c.loop-id.esc.rows) (sym end) ∙ c.loop-id.invariant.rows ∙ ap (forward rows) start
    ∙ forward-changed rows c.self.inside.rows.entries c.iter-id-items.ensures.unique ∙ ap (changed rows) c.self.view_is

pub returns-clause-room : goal.returns-clause-room
returns-clause-room c =
    let end = rest_all deref_pair c.loop-id.id-iterator c.next.new.self c.next.result c.in-None.is c.next.ensures.steps in
    let start = c.into_iter-id-iterator.ensures.into_iter_gives ∙ c.iter-id-items.ensures.rest in
    let long = sym (ap map.len c.self.view_is) ∙ len-from_entries c.self.inside.rows.entries c.iter-id-items.ensures.unique ∙ sym (ap length start) in
    omega (arith, c.loop-id.invariant.left, long, ap length end)
