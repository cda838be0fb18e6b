use Rattle.std.proofs.Common.{◌≡◌, ◌<◌, sym, ◌∙◌, ap, subst, refl, length, bytes_eq, nat_eq, arith, vec_capacity}
use Rattle.std.proofs.lemmas.List.{get_or_read_under}
use Rattle.std.specs.HashMap.{get, spare}
use Rattle.qe_chains.specs.declared.nodes.Side.TheVariants.{All}
use Rattle.qe_chains.specs.declared.nodes.Node.{Node}
use Rattle.qe_chains.specs.Nodes.{blank, first_of, pairs_from, IsInside}
use Rattle.qe_chains.specs.Pairs.{Listed, of_others}
use Rattle.qe_chains.proofs.CallLemmas.{can_unlink, unlink_done, unlink_room, has_none}
use Rattle.qe_chains.proofs.chains.Chains.unlink_first.Goals as goal

pub returns-in_default-clause-none : goal.returns-in_default-clause-none
returns-in_default-clause-none c _ =
    let none = has_none _ _ _ _ _ c.self.invariant c.args.doc (sym (c.first_node.ensures ∙ ap first_of (c.copied-by_doc.ensures ∙ c.get.ensures.value)) ∙ c.in_default.is) in
    subst (λ (v : Listed). of_others c.args.doc v.pairs ≡ v.pairs) c.self.view_is none

pub index-requires : goal.index-requires
index-requires c =
    let can = can_unlink _ _ _ _ (get nat_eq c.self.inside.docs) c.self.invariant c.args.doc c.in-Some.at (sym (c.first_node.ensures ∙ ap first_of (c.copied-by_doc.ensures ∙ c.get.ensures.value)) ∙ c.in-Some.is) _ refl in
    omega (arith, can.at_in, c.self.inside.nodes.ok.0)

pub release-left-requires-clause-there : goal.release-left-requires-clause-there
release-left-requires-clause-there c =
    let can0 = can_unlink _ _ _ _ (get nat_eq c.self.inside.docs) c.self.invariant c.args.doc c.in-Some.at (sym (c.first_node.ensures ∙ ap first_of (c.copied-by_doc.ensures ∙ c.get.ensures.value)) ∙ c.in-Some.is) _ refl in
    let can = can_unlink _ _ _ (get bytes_eq c.self.inside.tags) (get nat_eq c.self.inside.docs) c.self.invariant c.args.doc c.in-Some.at (sym (c.first_node.ensures ∙ ap first_of (c.copied-by_doc.ensures ∙ c.get.ensures.value)) ∙ c.in-Some.is) c.index.result.now.tag (ap (λ (n : Node). n.tag) (sym (get_or_read_under _ _ _ _ blank c.index.ensures can0.at_in refl))) in
    (can.has_all, (λ e. can.has_tag (sym (c.copied.ensures ∙ c.get-2.ensures.value) ∙ e)), (λ e. can.has_doc (sym (c.copied-by_doc.ensures ∙ c.get.ensures.value) ∙ e)))

pub release-left-requires-clause-at : goal.release-left-requires-clause-at
release-left-requires-clause-at c =
    let can = can_unlink _ _ _ _ (get nat_eq c.self.inside.docs) c.self.invariant c.args.doc c.in-Some.at (sym (c.first_node.ensures ∙ ap first_of (c.copied-by_doc.ensures ∙ c.get.ensures.value)) ∙ c.in-Some.is) _ refl in
    subst (λ m. c.in-Some.at < length m) (sym c.deref_mut.ensures.value) can.at_in

pub release-left-requires-clause-inside : goal.release-left-requires-clause-inside
release-left-requires-clause-inside c =
    let can = can_unlink _ _ _ _ (get nat_eq c.self.inside.docs) c.self.invariant c.args.doc c.in-Some.at (sym (c.first_node.ensures ∙ ap first_of (c.copied-by_doc.ensures ∙ c.get.ensures.value)) ∙ c.in-Some.is) _ refl in
    subst (λ m. IsInside c.in-Some.at m) (sym c.deref_mut.ensures.value) can.neighbours_in

pub set_ends-requires : goal.set_ends-requires
set_ends-requires c =
    let can0 = can_unlink _ _ _ _ (get nat_eq c.self.inside.docs) c.self.invariant c.args.doc c.in-Some.at (sym (c.first_node.ensures ∙ ap first_of (c.copied-by_doc.ensures ∙ c.get.ensures.value)) ∙ c.in-Some.is) _ refl in
    let can = can_unlink _ _ _ (get bytes_eq c.self.inside.tags) (get nat_eq c.self.inside.docs) c.self.invariant c.args.doc c.in-Some.at (sym (c.first_node.ensures ∙ ap first_of (c.copied-by_doc.ensures ∙ c.get.ensures.value)) ∙ c.in-Some.is) c.index.result.now.tag (ap (λ (n : Node). n.tag) (sym (get_or_read_under _ _ _ _ blank c.index.ensures can0.at_in refl))) in
    can.has_tag

pub invariant_of-self : goal.invariant_of-self
invariant_of-self c =
    let can0 = can_unlink _ _ _ _ (get nat_eq c.self.inside.docs) c.self.invariant c.args.doc c.in-Some.at (sym (c.first_node.ensures ∙ ap first_of (c.copied-by_doc.ensures ∙ c.get.ensures.value)) ∙ c.in-Some.is) _ refl in
    let done = unlink_done _ _ _ (get bytes_eq c.self.inside.tags) (get nat_eq c.self.inside.docs) c.self.invariant c.args.doc c.in-Some.at (sym (c.first_node.ensures ∙ ap first_of (c.copied-by_doc.ensures ∙ c.get.ensures.value)) ∙ c.in-Some.is) c.self.inside.nodes.len c.deref_mut.result.now c.release-left.new.nodes c.index.result.now.tag _ c.release-left.result (get bytes_eq c.set_ends.new.table) (get nat_eq c.set_ends-2.new.table)
    c.self.inside.nodes.ok.0 c.deref_mut.ensures.value (ap (λ (n : Node). n.tag) (sym (get_or_read_under _ _ _ _ blank c.index.ensures can0.at_in refl))) c.release-left.ensures refl (c.copied.ensures ∙ c.get-2.ensures.value) (c.copied-by_doc.ensures ∙ c.get.ensures.value) c.set_ends.ensures.sets c.set_ends-2.ensures.sets in
    done.stands'

pub returns-clause-others : goal.returns-clause-others
returns-clause-others c =
    let can0 = can_unlink _ _ _ _ (get nat_eq c.self.inside.docs) c.self.invariant c.args.doc c.in-Some.at (sym (c.first_node.ensures ∙ ap first_of (c.copied-by_doc.ensures ∙ c.get.ensures.value)) ∙ c.in-Some.is) _ refl in
    let done = unlink_done _ _ _ (get bytes_eq c.self.inside.tags) (get nat_eq c.self.inside.docs) c.self.invariant c.args.doc c.in-Some.at (sym (c.first_node.ensures ∙ ap first_of (c.copied-by_doc.ensures ∙ c.get.ensures.value)) ∙ c.in-Some.is) c.self.inside.nodes.len c.deref_mut.result.now c.release-left.new.nodes c.index.result.now.tag _ c.release-left.result (get bytes_eq c.set_ends.new.table) (get nat_eq c.set_ends-2.new.table)
    c.self.inside.nodes.ok.0 c.deref_mut.ensures.value (ap (λ (n : Node). n.tag) (sym (get_or_read_under _ _ _ _ blank c.index.ensures can0.at_in refl))) c.release-left.ensures refl (c.copied.ensures ∙ c.get-2.ensures.value) (c.copied-by_doc.ensures ∙ c.get.ensures.value) c.set_ends.ensures.sets c.set_ends-2.ensures.sets in
    done.others ∙ ap (λ (v : Listed). of_others c.args.doc v.pairs) c.self.view_is

pub returns-clause-fewer : goal.returns-clause-fewer
returns-clause-fewer c _ =
    let can0 = can_unlink _ _ _ _ (get nat_eq c.self.inside.docs) c.self.invariant c.args.doc c.in-Some.at (sym (c.first_node.ensures ∙ ap first_of (c.copied-by_doc.ensures ∙ c.get.ensures.value)) ∙ c.in-Some.is) _ refl in
    let done = unlink_done _ _ _ (get bytes_eq c.self.inside.tags) (get nat_eq c.self.inside.docs) c.self.invariant c.args.doc c.in-Some.at (sym (c.first_node.ensures ∙ ap first_of (c.copied-by_doc.ensures ∙ c.get.ensures.value)) ∙ c.in-Some.is) c.self.inside.nodes.len c.deref_mut.result.now c.release-left.new.nodes c.index.result.now.tag _ c.release-left.result (get bytes_eq c.set_ends.new.table) (get nat_eq c.set_ends-2.new.table)
    c.self.inside.nodes.ok.0 c.deref_mut.ensures.value (ap (λ (n : Node). n.tag) (sym (get_or_read_under _ _ _ _ blank c.index.ensures can0.at_in refl))) c.release-left.ensures refl (c.copied.ensures ∙ c.get-2.ensures.value) (c.copied-by_doc.ensures ∙ c.get.ensures.value) c.set_ends.ensures.sets c.set_ends-2.ensures.sets in
    ap (λ (v : Listed). length v.pairs) (sym c.self.view_is) ∙ done.less

pub returns-clause-room : goal.returns-clause-room
returns-clause-room c =
    let can0 = can_unlink _ _ _ _ (get nat_eq c.self.inside.docs) c.self.invariant c.args.doc c.in-Some.at (sym (c.first_node.ensures ∙ ap first_of (c.copied-by_doc.ensures ∙ c.get.ensures.value)) ∙ c.in-Some.is) _ refl in
    let done = unlink_done _ _ _ (get bytes_eq c.self.inside.tags) (get nat_eq c.self.inside.docs) c.self.invariant c.args.doc c.in-Some.at (sym (c.first_node.ensures ∙ ap first_of (c.copied-by_doc.ensures ∙ c.get.ensures.value)) ∙ c.in-Some.is) c.self.inside.nodes.len c.deref_mut.result.now c.release-left.new.nodes c.index.result.now.tag _ c.release-left.result (get bytes_eq c.set_ends.new.table) (get nat_eq c.set_ends-2.new.table)
    c.self.inside.nodes.ok.0 c.deref_mut.ensures.value (ap (λ (n : Node). n.tag) (sym (get_or_read_under _ _ _ _ blank c.index.ensures can0.at_in refl))) c.release-left.ensures refl (c.copied.ensures ∙ c.get-2.ensures.value) (c.copied-by_doc.ensures ∙ c.get.ensures.value) c.set_ends.ensures.sets c.set_ends-2.ensures.sets in
    let a = c.self.inside in
    unlink_room c.args.self.now.room (spare a.tags) (spare c.set_ends.new.table) (spare a.docs) (spare c.set_ends-2.new.table) (vec_capacity a.nodes) (length (pairs_from a.nodes.items All (first_of a.all))) _
    (sym (ap (λ (v : Listed). v.room) c.self.view_is)) c.set_ends.ensures.room c.set_ends-2.ensures.room done.less
