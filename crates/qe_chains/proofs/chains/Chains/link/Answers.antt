use Rattle.std.proofs.Common.{◌≢◌, ◌<◌, sym, ◌∙◌, ap, subst, refl, length, ◌++◌, ◌∷◌, [], IfSome, bytes_eq, nat_eq, arith, vec_capacity}
use Rattle.std.specs.HashMap.{get, spare}
use Rattle.qe_chains.specs.declared.nodes.Side.TheVariants.{All}
use Rattle.qe_chains.specs.declared.nodes.Ends.{Ends}
use Rattle.qe_chains.specs.Nodes.{first_of, pairs_from}
use Rattle.qe_chains.specs.Pairs.{Listed}
use Rattle.qe_chains.proofs.CallLemmas.{free_inside, all_used, all_ready, tag_ready, doc_ready, link_done, link_room, room_for_node}
use Rattle.std.proofs.Common.{length-append}
use Rattle.qe_chains.proofs.chains.Chains.link.Goals as goal

pub take_node-at-requires-clause-free : goal.take_node-at-requires-clause-free
take_node-at-requires-clause-free c = free_inside _ _ _ _ _ c.self.invariant _ c.self.inside.nodes.ok.0

pub take_node-at-requires-clause-room : goal.take_node-at-requires-clause-room
take_node-at-requires-clause-room c e =
    let a = c.self.inside in
    let room = room_for_node c.args.self.now.room (spare a.tags) (spare a.docs) (vec_capacity a.nodes) (length (pairs_from a.nodes.items All (first_of a.all))) (sym (ap (λ (v : Listed). v.room) c.self.view_is)) c.requires in
    omega (arith, room.2, all_used _ _ _ _ _ c.self.invariant e, a.nodes.ok.0)

pub hook_all-ends-requires-clause-all : goal.hook_all-ends-requires-clause-all
hook_all-ends-requires-clause-all c =
    subst (λ m. IfSome c.self.inside.all (λ (e : Ends). (e.last < length m) × (e.last ≢ c.take_node-at.result))) (sym c.deref_mut.ensures.value)
    (all_ready _ _ _ _ _ c.self.invariant _ _ _ _ _ c.take_node-at.ensures.node)

pub hook_all-ends-requires-clause-by_tag : goal.hook_all-ends-requires-clause-by_tag
hook_all-ends-requires-clause-by_tag c =
    subst (λ m. IfSome c.copied.result (λ (e : Ends). (e.last < length m) × (e.last ≢ c.take_node-at.result))) (sym c.deref_mut.ensures.value)
    (tag_ready _ _ _ (get bytes_eq c.self.inside.tags) _ c.self.invariant c.args.tag _ _ _ _ c.take_node-at.ensures.node c.copied.result (c.copied.ensures ∙ c.get.ensures.value))

pub hook_all-ends-requires-clause-by_doc : goal.hook_all-ends-requires-clause-by_doc
hook_all-ends-requires-clause-by_doc c =
    subst (λ m. IfSome c.copied-2.result (λ (e : Ends). (e.last < length m) × (e.last ≢ c.take_node-at.result))) (sym c.deref_mut.ensures.value)
    (doc_ready _ _ _ _ (get nat_eq c.self.inside.docs) c.self.invariant _ c.args.doc _ _ _ c.take_node-at.ensures.node c.copied-2.result (c.copied-2.ensures ∙ c.get-2.ensures.value))

pub invariant_of-self : goal.invariant_of-self
invariant_of-self c =
    let done = link_done _ _ _ _ _ c.self.invariant c.args.tag c.args.doc c.take_node-at.result _ _ c.take_node-at.ensures.node c.take_node-at.new.nodes.len c.deref_mut.result.now c.hook_all-ends.new.nodes _ c.hook_all-ends.result (get bytes_eq c.put_ends.new.table) (get nat_eq c.put_ends-2.new.table)
    c.take_node-at.new.nodes.ok.0 c.deref_mut.ensures.value c.hook_all-ends.ensures refl (c.copied.ensures ∙ c.get.ensures.value) (c.copied-2.ensures ∙ c.get-2.ensures.value) c.put_ends.ensures.sets c.put_ends-2.ensures.sets in
    done.stands'

pub returns-clause-pairs : goal.returns-clause-pairs
returns-clause-pairs c =
    let done = link_done _ _ _ _ _ c.self.invariant c.args.tag c.args.doc c.take_node-at.result _ _ c.take_node-at.ensures.node c.take_node-at.new.nodes.len c.deref_mut.result.now c.hook_all-ends.new.nodes _ c.hook_all-ends.result (get bytes_eq c.put_ends.new.table) (get nat_eq c.put_ends-2.new.table)
    c.take_node-at.new.nodes.ok.0 c.deref_mut.ensures.value c.hook_all-ends.ensures refl (c.copied.ensures ∙ c.get.ensures.value) (c.copied-2.ensures ∙ c.get-2.ensures.value) c.put_ends.ensures.sets c.put_ends-2.ensures.sets in
    done.pairs ∙ ap (λ (v : Listed). v.pairs ++ (c.args.tag, c.args.doc) ∷ []) c.self.view_is

pub returns-clause-nodes : goal.returns-clause-nodes
returns-clause-nodes c =
    let done = link_done _ _ _ _ _ c.self.invariant c.args.tag c.args.doc c.take_node-at.result _ _ c.take_node-at.ensures.node c.take_node-at.new.nodes.len c.deref_mut.result.now c.hook_all-ends.new.nodes _ c.hook_all-ends.result (get bytes_eq c.put_ends.new.table) (get nat_eq c.put_ends-2.new.table)
    c.take_node-at.new.nodes.ok.0 c.deref_mut.ensures.value c.hook_all-ends.ensures refl (c.copied.ensures ∙ c.get.ensures.value) (c.copied-2.ensures ∙ c.get-2.ensures.value) c.put_ends.ensures.sets c.put_ends-2.ensures.sets in
    let was = ap (λ (v : Listed). v.nodes) c.self.view_is in
    cc (done.count, was)

pub returns-clause-room : goal.returns-clause-room
returns-clause-room c =
    let done = link_done _ _ _ _ _ c.self.invariant c.args.tag c.args.doc c.take_node-at.result _ _ c.take_node-at.ensures.node c.take_node-at.new.nodes.len c.deref_mut.result.now c.hook_all-ends.new.nodes _ c.hook_all-ends.result (get bytes_eq c.put_ends.new.table) (get nat_eq c.put_ends-2.new.table)
    c.take_node-at.new.nodes.ok.0 c.deref_mut.ensures.value c.hook_all-ends.ensures refl (c.copied.ensures ∙ c.get.ensures.value) (c.copied-2.ensures ∙ c.get-2.ensures.value) c.put_ends.ensures.sets c.put_ends-2.ensures.sets in
    let a = c.self.inside in
    let pairs = pairs_from a.nodes.items All (first_of a.all) in
    link_room c.args.self.now.room (spare a.tags) (spare c.put_ends.new.table) (spare a.docs) (spare c.put_ends-2.new.table) (vec_capacity a.nodes) (vec_capacity c.take_node-at.new.nodes) (length pairs) _
    (sym (ap (λ (v : Listed). v.room) c.self.view_is)) c.put_ends.ensures.room c.put_ends-2.ensures.room c.take_node-at.ensures.capacity (ap length done.pairs ∙ length-append pairs ((c.args.tag, c.args.doc) ∷ []))
