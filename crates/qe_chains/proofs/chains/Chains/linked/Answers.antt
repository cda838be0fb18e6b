use Rattle.std.proofs.Common.{◌∙◌, ap, nat_eq}
use Rattle.std.specs.HashMap.{get}
use Rattle.qe_chains.specs.declared.nodes.Side.TheVariants.{Doc}
use Rattle.qe_chains.specs.Linked.{those}
use Rattle.qe_chains.specs.Nodes.{doc_at, first_of, pairs_from}
use Rattle.qe_chains.specs.Pairs.{Listed, of_document}
use Rattle.qe_chains.proofs.ReadLemmas.{doc_way, doc_pairs}
use Rattle.qe_chains.proofs.CallLemmas.{way_at}
use Rattle.qe_chains.proofs.chains.Chains.linked.Goals as goal

pub from-requires : goal.from-requires
from-requires c =
    let a = c.self.inside in
    let s = c.self.invariant in
    way_at a.nodes.items c.deref.result.now Doc (first_of (get nat_eq a.docs c.args.doc)) c.first_node.result (those nat_eq (doc_at a.nodes.items) c.args.doc s.0)
    c.deref.ensures.value (c.first_node.ensures ∙ ap first_of (c.copied.ensures ∙ c.get.ensures.value))
    (doc_way a.nodes.items a.all a.free _ (get nat_eq a.docs) s.0 s.1.0 s.1.1 c.args.doc)

pub returns : goal.returns
returns c =
    let a = c.self.inside in
    let s = c.self.invariant in
    c.from.ensures
    ∙ ap (λ items. pairs_from items Doc c.first_node.result) c.deref.ensures.value
    ∙ ap (pairs_from a.nodes.items Doc) (c.first_node.ensures ∙ ap first_of (c.copied.ensures ∙ c.get.ensures.value))
    ∙ doc_pairs a.nodes.items a.all a.free _ (get nat_eq a.docs) s.0 s.1.0 s.1.1 c.args.doc
    ∙ ap (λ (v : Listed). of_document c.args.doc v.pairs) c.self.view_is
