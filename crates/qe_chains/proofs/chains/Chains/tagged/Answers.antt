use Rattle.std.proofs.Common.{◌∙◌, ap, bytes_eq}
use Rattle.std.specs.HashMap.{get}
use Rattle.qe_chains.specs.declared.nodes.Side.TheVariants.{Tag}
use Rattle.qe_chains.specs.Linked.{those}
use Rattle.qe_chains.specs.Nodes.{tag_at, first_of, pairs_from}
use Rattle.qe_chains.specs.Pairs.{Listed, with_the_tag}
use Rattle.qe_chains.proofs.ReadLemmas.{tag_way, tag_pairs}
use Rattle.qe_chains.proofs.CallLemmas.{way_at}
use Rattle.qe_chains.proofs.chains.Chains.tagged.Goals as goal

pub from-requires : goal.from-requires
from-requires c =
    let a = c.self.inside in
    let s = c.self.invariant in
    way_at a.nodes.items c.deref.result.now Tag (first_of (get bytes_eq a.tags c.args.tag.now)) c.first_node.result (those bytes_eq (tag_at a.nodes.items) c.args.tag.now s.0)
    c.deref.ensures.value (c.first_node.ensures ∙ ap first_of (c.copied.ensures ∙ c.get.ensures.value))
    (tag_way a.nodes.items a.all a.free (get bytes_eq a.tags) _ s.0 s.1.0 s.1.1 c.args.tag.now)

pub returns : goal.returns
returns c =
    let a = c.self.inside in
    let s = c.self.invariant in
    c.from.ensures
    ∙ ap (λ items. pairs_from items Tag c.first_node.result) c.deref.ensures.value
    ∙ ap (pairs_from a.nodes.items Tag) (c.first_node.ensures ∙ ap first_of (c.copied.ensures ∙ c.get.ensures.value))
    ∙ tag_pairs a.nodes.items a.all a.free (get bytes_eq a.tags) _ s.0 s.1.0 s.1.1 c.args.tag.now
    ∙ ap (λ (v : Listed). with_the_tag c.args.tag.now v.pairs) c.self.view_is
