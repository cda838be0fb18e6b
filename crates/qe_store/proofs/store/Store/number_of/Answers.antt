use Rattle.std.proofs.Common.{rules, ◌∙◌, ap, sym, subst}
use Rattle.qe_chains.specs.Pairs.{with_the_tag}
use Rattle.qe_store.specs.IdHash.{key_of}
use Rattle.qe_store.specs.Kept.{Kept, HasId}
use Rattle.qe_store.specs.Parts.{Rising, AreDistinct, ids_of}
use Rattle.qe_store.proofs.IdLemmas.{new_of_each, among, key_gives, is_new, none_among, the_number}
use Rattle.qe_store.proofs.store.Store.number_of.Goals as goal

pub loop-link-init : goal.loop-link-init
loop-link-init c = λ n h.
    let a = c.self.inside in
    let id = c.args.id.now in
    let docs = ap (λ (v : Kept). v.documents) c.self.view_is in
    ap (among n) (c.tagged-links.ensures ∙ ap (λ key. with_the_tag key a.ids.pairs) c.key_of-key.ensures ∙ ap (with_the_tag (key_of id)) c.self.invariant.ids)
    ∙ key_gives a.documents.items id n (subst (λ m. HasId m id n) (sym docs) h)

pub returns-then-has_id : goal.returns-then-has_id
returns-then-has_id c =
    let docs = c.args.self.now.documents in
    let apart = subst (λ (v : Kept). AreDistinct (ids_of v.documents)) c.self.view_is c.self.invariant.distinct in
    record { exact = the_number docs c.args.id.now _ apart (c.has_id.ensures.0 (search rules)) }

pub returns : goal.returns
returns c =
    let docs = c.args.self.now.documents in
    let rising = subst Rising (ap (λ (v : Kept). v.documents) c.self.view_is) c.self.invariant.rising in
    record { exact = new_of_each docs c.args.id.now (is_new docs c.args.id.now rising (none_among docs c.args.id.now c.loop-link.links (c.in_default.ensures.next ∙ c.in_default.ensures.end) c.loop-link.invariant)) }
