use Rattle.std.proofs.Common.{◌++◌, ap, subst, sym, ◌∙◌}
use Rattle.std.specs.List.{Contains}
use Rattle.qe_store.specs.Kept.{Kept, document_at}
use Rattle.qe_store.specs.Parts.{tags_in}
use Rattle.qe_store.proofs.MatchLemmas.{tagged_more, tagged_none}
use Rattle.qe_store.proofs.store.Store.tagged.Goals as goal

pub loop-tag-init : goal.loop-tag-init
loop-tag-init c = λ n has. absurd (tagged_none c.args.self.now.documents n has)

pub loop-tag-preserved : goal.loop-tag-preserved
loop-tag-preserved c = λ n has.
    let piece = c.slice.ensures ∙ c.in_ok-linked.ensures in
    let items = c.in_ok-extend_from_slice.ensures.items ∙ ap (λ rest. c.loop-tag.numbers.items ++ rest) piece in
    subst (λ xs. Contains xs n) (sym items)
    (tagged_more c.args.self.now.documents c.self.inside.tags.pairs c.args.tags.now c.loop-tag.tag-index _ c.loop-tag.numbers.items c.loop-tag-test.true
    (λ m. c.self.invariant.tags m ∙ ap (λ (v : Kept). tags_in (document_at m v.documents)) c.self.view_is) c.loop-tag.invariant n has)
