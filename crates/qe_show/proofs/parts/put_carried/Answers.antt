use Rattle.std.proofs.Common.{◌≡◌, ◌+◌, ◌++◌, drop, sym, ap, ◌∙◌, append_assoc}
use Rattle.qe_document.specs.Views.{plain}
use Rattle.qe_show.specs.Parts.{named, carried_text, carried_parts}
use Rattle.qe_show.proofs.CarriedLemmas.{element_next}
use Rattle.qe_show.proofs.parts.put_carried.Goals as goal

pub loop-i-preserved : goal.loop-i-preserved
loop-i-preserved c =
    let extra = c.args.extra.now in
    let name = c.name.result.now in
    let value = plain c.value.result.now in
    let later = carried_parts (drop (c.loop-i.i + 1) extra) in
    let shown : c.as_str.result.now ≡ carried_text value = c.as_str.ensures.value ∙ c.in_ok-text.ensures in
    ap (λ line. line ++ later) (c.in_ok-put.ensures ∙ ap (λ text. c.loop-i.line ++ named name text) shown)
    ∙ append_assoc c.loop-i.line (named name (carried_text value)) later
    ∙ ap (λ rest. c.loop-i.line ++ carried_parts rest) (sym (element_next extra c.loop-i.i name value c.name.ensures.name c.value.ensures))
    ∙ c.loop-i.invariant
