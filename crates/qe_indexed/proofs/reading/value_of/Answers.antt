use Rattle.std.proofs.Common.{take, drop, ap, ◌∙◌, refl}
use Rattle.qe_indexed.proofs.SpellingLemmas.{IsLaidOut-cut}
use Rattle.qe_indexed.proofs.reading.value_of.Goals as goal

pub returns : goal.returns
returns c =
    let bytes = c.args.bytes.now in
    IsLaidOut-cut c.args.shape.range c.args.shape.count bytes c.split_at.result.0.now c.split_at.result.1.now c.in_ok-server_value.server_value
    c.split_at-2.result.1.now c.array_at.result _ _ c.requires
    (c.split_at.ensures.front ∙ ap (λ n. take n bytes) c.head_length.ensures)
    (c.split_at.ensures.back ∙ ap (λ n. drop n bytes) c.head_length.ensures)
    (c.in_ok-server_value.ensures ∙ c.split_at-2.ensures.front) c.split_at-2.ensures.back c.in_ok-blocks.ensures c.array_at.ensures refl

pub invariant_of-result : goal.invariant_of-result
invariant_of-result c = (returns c).within
