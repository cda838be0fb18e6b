use Rattle.std.proofs.Common.{List, ℕ, sym, subst}
use Rattle.qe_tokens.specs.declared.words.Word.{Word}
use Rattle.qe_rising.specs.Rising.{AreCounted, WordStandsBehind}
use Rattle.qe_rising.proofs.RisingLemmas.{counted_push}
use Rattle.qe_rising.proofs.words.push_word.Goals as goal

pub returns : goal.returns
returns c =
    let behind = subst (λ (counted : List (Word × ℕ)). WordStandsBehind counted c.args.word) c.deref.ensures.value (c.stands_behind.ensures c.if-not-stands_behind.false) in
    subst (AreCounted c.args.fields) (sym c.in_ok-push.ensures.items)
    (counted_push c.args.fields c.args.counted.now.items c.args.word c.args.count c.requires (c.is_within.ensures c.if-not-is_within.false) behind)
