use Rattle.std.proofs.Common.{All, subst, take_all}
use Rattle.std.proofs.lemmas.List.Elements.{All-more}
use Rattle.qe_tokens.specs.declared.words.FieldToken.{FieldToken}
use Rattle.qe_held.specs.Held.{AreHeldTokens, IsToken}
use Rattle.qe_held.proofs.held.tokens_held.Goals as goal

pub loop-token-preserved : goal.loop-token-preserved
loop-token-preserved c =
    All-more (λ (token : FieldToken). IsToken token.token.0) c.args.tokens.now c.loop-token.token-index _ c.loop-token-test.true c.loop-token.invariant
    c.token_held.ensures

pub returns : goal.returns
returns c = subst AreHeldTokens (take_all c.loop-token.token-index c.args.tokens.now c.loop-token-test.false) c.loop-token.invariant
