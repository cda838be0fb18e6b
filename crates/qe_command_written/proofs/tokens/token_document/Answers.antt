use Rattle.std.proofs.Common.{ap, ◌∙◌}
use Rattle.qe_document.specs.Names.{is_named}
use Rattle.qe_command_written.specs.Written.{token_element}
use Rattle.qe_command_written.proofs.PutLemmas.{left_new}
use Rattle.qe_command_written.proofs.tokens.token_document.Goals as goal

pub put_token-requires : goal.put_token-requires
put_token-requires c =
    ap (λ path. is_named path c.loop-token.document) c.path_at.ensures
    ∙ left_new (token_element c.args.fields.now) c.loop-token.document c.args.tokens.now c.loop-token.token-index _ c.loop-token.invariant c.requires c.loop-token-test.true
