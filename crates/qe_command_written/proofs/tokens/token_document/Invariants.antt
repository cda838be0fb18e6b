use Rattle.std.proofs.Common.{◌≡◌, ◌++◌, map, drop}
use Rattle.qe_command_written.specs.Written.{token_element}
use Rattle.qe_command_written.proofs.tokens.token_document.Given as goal

abbrev pub invariant-loop-token : goal.invariant-loop-token
invariant-loop-token l = l.document ++ map (token_element l.fields) (drop l.token-index l.tokens) ≡ map (token_element l.fields) l.tokens
