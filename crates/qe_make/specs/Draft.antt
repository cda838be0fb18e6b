-- A script that is being written.
use Rattle.std.specs.Prelude.{◌≡◌, ◌++◌}
use Rattle.qe_make.specs.Made.{text_of}
use Rattle.qe_make.specs.Rules.{Rule}
use Rattle.qe_make.specs.declared.rules.Draft.{Draft}

-- the rule's commands are written, and the generator stands where the rule leaves it
pub record Adds (rule : Rule) (old new : Draft) : Type 0 where
  pub text : new.text ≡ old.text ++ text_of (rule old.state).commands
  pub state : new.state ≡ (rule old.state).state
