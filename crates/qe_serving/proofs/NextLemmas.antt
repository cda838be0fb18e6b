-- A command that is refused before all else, and one that is served.
use Rattle.std.proofs.Common.{◌≡◌, ℕ, List, [], None, Some, refl, sym, ◌∙◌, ap, subst}
use Rattle.qe_base.specs.declared.maintenance.Count.{Count}
use Rattle.qe_command.specs.declared.command.Command.{Command}
use Rattle.qe_protocol.specs.declared.reply.Reply.{Reply}
use Rattle.qe_protocol.specs.State.{State}
use Rattle.qe_protocol.specs.Contention.{refusal}
use Rattle.qe_protocol.specs.Next.{served, unless_refused, AllowedServed, AllowedUnless}
use Rattle.qe_serving.specs.declared.made.Made.{Made}
use Rattle.qe_serving.specs.Serving.{IsServed, IsNext}

-- a command that is refused before all else, and one that isn't
pub next_refused : (state : State) (command : Command) (nonces : List (List ℕ)) (reply : Reply) → refusal state.current command ≡ Some reply
    → IsNext state state command nonces (record { reply = reply; counts = []; opened = [] })
next_refused state command nonces reply refused = record {
  allowed = subst (λ reason. AllowedUnless reason [] (AllowedServed state command nonces [])) (sym refused) refl;
  does = ap (λ reason. unless_refused state reason (served state command nonces [])) refused;
}

pub next_served : (old new : State) (command : Command) (nonces : List (List ℕ)) (made : Made) → refusal old.current command ≡ None
    → IsServed old new command nonces made → IsNext old new command nonces made
next_served old new command nonces made not_refused serves = record {
  allowed = subst (λ reason. AllowedUnless reason made.counts (AllowedServed old command nonces made.counts)) (sym not_refused) serves.allowed;
  does = ap (λ reason. unless_refused old reason (served old command nonces made.counts)) not_refused ∙ serves.does;
}
