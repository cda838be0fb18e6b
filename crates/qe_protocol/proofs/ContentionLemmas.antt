-- Contentions: only a raise changes one.
use Rattle.std.proofs.Common.{◌≡◌, ℕ, List, Option, None, Some, refl}
use Rattle.std.proofs.lemmas.Bool.{cond_both, leb-false}
use Rattle.std.specs.List.{list_any}
use Rattle.std.specs.Prelude.{nat_le}
use Rattle.qe_base.specs.declared.maintenance.Count.{Count}
use Rattle.qe_command.specs.declared.command.Command.{Command}
use Rattle.qe_command.specs.declared.command.Command.TheVariants as c
use Rattle.qe_protocol.specs.declared.reply.Reply.{Reply}
use Rattle.qe_protocol.specs.State.{State, Done}
use Rattle.qe_protocol.specs.Contention.{refusal, current_of, raise}
use Rattle.qe_protocol.specs.Documents.{has_document}
use Rattle.qe_protocol.specs.Filters.{matches}
use Rattle.qe_protocol.specs.Next.{served, unless_refused, next, sets_for}
use Rattle.qe_protocol.specs.Laws.{ContentionsAfter}
use Rattle.qe_protocol.proofs.KeptLemmas.{begin-keeps, step-keeps, end-keeps, abandon-keeps}

module _ (state : State) where
  abbrev Stays : Done → Type 0
  Stays done = done.state.current ≡ state.current

  raise-rises : (field asked : ℕ)
      → ContentionsAfter (c.Raise field asked) (raise state field asked).reply state.current (raise state field asked).state.current
  raise-rises field asked =
      cond_both (nat_le asked (current_of state.current field)) _ _
      (λ (done : Done). ContentionsAfter (c.Raise field asked) done.reply state.current done.state.current)
      (λ _. refl) (λ no. (refl, (leb-false asked (current_of state.current field) no, refl)))

  unless_refused-stays : (refused : Option Reply) (done : Done) → Stays done → Stays (unless_refused state refused done)
  unless_refused-stays None done is = is
  unless_refused-stays (Some reply) done is = refl

pub next-rises : (state : State) (command : Command) (nonces : List (List ℕ)) (counts : List Count)
    → ContentionsAfter command (next state command nonces counts).reply state.current (next state command nonces counts).state.current
next-rises state (c.Insert id cells) nonces counts =
    unless_refused-stays state (refusal state.current (c.Insert id cells)) (served state (c.Insert id cells) nonces counts)
    (cond_both (has_document id state.docs) _ _ (Stays state) (λ _. refl) (λ _. refl))
next-rises state (c.Find terms ids) nonces counts =
    unless_refused-stays state (refusal state.current (c.Find terms ids)) (served state (c.Find terms ids) nonces counts) refl
next-rises state (c.Update terms set) nonces counts =
    unless_refused-stays state (refusal state.current (c.Update terms set)) (served state (c.Update terms set) nonces counts)
    (cond_both (list_any (matches (sets_for state terms counts)) state.docs) _ _ (Stays state) (λ _. refl) (λ _. refl))
next-rises state (c.Delete terms) nonces counts =
    unless_refused-stays state (refusal state.current (c.Delete terms)) (served state (c.Delete terms) nonces counts)
    (cond_both (list_any (matches (sets_for state terms counts)) state.docs) _ _ (Stays state) (λ _. refl) (λ _. refl))
next-rises state (c.Begin kind tokens) nonces counts = (begin-keeps state kind tokens).current
next-rises state (c.Step job limit) nonces counts = (step-keeps state job nonces counts).current
next-rises state (c.End job) nonces counts = (end-keeps state job).current
next-rises state (c.Abandon job) nonces counts = (abandon-keeps state job).current
next-rises state (c.Raise field contention) nonces counts = raise-rises state field contention
