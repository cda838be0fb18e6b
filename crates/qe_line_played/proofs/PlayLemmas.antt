-- A line that was sent, and what is read of the reply.
use Rattle.std.proofs.Common.{◌≡◌, ℕ, Ok, sym, ◌∙◌, subst, inl, inr}
use Rattle.qe_base.specs.Answers.{Refuses}
use Rattle.qe_plain.specs.declared.command.PlainCommand.{PlainCommand}
use Rattle.qe_plain.specs.declared.command.PlainReply.{PlainReply}
use Rattle.qe_protocol.specs.Journal.{done}
use Rattle.qe_opening.specs.declared.fault.ReadFault.{ReadFault}
use Rattle.qe_opening.specs.declared.fault.ReadFault.TheVariants as r
use Rattle.qe_opening.specs.Answer.{answer_of}
use Rattle.qe_opening.specs.Faults.{read_refusal}
use Rattle.qe_engine.specs.Engines.{Engined, state_now}
use Rattle.qe_client.specs.Clients.{Held}
use Rattle.qe_line_played.specs.declared.fault.PlayFault.{PlayFault}
use Rattle.qe_line_played.specs.declared.fault.PlayFault.TheVariants as f
use Rattle.qe_line_played.specs.Faults.{of_read}
use Rattle.qe_line_played.specs.Played.{IsAnswered, IsNotEntered, IsPlayFault, IsReplied}
use Rattle.qe_line_played.specs.declared.played.Replied.{Replied}

-- no entry was added, for want of memory
pub not_sent : (client after : Held) (engine engine_after : Engined) (who : ℕ) (plain : PlainCommand) (fault : PlayFault) → fault ≡ f.NoMemory
    → IsNotEntered client after engine engine_after who plain → IsPlayFault client after engine engine_after who plain fault
not_sent client after engine engine_after who plain fault is none =
    subst (IsPlayFault client after engine engine_after who plain) (sym is) (inl none)

module _ (client after : Held) (engine engine_after : Engined) (who : ℕ) (plain : PlainCommand) (replied : Replied)
    (is : IsReplied client after engine engine_after who plain replied) where
  -- the client that reads has the keys of the one that sent
  due : answer_of after.sender.under replied.reply ≡ answer_of client.sender.under (done (state_now engine) is.entry).reply
  due = λ i. answer_of (is.entered.sender i).under (is.reply i)

  pub answered : (reply : PlainReply) → answer_of after.sender.under replied.reply ≡ Ok reply
      → IsAnswered client after engine engine_after who plain (record { sent = replied.sent; reply = reply })
  answered reply read = record { entry = is.entry; entered = is.entered; sent = is.sent; reply = sym due ∙ read }

  pub not_answered : (cause : ReadFault) (fault : PlayFault) → fault ≡ of_read cause
      → Refuses (read_refusal cause) (answer_of after.sender.under replied.reply) → IsPlayFault client after engine engine_after who plain fault
  not_answered (r.At field kind) fault given read =
      subst (IsPlayFault client after engine engine_after who plain) (sym given)
      (record { entry = is.entry; entered = is.entered; reply = sym due ∙ read })
  not_answered r.NoMemory fault given read = subst (IsPlayFault client after engine engine_after who plain) (sym given) (inr (is.entry, is.entered))
