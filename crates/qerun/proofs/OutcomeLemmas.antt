-- Each outcome of a call was the only one that is due, or memory was wanting.
use Rattle.std.proofs.Common.{refl, inl, inr}
use Rattle.qe_base.specs.declared.status.Status.{Status}
use Rattle.qe_base.specs.declared.status.Status.TheVariants.{ReadFault, WriteFault, NoMemory}
use Rattle.qe_due.specs.Laws.{DueHasOneStatus}
use Rattle.qerun.specs.Top.{Call, IsOutcome, Completes}

pub outcome_completes : DueHasOneStatus → (call : Call) (status : Status) → IsOutcome call status → Completes call status
outcome_completes law call ReadFault is = λ input left reads writes. absurd (reads is.cut_off.rose)
outcome_completes law call WriteFault is = λ input left reads writes. absurd (writes is.rose)
outcome_completes law call NoMemory is = λ input left reads writes. inr refl
outcome_completes law call status is = λ input left reads writes. inl (law call.words call.left call.left_after status is.text input left is.due)
