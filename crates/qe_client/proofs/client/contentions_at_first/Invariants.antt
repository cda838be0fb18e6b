use Rattle.std.proofs.Common.{◌≡◌, map, take}
use Rattle.qe_protocol.specs.Journal.{first_contention}
use Rattle.qe_client.proofs.client.contentions_at_first.Given as goal

abbrev pub invariant-loop-field : goal.invariant-loop-field
invariant-loop-field l = l.all.items ≡ map (λ field. first_contention field.kind) (take l.field-index l.fields)
