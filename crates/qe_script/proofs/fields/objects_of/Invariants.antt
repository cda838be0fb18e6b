-- What stands in the list, and what the values to come give, is all.
use Rattle.std.proofs.Common.{◌≡◌, drop, map}
use Rattle.qe_value.specs.Views.{plain}
use Rattle.qe_schema.specs.Judgements.{ahead, gather}
use Rattle.qe_script.specs.Fields.{object_of}
use Rattle.qe_script.proofs.fields.objects_of.Given as goal

abbrev pub invariant-loop-value : goal.invariant-loop-value
invariant-loop-value l = ahead l.objects (gather object_of (map plain (drop l.value-index l.values))) ≡ gather object_of (map plain l.values)
