-- The keys so far, and those of the fields to come, are all; and there is a key for each encrypted field to come.
use Rattle.std.proofs.Common.{◌≡◌, ◌++◌, ◌+◌, ◌≤◌, drop, length}
use Rattle.qe_field.specs.Lookup.{encrypted_from}
use Rattle.qe_opening.specs.Keys.{keys_from}
use Rattle.qe_opening.proofs.keys.opening_keys.Given as goal

abbrev pub invariant-loop-field : goal.invariant-loop-field
invariant-loop-field l = record {
  all : l.made ++ keys_from l.keys l.place (drop l.field-index l.field-items) ≡ keys_from l.keys 0 l.schema;
  left : l.place + length (encrypted_from l.field-index (drop l.field-index l.field-items)) ≡ length l.keys;
  few : l.place ≤ l.field-index;
}
