use Rattle.std.proofs.Common.{◌≡◌, ◌≤◌, ◌+◌, length, drop}
use Rattle.qe_field.specs.Lookup.{encrypted_from, encrypted_numbers}
use Rattle.qe_keyring.proofs.keyring.encrypted_count.Given as goal

abbrev pub invariant-loop-field : goal.invariant-loop-field
invariant-loop-field l = record {
  so_far : l.count + length (encrypted_from l.field-index (drop l.field-index l.fields)) ≡ length (encrypted_numbers l.fields);
  few : l.count ≤ l.field-index;
}
