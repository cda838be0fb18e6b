-- The values to come make of the fields so far what all values make.
use Rattle.std.proofs.Common.{◌≡◌, [], drop, length, map}
use Rattle.qe_value.specs.Views.{plain}
use Rattle.qe_field.specs.Reading.{fields_from}
use Rattle.qe_field.proofs.reading.fields_of.Given as goal

abbrev pub invariant-loop-value : goal.invariant-loop-value
invariant-loop-value l = record {
  told : fields_from l.value-index l.fields (map plain (drop l.value-index l.values)) ≡ fields_from 0 [] (map plain l.values);
  count : length l.fields ≡ l.value-index;
}
