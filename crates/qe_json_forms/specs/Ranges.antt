-- Numbers and bytes of values in the ranges of their types.
use Rattle.std.specs.Prelude.{◌==◌, ◌&&◌, nat_lt, Bool, true, map, length}
use Rattle.qe_base.specs.Bytes.{are_bytes}
use Rattle.qe_value.specs.declared.value.Plain.TheOpen.{Plain-F}
use Rattle.qe_value.specs.Measures.{all_true}
use Rattle.qe_json_forms.specs.Forms.{fits}

-- numbers and bytes are in the ranges of their types, as they are in every value of the code
abbrev pub typed_step : Plain-F Bool → Bool
typed_step (Plain-F.Doc fs) = all_true (map (λ f. f.1) fs)
typed_step (Plain-F.Array bs) = all_true bs
typed_step (Plain-F.Binary subtype bytes) = nat_lt subtype 256 && are_bytes bytes
typed_step (Plain-F.ObjectId id) = length id == 12 && are_bytes id
typed_step (Plain-F.Date z) = fits 63 z
typed_step (Plain-F.Int32 z) = fits 31 z
typed_step (Plain-F.Int64 z) = fits 63 z
typed_step _ = true
