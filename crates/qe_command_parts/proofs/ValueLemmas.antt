-- A value is that of its tree.
use Rattle.std.proofs.Common.{◌≡◌, ap}
use Rattle.qe_value.specs.declared.value.Value.{Value}
use Rattle.qe_value.specs.declared.value.Value.TheVariants as v
use Rattle.qe_value.specs.Views.{plain}
use Rattle.qe_value.proofs.PlainLemmas as o
use Rattle.qe_command_parts.specs.Values.{open_value, value_of}

pub value_again : (value : Value) → value_of (plain value) ≡ value
unfolding value_of
value_again (v.Double b) = ap open_value (o.out-Double b)
value_again (v.Str t) = ap open_value (o.out-Str t)
value_again (v.Doc fs) = ap open_value (o.out-Doc fs)
value_again (v.Array vs) = ap open_value (o.out-Array vs)
value_again (v.Binary s b) = ap open_value (o.out-Binary s b)
value_again (v.ObjectId b) = ap open_value (o.out-ObjectId b)
value_again (v.Bool b) = ap open_value (o.out-Bool b)
value_again (v.Date z) = ap open_value (o.out-Date z)
value_again v.Null = ap open_value o.out-Null
value_again (v.Int32 z) = ap open_value (o.out-Int32 z)
value_again (v.Timestamp n) = ap open_value (o.out-Timestamp n)
value_again (v.Int64 z) = ap open_value (o.out-Int64 z)
value_again (v.Decimal b) = ap open_value (o.out-Decimal b)
