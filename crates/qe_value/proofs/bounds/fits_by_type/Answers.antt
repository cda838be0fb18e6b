use Rattle.std.proofs.Common.{rules, arith}
use Rattle.std.proofs.lemmas.Int.{ints}
use Rattle.qe_value.proofs.PlainLemmas as tree
use Rattle.qe_value.proofs.bounds.fits_by_type.Goals as goal

pub returns-in-Double : goal.returns-in-Double
returns-in-Double c = rw (c.in-Double.is, tree.out-Double c.in-Double.bytes) c.has_length.ensures

pub returns-in-Str : goal.returns-in-Str
returns-in-Str c = rw (c.in-Str.is, tree.out-Str c.in-Str.text) c.as_str-text.ensures.utf8

pub returns-in-ObjectId : goal.returns-in-ObjectId
returns-in-ObjectId c = rw (c.in-ObjectId.is, tree.out-ObjectId c.in-ObjectId.bytes) c.has_length-in-ObjectId.ensures

pub returns-in-Date : goal.returns-in-Date
returns-in-Date c = rw (c.in-Date.is, tree.out-Date c.in-Date.n) (search (rules, ints))

pub returns-in-Int32 : goal.returns-in-Int32
returns-in-Int32 c = rw (c.in-Int32.is, tree.out-Int32 c.in-Int32.n) (search (rules, ints))

pub returns-in-Timestamp : goal.returns-in-Timestamp
returns-in-Timestamp c = rw (c.in-Timestamp.is, tree.out-Timestamp c.in-Timestamp.n) (omega arith)

pub returns-in-Int64 : goal.returns-in-Int64
returns-in-Int64 c = rw (c.in-Int64.is, tree.out-Int64 c.in-Int64.n) (search (rules, ints))

pub returns-in-Decimal : goal.returns-in-Decimal
returns-in-Decimal c = rw (c.in-Decimal.is, tree.out-Decimal c.in-Decimal.bytes) c.has_length-in-Decimal.ensures

pub returns-in-Doc : goal.returns-in-Doc
returns-in-Doc c = rw (c.in-Doc.is, tree.out-Doc) tt

pub returns-in-Array : goal.returns-in-Array
returns-in-Array c = rw (c.in-Array.is, tree.out-Array) tt

pub returns-in-Binary : goal.returns-in-Binary
returns-in-Binary c = rw (c.in-Binary.is, tree.out-Binary) tt

pub returns-in-Bool : goal.returns-in-Bool
returns-in-Bool c = rw (c.in-Bool.is, tree.out-Bool) tt

pub returns-in-Null : goal.returns-in-Null
returns-in-Null c = rw (c.in-Null.is, tree.out-Null) tt
