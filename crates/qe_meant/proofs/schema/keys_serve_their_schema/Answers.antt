use Rattle.std.proofs.Common.{All, subst}
use Rattle.qe_field.specs.declared.field.Field.{Field}
use Rattle.qe_encodes.specs.Fields.{IsKeyed}
use Rattle.qe_meant.proofs.schema.keys_serve_their_schema.Goals as goal

pub returns : goal.returns
returns c = record {
  schema = c.fields.ensures.schema;
  fields = subst (All (λ (field : Field). IsKeyed field.kind)) c.fields.ensures.all c.are_keyed.ensures;
  many = c.requires;
  keys = c.are_keys.ensures;
}
