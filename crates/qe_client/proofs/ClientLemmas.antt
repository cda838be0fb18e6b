-- How a client is held: contentions at first, and nonces.
use Rattle.std.proofs.Common.{◌≡◌, ◌≤◌, ◌<◌, ◌+◌, ℕ, zero, suc, List, [], ◌∷◌, length, map, true, Option, None, Some, refl, sym, ap, subst, ◌∙◌, inl, inr, arith}
use Rattle.std.proofs.lemmas.List.{get_or-map, get_or_past, length-map}
use Rattle.std.proofs.lemmas.Option.{slice_get_cases}
use Rattle.qe_field.specs.declared.field.Field.{Field}
use Rattle.qe_field.specs.declared.field.FieldKind.{FieldKind}
use Rattle.qe_field.specs.declared.field.FieldKind.TheVariants as k
use Rattle.qe_field.specs.Lookup.{encrypted_numbers, greatest_of}
use Rattle.qe_field.specs.Schema.{IsKind, IsSchema}
use Rattle.qe_protocol.specs.Journal.{first_contention}
use Rattle.qe_encodes.specs.Callers.{Contentions, contention_of}
use Rattle.qe_encodes.specs.Draws.{Stream, ivs_from}
use Rattle.qe_encodes.specs.Fields.{kind_at, kind_or_plain}
use Rattle.qe_encodes.specs.Sending.{Sender, nonces_at, stream_of}
use Rattle.qe_labels.specs.Under.{Under}
use Rattle.qe_plain.specs.declared.command.PlainCommand.{PlainCommand}
use Rattle.qe_fits.specs.Fits.{fits}
use Rattle.qe_schema.specs.Resolved.{IsResolved}
use Rattle.qe_sending.specs.Sendable.{AreWithin, CanSend}
use Rattle.qe_sending.proofs.SendableLemmas.{can_send}
use Rattle.qe_opening.specs.declared.keys.FieldKey.{FieldKey}
use Rattle.qe_opening.specs.Keys.{opening_keys}
use Rattle.qe_client.specs.Inside.{IsWhole}

-- as many nonces as were asked for
ivs_many : (stream : Stream) (count place : ℕ) → length (ivs_from stream count place) ≡ count
ivs_many stream zero place = refl
ivs_many stream (suc count) place = ap suc (ivs_many stream count (place + 4))

pub nonces_many : (sender : Sender) (number place count : ℕ) → length (nonces_at sender number place count) ≡ count
unfolding nonces_at
nonces_many sender number place count = ivs_many (stream_of sender number) count place

-- a field's contention is at most its greatest
first_below : (kind : FieldKind) → IsKind kind → first_contention kind ≤ greatest_of kind
first_below k.Plain is = omega arith
first_below (k.Equality _ _ contention greatest) is = is.1.ordered
first_below (k.Range _ _ contention greatest domain) is = is.2.ordered

abbrev first_of : Field → ℕ
first_of field = first_contention field.kind

pub first_within : (fields : List Field) → IsSchema fields → AreWithin fields (map (λ field. first_contention field.kind) fields)
first_within fields schema number = elim ((slice_get_cases fields number).1) [
  | inl found ↦
      let field = found.0 in
      let here : contention_of (map first_of fields) number ≡ first_of field = get_or-map first_of fields number field 0 found.1 ∙ ap first_of found.3 in
      let kind : kind_at fields number ≡ field.kind = ap kind_or_plain found.2 in
      let is : IsKind field.kind = subst (λ (f : Field). IsKind f.kind) found.3 (schema.each number field found.1).kind in
      subst (λ n. n ≤ greatest_of (kind_at fields number)) (sym here)
      (subst (λ (it : FieldKind). first_contention field.kind ≤ greatest_of it) (sym kind) (first_below field.kind is))
  | inr beyond ↦
      let none : contention_of (map first_of fields) number ≡ 0 =
      get_or_past (map first_of fields) number 0 (subst (λ n. n ≤ number) (sym (length-map fields first_of)) beyond.0) in
      omega arith
]

-- what was resolved and fits can be sent, under the sender's keyring
pub can_send_under : (u kept : Under) (fields : List Field) (plain : PlainCommand) → kept ≡ u → fields ≡ kept.schema → IsSchema fields
    → IsResolved u.schema plain → fits u.schema plain ≡ true → CanSend kept.schema plain
can_send_under u kept fields plain same of schema resolved fit =
    let schema_of : fields ≡ u.schema = of ∙ ap (λ (v : Under). v.schema) same in
    subst (λ (v : Under). CanSend v.schema plain) (sym same) (can_send u.schema plain (subst IsSchema schema_of schema) resolved fit)

-- a new client is whole
pub whole_at_first : (u : Under) (fields seen : List Field) (keys : List (List ℕ)) (openers : List (Option FieldKey)) (contentions : Contentions)
    → u ≡ record { schema = fields; keys = keys } → seen ≡ fields → length keys ≡ length (encrypted_numbers fields) → IsSchema fields
    → openers ≡ opening_keys (record { schema = fields; keys = keys }) → contentions ≡ map (λ field. first_contention field.kind) seen
    → IsWhole u keys openers contentions
whole_at_first u fields seen keys openers contentions is same many schema opens first =
    let begun : contentions ≡ map first_of fields = first ∙ ap (map first_of) same in
    let within : AreWithin fields contentions = subst (AreWithin fields) (sym begun) (first_within fields schema) in
    let whole : IsWhole (record { schema = fields; keys = keys }) keys openers contentions =
    record { keys_are = refl; many = many; openers_are = opens; within = within } in
    subst (λ (v : Under). IsWhole v keys openers contentions) (sym is) whole
