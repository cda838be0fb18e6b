use Rattle.std.proofs.Common.{◌≡◌, ◌<◌, [], length, get_or, refl, sym, ap, ◌∙◌, arith}
use Rattle.std.proofs.lemmas.Option.{get_or_from_slice_get}
use Rattle.qe_tokens.specs.Tokens.{root_key_of}
use Rattle.qe_census.proofs.RootLemmas.{walks_encrypted, walks_plain}
use Rattle.qe_census.proofs.roots.roots_of.Goals as goal
use Rattle.qe_census.proofs.roots.roots_of.Goals.{then-is_encrypted+in_ok-push, else-is_encrypted+in_ok-push-2}

pub loop-field-preserved : goal.loop-field-preserved
loop-field-preserved c =
    let within : c.loop-field.field-index < length c.fields-fields.result.now = omega arith in
    elim c.if-is_encrypted.branch [
      | then-is_encrypted+in_ok-push w ↦
          let key : w.key.result.now ≡ get_or c.args.keys.now c.loop-field.place [] =
          sym (get_or_from_slice_get c.args.keys.now c.loop-field.place w.key.result.now [] (sym w.key.ensures)) in
          let root = w.root_key.ensures ∙ ap root_key_of key in
          rw (w.roots-is, w.place-is, w.in_ok-push.ensures.items)
          (walks_encrypted c.args.keys.now c.fields-fields.result.now c.loop-field.roots.items c.loop-field.place c.loop-field.field-index c.field-item.result within
          c.field-item.is c.loop-field.invariant (sym c.is_encrypted.ensures ∙ w.if-is_encrypted.true) w.root_key.result (λ i. record { 0 = root i }))
      | else-is_encrypted+in_ok-push-2 w ↦
          rw (w.roots-is, w.place-is, w.in_ok-push-2.ensures.items)
          (walks_plain c.args.keys.now c.fields-fields.result.now c.loop-field.roots.items c.loop-field.place c.loop-field.field-index c.field-item.result within
          c.field-item.is c.loop-field.invariant (sym c.is_encrypted.ensures ∙ w.if-is_encrypted.false) _ refl)
    ]
