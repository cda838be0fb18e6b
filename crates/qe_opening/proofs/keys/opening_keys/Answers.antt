use Rattle.std.proofs.Common.{◌≡◌, ℕ, ◌∷◌, [], ◌++◌, ◌+◌, drop, length, sym, ap, ◌∙◌, arith, append_assoc}
use Rattle.std.specs.Prelude.{slice_index_or}
use Rattle.std.proofs.lemmas.List.{drop_more}
use Rattle.qe_field.specs.Lookup.{encrypted_from}
use Rattle.qe_opening.specs.Keys.{key_in, keys_from, place_after}
use Rattle.qe_opening.proofs.PlaceLemmas.{place_next, place_of, place_within}
use Rattle.qe_opening.proofs.keys.opening_keys.Goals as goal

pub key_in-requires : goal.key_in-requires
key_in-requires c =
    let fields = c.fields-field-items.result.now in
    let i = c.loop-field.field-index in
    let one = c.field-item.result in
    let rest = drop (i + 1) fields in
    let first : drop i fields ≡ one ∷ rest = drop_more fields i one c.loop-field-test.true ∙ ap (λ it. it ∷ rest) (sym c.field-item.is) in
    let left : c.loop-field.place + length (encrypted_from i (one ∷ rest)) ≡ length c.args.keys.now =
    ap (λ fs. c.loop-field.place + length (encrypted_from i fs)) (sym first) ∙ c.loop-field.invariant.left in
    place_within i c.loop-field.place (length c.args.keys.now) one rest left

pub loop-field-preserved : goal.loop-field-preserved
loop-field-preserved c =
    let fields = c.fields-field-items.result.now in
    let keys = c.args.keys.now in
    let i = c.loop-field.field-index in
    let place = c.loop-field.place in
    let made = c.loop-field.made in
    let one = c.field-item.result in
    let rest = drop (i + 1) fields in
    let first : drop i fields ≡ one ∷ rest = drop_more fields i one c.loop-field-test.true ∙ ap (λ it. it ∷ rest) (sym c.field-item.is) in
    let after : c.place_after-place.result ≡ place_after place one.kind = c.place_after-place.ensures in
    record {
      all =
          ap (λ m. m ++ keys_from keys c.place_after-place.result rest) c.in_ok-push.ensures.ok
          ∙ append_assoc made (c.key_in.result ∷ []) (keys_from keys c.place_after-place.result rest)
          ∙ ap (λ k. made ++ k ∷ keys_from keys c.place_after-place.result rest) c.key_in.ensures
          ∙ ap (λ (n : ℕ). made ++ key_in (slice_index_or keys place []) one.kind ∷ keys_from keys n rest) after
          ∙ ap (λ fs. made ++ keys_from keys place fs) (sym first) ∙ c.loop-field.invariant.all;
      left =
          ap (λ (n : ℕ). n + length (encrypted_from (i + 1) rest)) after ∙ place_of i place one rest
          ∙ ap (λ fs. place + length (encrypted_from i fs)) (sym first) ∙ c.loop-field.invariant.left;
      few = omega (arith, after, place_next place one.kind, c.loop-field.invariant.few);
    }
