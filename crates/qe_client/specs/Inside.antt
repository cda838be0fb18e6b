-- How a client is held.
use Rattle.std.specs.Prelude.{◌≡◌, ℕ, List, Option, length}
use Rattle.qe_field.specs.Lookup.{encrypted_numbers}
use Rattle.qe_labels.specs.Under.{Under}
use Rattle.qe_encodes.specs.Callers.{Contentions}
use Rattle.qe_sending.specs.Sendable.{AreWithin}
use Rattle.qe_opening.specs.declared.keys.FieldKey.{FieldKey}
use Rattle.qe_opening.specs.Keys.{opening_keys}

-- the keys are the sender's, one for each encrypted field; what opens values is made of them; and no field's contention is above
-- its greatest
pub record IsWhole (u : Under) (keys : List (List ℕ)) (openers : List (Option FieldKey)) (contentions : Contentions) : Type 0 where
  pub keys_are : keys ≡ u.keys
  pub many : length u.keys ≡ length (encrypted_numbers u.schema)
  pub openers_are : openers ≡ opening_keys u
  pub within : AreWithin u.schema contentions
