-- What is carried unread has new names.
use Rattle.std.proofs.Common.{◌≡◌, ℕ, List, [], ◌∷◌, ◌++◌, refl, Option, None, Some, false}
use Rattle.std.specs.Prelude.{bytes_eq}
use Rattle.std.proofs.lemmas.Bool.{or_parts}
use Rattle.qe_document.specs.Names.{is_named}
use Rattle.qe_value.specs.declared.value.Plain.{Plain}
use Rattle.qe_layout.specs.Layouts.{Element}
use Rattle.qe_parts.specs.declared.parts.Part.{Part}
use Rattle.qe_parts.specs.declared.parts.Part.TheVariants as part
use Rattle.qe_parts.specs.Carried.{carried_one, picked_one}

-- a name that is carried is new behind those of other names
pub carried_new : (name other : List ℕ) (before : List Element) (value : Option Plain) → is_named name before ≡ false → bytes_eq name other ≡ false
    → is_named name (before ++ picked_one other value) ≡ false
carried_new name other [] None new differs = refl
carried_new name other [] (Some value) new differs = rw differs refl
carried_new name other (e ∷ before) value new differs =
    let parts = or_parts (bytes_eq name e.0) (is_named name before) new in
    rw (parts.0, carried_new name other before value parts.1 differs) refl

-- the value in a slot
abbrev pub value_in : Option Part → Option Plain
value_in (Some (part.Carried value)) = Some value
value_in _ = None

one_is : (name : List ℕ) (slot : Option Part) → carried_one name slot ≡ picked_one name (value_in slot)
one_is name None = refl
one_is name (Some (part.Carried value)) = refl
one_is name (Some _) = refl

pub slot_new : (name other : List ℕ) (before : List Element) (slot : Option Part) → is_named name before ≡ false → bytes_eq name other ≡ false
    → is_named name (before ++ carried_one other slot) ≡ false
slot_new name other before slot new differs = rw (one_is other slot) (carried_new name other before (value_in slot) new differs)
