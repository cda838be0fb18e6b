-- What a payload carries unread stands in its document.
use Rattle.std.proofs.Common.{◌≡◌, ℕ, List, refl, ap, Option, None, Some, Ok}
use Rattle.std.specs.Prelude.{codes}
use Rattle.std.proofs.lemmas.List.{append-nil}
use Rattle.qe_document.specs.Names.{value_named}
use Rattle.qe_value.specs.declared.value.Plain.{Plain}
use Rattle.qe_layout.specs.Layouts.{Element, Reader, part_in, slot}
use Rattle.qe_parts.specs.declared.parts.Part.{Part}
use Rattle.qe_parts.specs.Carried.{extra_names, carried_one, extra_in, picked_one, picked}
use Rattle.qe_parts.specs.declared.parts.Part.TheVariants as part

-- a slot holds what is carried under its name
pub slot_carried : (reads : Reader Part) (name : List ℕ) (found : Option Plain) → ((v : Plain) → reads name v ≡ Ok (part.Carried v))
    → carried_one name (slot reads name found) ≡ picked_one name found
slot_carried reads name None all = refl
slot_carried reads name (Some v) all = ap (λ read. carried_one name (part_in read)) (all v)

-- the slot of a name
unfoldable pub slot_of : Reader Part → List Element → List ℕ → Option Part
slot_of reads elements name = slot reads name (value_named name elements)

pub extra_picked : (reads : Reader Part) (elements : List Element) → ((v : Plain) → reads (codes "sp") v ≡ Ok (part.Carried v)) → ((v : Plain) → reads (codes "pn") v ≡ Ok (part.Carried v))
    → ((v : Plain) → reads (codes "tf") v ≡ Ok (part.Carried v)) → ((v : Plain) → reads (codes "mn") v ≡ Ok (part.Carried v)) → ((v : Plain) → reads (codes "mx") v ≡ Ok (part.Carried v))
    → extra_in (slot_of reads elements (codes "sp")) (slot_of reads elements (codes "pn")) (slot_of reads elements (codes "tf")) (slot_of reads elements (codes "mn")) (slot_of reads elements (codes "mx"))
    ≡ picked extra_names elements
unfolding slot_of
extra_picked reads elements sp pn tf mn mx =
    rw (
      slot_carried reads (codes "sp") (value_named (codes "sp") elements) sp,
      slot_carried reads (codes "pn") (value_named (codes "pn") elements) pn,
      slot_carried reads (codes "tf") (value_named (codes "tf") elements) tf,
      slot_carried reads (codes "mn") (value_named (codes "mn") elements) mn,
      slot_carried reads (codes "mx") (value_named (codes "mx") elements) mx,
      append-nil (picked_one (codes "mx") (value_named (codes "mx") elements)),
    ) refl
