-- What payloads carry unread: the elements sp, pn, tf, mn and mx of libmongocrypt's payloads of text and ranges.
use Rattle.std.specs.Prelude.{◌≡◌, ℕ, false, List, [], ◌∷◌, ◌++◌, codes, Option, None, Some}
use Rattle.std.specs.List.{flat_map}
use Rattle.qe_document.specs.Names.{is_named, value_named}
use Rattle.qe_value.specs.declared.value.Plain.{Plain}
use Rattle.qe_layout.specs.Layouts.{Element, Row, optional}
use Rattle.qe_parts.specs.declared.parts.Part.{Part}
use Rattle.qe_parts.specs.declared.parts.Part.TheVariants.{Carried}
use Rattle.qe_parts.specs.Parts.{carried}

-- the names of what is carried unread
abbrev pub extra_names : List (List ℕ)
extra_names = codes "sp" ∷ codes "pn" ∷ codes "tf" ∷ codes "mn" ∷ codes "mx" ∷ []

-- their rows
abbrev pub extra_table : List (Row Part)
extra_table =
    optional (codes "sp") carried ∷ optional (codes "pn") carried ∷ optional (codes "tf") carried ∷ optional (codes "mn") carried
    ∷ optional (codes "mx") carried ∷ []

abbrev pub carried_one : List ℕ → Option Part → List Element
carried_one name (Some (Carried value)) = (name, value) ∷ []
carried_one name _ = []

-- what stands in the slots of these rows
abbrev pub extra_in : Option Part → Option Part → Option Part → Option Part → Option Part → List Element
extra_in sp pn tf mn mx =
    carried_one (codes "sp") sp ++ (carried_one (codes "pn") pn ++ (carried_one (codes "tf") tf ++ (carried_one (codes "mn") mn ++ carried_one (codes "mx") mx)))

abbrev pub picked_one : List ℕ → Option Plain → List Element
picked_one name None = []
picked_one name (Some value) = (name, value) ∷ []

-- the elements of these names, in the order of the names
abbrev pub picked : List (List ℕ) → List Element → List Element
picked names elements = flat_map (λ name. picked_one name (value_named name elements)) names

-- no element has one of the names
abbrev pub AreNew : List (List ℕ) → List Element → Type 0
AreNew [] elements = Unit {0}
AreNew (name ∷ names) elements = (is_named name elements ≡ false) × AreNew names elements
