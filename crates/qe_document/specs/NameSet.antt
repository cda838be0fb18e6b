-- A set of names beside the fields that have them.
use Rattle.std.specs.Prelude.{◌≡◌, ℕ, List}
use Rattle.std.specs.Ordering.{nat_cmp}
use Rattle.std.specs.BTreeSet as set
use Rattle.std.specs.BTreeSet.{BTreeSet}
use Rattle.std.specs.Borrow.{Bor}
use Rattle.std.specs.Cmp.Lexicographic.{slice_cmp}
use Rattle.qe_value.specs.declared.value.Plain.{Plain}
use Rattle.qe_value.specs.Names.{is_named}

-- the set has the fields' names
abbrev pub Knows : BTreeSet (Bor (List ℕ)) → List (List ℕ × Plain) → Type 0
Knows seen fields = (q : List ℕ) → set.contains_by (λ k. slice_cmp nat_cmp q k.now) seen ≡ is_named q fields
