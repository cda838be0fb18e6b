-- Where a command fits, its ids and the values that are to be encrypted aren't too long.
use Rattle.std.proofs.Common.{◌≡◌, ◌+◌, ◌≤◌, ℕ, List, [], ◌∷◌, ◌++◌, length, map, Bool, true, false, if◌then◌else◌, is_none, nat_le, Option, None, Some, slice_get, suc, refl, ap, arith}
use Rattle.std.specs.List.{AllByRecursion}
use Rattle.std.specs.Option.{option_or}
use Rattle.std.proofs.lemmas.Bool.{and_parts, leb-true}
use Rattle.qe_value.specs.declared.value.Plain.{Plain}
use Rattle.qe_value.specs.Limits.{most_bytes}
use Rattle.qe_value.specs.Measures.{fields_length, items_length, value_length}
use Rattle.qe_field.specs.declared.field.Field.{Field}
use Rattle.qe_field.specs.declared.field.FieldKind.{FieldKind}
use Rattle.qe_field.specs.declared.field.FieldKind.TheVariants as k
use Rattle.qe_plain.specs.declared.command.PlainCell.{PlainCell}
use Rattle.qe_plain.specs.declared.command.PlainCommand.{PlainCommand}
use Rattle.qe_plain.specs.declared.command.PlainCommand.TheVariants as c
use Rattle.qe_plain.specs.declared.command.PlainDocument.{PlainDocument}
use Rattle.qe_plain.specs.declared.command.Term.{Term}
use Rattle.qe_plain.specs.declared.command.Term.TheVariants as t
use Rattle.qe_fits.specs.declared.part.Part.{Part}
use Rattle.qe_fits.specs.Fits.{bad_value, fits, job_fits, long_part, long_value, misfit}
use Rattle.qe_fits.specs.Sizes.{Counted, cell_element, cell_elements, counted_length, filter_size, kept_size, term_size}

-- ---- a command that fits has so many bytes at most
no_part : (one other : Option Part) → is_none (option_or one other) ≡ true → other ≡ None
no_part None None none = refl
no_part None (Some part) none = cc
no_part (Some first) other none = cc

not_long : (short : Bool) (part : Part) → (if short then None else Some part) ≡ None → short ≡ true
not_long true part none = refl
not_long false part none = cc

pub fits_in : (fields : List Field) (command : PlainCommand) → fits fields command ≡ true → counted_length fields command ≤ most_bytes
fits_in fields command fit =
    let none = (and_parts (job_fits command) (is_none (misfit fields command)) fit).1 in
    leb-true (counted_length fields command) most_bytes
    (not_long (nat_le (counted_length fields command) most_bytes) (long_part command) (no_part (bad_value fields command) (long_value fields command) none))

-- ---- parts of what is counted
fields_both : (xs ys : List Counted) → fields_length (xs ++ ys) ≡ fields_length xs + fields_length ys
fields_both [] ys = omega arith
fields_both (x ∷ xs) ys = omega (arith, fields_both xs ys)

-- what is encrypted has at least the bytes of its value
kept_within : (kind : FieldKind) (value : Plain) → value_length value ≤ kept_size kind value
kept_within k.Plain value = omega arith
kept_within (k.Equality key_id value_kind _ _) value = omega arith
kept_within (k.Range key_id value_kind _ _ domain) value = omega arith

-- a cell of a field whose value has so many bytes at most
abbrev pub IsShortCell : List Field → ℕ → PlainCell → Type 0
IsShortCell fields most cell = (field : Field) → slice_get fields cell.field ≡ Some field → value_length cell.value ≤ most

pub cells_within : (fields : List Field) (most : ℕ) (cells : List PlainCell) → fields_length (cell_elements fields cells) ≤ most → AllByRecursion (IsShortCell fields most) cells
cells_within fields most [] fit = tt
cells_within fields most (cell ∷ cells) fit =
    let both = fields_both (cell_element cell (slice_get fields cell.field)) (cell_elements fields cells) in (
      (λ (field : Field) (there : slice_get fields cell.field ≡ Some field).
          let one : fields_length (cell_element cell (slice_get fields cell.field)) ≡ length field.path + 2 + kept_size field.kind cell.value + 0 =
          ap (λ (o : Option Field). fields_length (cell_element cell o)) there in
          omega (arith, fit, both, one, kept_within field.kind cell.value)),
      cells_within fields most cells (omega (arith, fit, both)),
    )

abbrev pub IsShortTerm : ℕ → Term → Type 0
IsShortTerm most (t.Id value) = value_length value ≤ most
IsShortTerm most _ = Unit {0}

terms_from : (fields : List Field) (most place : ℕ) (terms : List Term) → items_length place (map (term_size fields) terms) ≤ most → AllByRecursion (IsShortTerm most) terms
terms_from fields most place [] fit = tt
terms_from fields most place (t.Id value ∷ terms) fit = (omega (arith, fit), terms_from fields most (suc place) terms (omega (arith, fit)))
terms_from fields most place (t.Equal field value ∷ terms) fit = (tt, terms_from fields most (suc place) terms (omega (arith, fit)))
terms_from fields most place (t.Between field lo hi ∷ terms) fit = (tt, terms_from fields most (suc place) terms (omega (arith, fit)))

pub terms_within : (fields : List Field) (most : ℕ) (terms : List Term) → filter_size fields terms ≤ most → AllByRecursion (IsShortTerm most) terms
terms_within fields most terms fit = terms_from fields most 0 terms (omega (arith, fit))

-- the values of a command
pub insert_within : (fields : List Field) (document : PlainDocument) (most : ℕ) → counted_length fields (c.Insert document) ≤ most
    → (value_length document.id ≤ most) × AllByRecursion (IsShortCell fields most) document.cells
unfolding counted_length
insert_within fields document most fit = (omega (arith, fit), cells_within fields most document.cells (omega (arith, fit)))

pub find_within : (fields : List Field) (terms : List Term) (ids : Bool) (most : ℕ) → counted_length fields (c.Find terms ids) ≤ most → AllByRecursion (IsShortTerm most) terms
unfolding counted_length
find_within fields terms ids most fit = terms_within fields most terms (omega (arith, fit))

pub update_within : (fields : List Field) (terms : List Term) (set : List PlainCell) (most : ℕ) → counted_length fields (c.Update terms set) ≤ most
    → AllByRecursion (IsShortTerm most) terms × AllByRecursion (IsShortCell fields most) set
unfolding counted_length
update_within fields terms set most fit = (terms_within fields most terms (omega (arith, fit)), cells_within fields most set (omega (arith, fit)))

pub delete_within : (fields : List Field) (terms : List Term) (most : ℕ) → counted_length fields (c.Delete terms) ≤ most → AllByRecursion (IsShortTerm most) terms
unfolding counted_length
delete_within fields terms most fit = terms_within fields most terms (omega (arith, fit))
