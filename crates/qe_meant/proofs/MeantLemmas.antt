-- Commands that were resolved, that fit, and whose values are of their types mean something.
use Rattle.std.proofs.Common.{◌≡◌, ◌≤◌, ℕ, zero, suc, List, [], ◌∷◌, true, All, Option, Some, slice_get, sym, ap, ◌∙◌, subst, arith, inl, inr}
use Rattle.std.specs.Prelude.{◌==◌}
use Rattle.std.specs.List.{AllByRecursion}
use Rattle.std.proofs.lemmas.Bool.{eqb-true, or_cases}
use Rattle.std.proofs.lemmas.List.Elements.{recursion_from_All}
use Rattle.qe_value.specs.declared.value.Plain.{Plain}
use Rattle.qe_value.specs.Limits.{most_bytes}
use Rattle.qe_value.specs.Measures.{value_length}
use Rattle.qe_field.specs.declared.field.Field.{Field}
use Rattle.qe_field.specs.declared.field.FieldKind.{FieldKind}
use Rattle.qe_field.specs.declared.field.FieldKind.TheVariants as k
use Rattle.qe_field.specs.Schema.{IsField, IsKind, IsSchema, is_number_kind, is_value_kind}
use Rattle.qe_field.specs.Values.{is_id, is_id_kind, kind_of}
use Rattle.qe_plain.specs.declared.command.PlainCell.{PlainCell}
use Rattle.qe_plain.specs.declared.command.PlainCommand.{PlainCommand}
use Rattle.qe_plain.specs.declared.command.PlainCommand.TheVariants as c
use Rattle.qe_plain.specs.declared.command.Term.{Term}
use Rattle.qe_plain.specs.declared.command.Term.TheVariants as t
use Rattle.qe_fits.specs.Fits.{fits}
use Rattle.qe_schema.specs.Laws.{HoldsWhatIsAllowed}
use Rattle.qe_schema.specs.Resolved.{IsCell, IsKeptBy, IsResolved, IsTerm}
use Rattle.qe_script.specs.declared.script.Line.{Line}
use Rattle.qe_script.specs.Read.{IsRead}
use Rattle.qe_encodes.specs.Fields.{kind_or_plain}
use Rattle.qe_encodes.specs.Meant.{IsMeant, IsSpelled, IsSpelledCell, IsSpelledCommand, IsSpelledIn, IsSpelledTerm}
use Rattle.qe_meant.specs.Held.{AreHeldLines, IsHeldCell, IsHeldCommand, IsHeldTerm, IsHeldTree}
use Rattle.qe_meant.proofs.HeldLemmas.{held_is_value}
use Rattle.qe_meant.proofs.SizeLemmas.{IsShortCell, IsShortTerm, delete_within, find_within, fits_in, insert_within, update_within}

-- an item that is found is one of the items
each_there : {A : Type 0} (P : A → Type 0) (xs : List A) (i : ℕ) (x : A) → AllByRecursion P xs → slice_get xs i ≡ Some x → P x
each_there P [] i x each there = cc
each_there P (y ∷ ys) zero x each there = let same : y ≡ x = cc in subst P same each.0
each_there P (y ∷ ys) (suc i) x each there = each_there P ys i x each.1 there

-- ids and numbers are of types that fields have
number_value : (kind : ℕ) → is_number_kind kind ≡ true → is_value_kind kind ≡ true
number_value kind is = elim (or_cases (kind == 0x10) (kind == 0x12) is) [
  | inl int ↦ ap is_value_kind (eqb-true kind 0x10 int)
  | inr long ↦ ap is_value_kind (eqb-true kind 0x12 long)
]

id_value : (kind : ℕ) → is_id_kind kind ≡ true → is_value_kind kind ≡ true
id_value kind is = elim (or_cases (kind == 0x10) _ is) [
  | inl int ↦ ap is_value_kind (eqb-true kind 0x10 int)
  | inr other ↦ elim (or_cases (kind == 0x12) _ other) [
    | inl long ↦ ap is_value_kind (eqb-true kind 0x12 long)
    | inr more ↦ elim (or_cases (kind == 0x02) (kind == 0x07) more) [
      | inl text ↦ ap is_value_kind (eqb-true kind 0x02 text)
      | inr id ↦ ap is_value_kind (eqb-true kind 0x07 id)
    ]
  ]
]

spelled_tree : (value : Plain) → IsHeldTree value → is_value_kind (kind_of value) ≡ true → value_length value ≤ most_bytes → IsSpelled value
spelled_tree value held kind short =
    let is = held_is_value value held kind (omega (arith, short)) in
    record { writable = is.alone; bytes = is.bytes }

spelled_id : (value : Plain) → IsHeldTree value → is_id value ≡ true → value_length value ≤ most_bytes → IsSpelled value
spelled_id value held is short = spelled_tree value held (id_value (kind_of value) is) short

spelled_in : (kind : FieldKind) (value : Plain) → IsKind kind → IsKeptBy value kind → IsHeldTree value → value_length value ≤ most_bytes → IsSpelledIn kind value
spelled_in k.Plain value is kept held short = tt
spelled_in (k.Equality key_id kind contention greatest) value is kept held short = spelled_tree value held (ap is_value_kind kept ∙ is.0) short
spelled_in (k.Range key_id kind contention greatest domain) value is kept held short =
    spelled_tree value held (ap is_value_kind kept.0 ∙ number_value kind is.0) short

module _ (fields : List Field) (schema : IsSchema fields) where
  kind_is : (number : ℕ) (field : Field) → slice_get fields number ≡ Some field → IsKind field.kind
  kind_is number field there = (each_there IsField fields number field (recursion_from_All IsField fields schema.each) there).kind

  cells_spelled : (cells : List PlainCell) → AllByRecursion (IsCell fields) cells → AllByRecursion IsHeldCell cells → AllByRecursion (IsShortCell fields most_bytes) cells
      → AllByRecursion (IsSpelledCell fields) cells
  cells_spelled [] are held short = tt
  cells_spelled (cell ∷ cells) are held short =
      let is = are.0 in (
        subst (λ (o : Option Field). IsSpelledIn (kind_or_plain o) cell.value) (sym is.there)
            (spelled_in is.field.kind cell.value (kind_is cell.field is.field is.there) is.allows held.0 (short.0 is.field is.there)),
        cells_spelled cells are.1 held.1 short.1,
      )

  terms_spelled : (terms : List Term) → AllByRecursion (IsTerm fields) terms → AllByRecursion IsHeldTerm terms → AllByRecursion (IsShortTerm most_bytes) terms
      → AllByRecursion IsSpelledTerm terms
  terms_spelled [] are held short = tt
  terms_spelled (t.Id value ∷ terms) are held short = (spelled_id value held.0 are.0 short.0, terms_spelled terms are.1 held.1 short.1)
  terms_spelled (t.Equal field value ∷ terms) are held short = (tt, terms_spelled terms are.1 held.1 short.1)
  terms_spelled (t.Between field lo hi ∷ terms) are held short = (tt, terms_spelled terms are.1 held.1 short.1)

  all_cells : (cells : List PlainCell) → All (IsCell fields) cells → All IsHeldCell cells → AllByRecursion (IsShortCell fields most_bytes) cells → AllByRecursion (IsSpelledCell fields) cells
  all_cells cells are held short = cells_spelled cells (recursion_from_All (IsCell fields) cells are) (recursion_from_All IsHeldCell cells held) short

  all_terms : (terms : List Term) → All (IsTerm fields) terms → All IsHeldTerm terms → AllByRecursion (IsShortTerm most_bytes) terms → AllByRecursion IsSpelledTerm terms
  all_terms terms are held short = terms_spelled terms (recursion_from_All (IsTerm fields) terms are) (recursion_from_All IsHeldTerm terms held) short

  command_spelled : (command : PlainCommand) → IsResolved fields command → fits fields command ≡ true → IsHeldCommand command → IsSpelledCommand fields command
  command_spelled (c.Insert document) is fit held =
      let short = insert_within fields document most_bytes (fits_in fields (c.Insert document) fit) in
      (spelled_id document.id held.0 is.id short.0, all_cells document.cells is.cells.each held.1 short.1)
  command_spelled (c.Find terms ids) is fit held = all_terms terms is held (find_within fields terms ids most_bytes (fits_in fields (c.Find terms ids) fit))
  command_spelled (c.Update terms set) is fit held =
      let short = update_within fields terms set most_bytes (fits_in fields (c.Update terms set) fit) in
      (all_terms terms is.0 held.0 short.0, all_cells set is.1.each held.1 short.1)
  command_spelled (c.Delete terms) is fit held = all_terms terms is held (delete_within fields terms most_bytes (fits_in fields (c.Delete terms) fit))
  command_spelled (c.Begin kind pairs) is fit held = tt
  command_spelled (c.Step job limit) is fit held = tt
  command_spelled (c.End job) is fit held = tt
  command_spelled (c.Abandon job) is fit held = tt
  command_spelled (c.Raise field contention) is fit held = tt

  pub command_meant : (command : PlainCommand) → IsResolved fields command → fits fields command ≡ true → IsHeldCommand command → IsMeant fields command
  command_meant command is fit held = record { resolved = is; spelled = command_spelled command is fit held }

  abbrev LineHeld : Line → Type 0
  LineHeld line = IsHeldCommand line.command

  lines_each : HoldsWhatIsAllowed → (callers : List (List ℕ)) (lines : List Line) → AllByRecursion (IsRead fields callers) lines → AllByRecursion LineHeld lines
      → AllByRecursion (λ (line : Line). IsMeant fields line.command) lines
  lines_each law callers [] read held = tt
  lines_each law callers (line ∷ lines) read held = (
    command_meant line.command (law fields read.0.raw line.command read.0.meant) read.0.fitting held.0,
    lines_each law callers lines read.1 held.1,
  )

  pub lines_meant : HoldsWhatIsAllowed → (callers : List (List ℕ)) (lines : List Line) → AllByRecursion (IsRead fields callers) lines → AreHeldLines lines
      → AllByRecursion (λ (line : Line). IsMeant fields line.command) lines
  lines_meant law callers lines read held = lines_each law callers lines read (recursion_from_All LineHeld lines held)
