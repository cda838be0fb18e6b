-- Sizes of commands of a schema, and how many nonces they need.
use Rattle.std.proofs.Common.{◌≡◌, ℕ, zero, suc, pos, ◌+◌, ◌*◌, ◌<◌, ◌≤◌, ◌≤ℤ◌, ◌==◌, ◌||◌, Bool, true, false, List, [], ◌∷◌, length, map, refl, ap, sym, subst, arith, inl, inr, Option, None, Some}
use Rattle.std.specs.Prelude.{All, slice_get, slice_index, slice_index_or}
use Rattle.std.specs.List.{AllByRecursion, list_any}
use Rattle.std.specs.List.Sorted.{IsStrictlyIncreasing}
use Rattle.std.proofs.lemmas.Bool.{cases_lt, eqb-true}
use Rattle.std.proofs.lemmas.Int.{ints}
use Rattle.qe_field.specs.declared.field.Field.{Field}
use Rattle.qe_field.specs.declared.field.FieldKind.{FieldKind}
use Rattle.qe_field.specs.declared.field.FieldKind.TheVariants as k
use Rattle.qe_field.specs.Schema.{IsSchema, IsField, IsKind, is_value_kind, is_number_kind}
use Rattle.qe_parts.specs.declared.edges.EdgeTokens.{EdgeTokens}
use Rattle.qe_insert.specs.Insert.{FewEdges}
use Rattle.qe_command.specs.declared.cells.SentCell.{SentCell}
use Rattle.qe_command.specs.declared.cells.SentCell.TheVariants as sent
use Rattle.qe_command.specs.declared.command.Command.{Command}
use Rattle.qe_command.specs.declared.command.Command.TheVariants as c
use Rattle.qe_command.specs.declared.filter.SentTerm.{SentTerm}
use Rattle.qe_command.specs.declared.filter.SentTerm.TheVariants as t
use Rattle.qe_command.specs.Items.{own_tokens, edges_or}
use Rattle.qe_command.specs.Nonces.{cell_nonces, cells_nonces, nonces_of}
use Rattle.qe_command_fits.specs.OfSchema.{IsFieldAt, IsPayloadOf, IsCellOf, AreCellsOf, AreTermsOf, IsOfSchema}
use Rattle.qe_command_fits.specs.Sizes.{HasSizes, IsSizedCell, IsSizedTerm, IsSized}

-- types are bytes
one_of : (kinds : List ℕ) (kind most : ℕ) → AllByRecursion (λ (other : ℕ). other ≤ most) kinds → list_any (λ other. other == kind) kinds ≡ true → kind ≤ most
one_of [] kind most each is = absurd (cc)
one_of (first ∷ kinds) kind most each is = by_test (one_of kinds kind most each.1) (first == kind) refl is
  where
    by_test : (list_any (λ other. other == kind) kinds ≡ true → kind ≤ most) → (b : Bool) → (first == kind) ≡ b → (b || list_any (λ other. other == kind) kinds) ≡ true → kind ≤ most
    by_test rest true same is = let equal : first ≡ kind = eqb-true first kind same in subst (λ (n : ℕ). n ≤ most) equal each.0
    by_test rest false other is = rest is

value_kind_small : (kind : ℕ) → is_value_kind kind ≡ true → kind ≤ 255
value_kind_small kind is =
    one_of (0x10 ∷ 0x12 ∷ 0x02 ∷ 0x08 ∷ 0x07 ∷ 0x09 ∷ 0x05 ∷ []) kind 255
    (omega arith, (omega arith, (omega arith, (omega arith, (omega arith, (omega arith, (omega arith, tt))))))) is

number_kind_small : (kind : ℕ) → is_number_kind kind ≡ true → kind ≤ 255
number_kind_small kind is = by_test (kind == 0x10) refl is
  where
    by_test : (b : Bool) → (kind == 0x10) ≡ b → (b || (kind == 0x12)) ≡ true → kind ≤ 255
    by_test true same is = let equal = eqb-true kind 0x10 same in omega (arith, equal)
    by_test false other is = let equal = eqb-true kind 0x12 is in omega (arith, equal)

payload_sized : (range : Bool) (id : List ℕ) (kind greatest : ℕ) (payload : _) → kind ≤ 255 → IsPayloadOf range id kind greatest payload → HasSizes payload
payload_sized range id kind greatest payload small is = record {
  kind_least = subst (λ z. pos 0 ≤ℤ z) (sym is.value_kind) (omega (arith, ints));
  kind_most = subst (λ z. z ≤ℤ pos 255) (sym is.value_kind) (omega (arith, ints, small));
  factor = is.form.factor;
  edges = is.form.edges;
}

cell_sized : (cell : SentCell) (kind : FieldKind) → IsKind kind → IsCellOf cell kind → IsSizedCell cell
cell_sized (sent.Plain value) kind is of = tt
cell_sized (sent.Payload payload) k.Plain is of = absurd of
cell_sized (sent.Payload payload) (k.Equality id kind contention greatest) is of = payload_sized false id kind greatest payload (value_kind_small kind is.0) of
cell_sized (sent.Payload payload) (k.Range id kind contention greatest domain) is of = payload_sized true id kind greatest payload (number_kind_small kind is.0) of

get_index : (fields : List Field) (n : ℕ) (field : Field) → slice_get fields n ≡ Some field → slice_index_or fields n field ≡ field
get_index [] n field is = absurd (cc)
get_index (first ∷ fields) zero field is = let same : first ≡ field = cc in same
get_index (first ∷ fields) (suc n) field is = get_index fields n field is

kind_at : (fields : List Field) (n : ℕ) (Holds : FieldKind → Type 0) → All IsField fields → (at : IsFieldAt fields n Holds) → IsKind at.field.kind
kind_at fields n Holds each at = subst (λ (f : Field). IsKind f.kind) (get_index fields n at.field at.there) (each n at.field at.below).kind

cells_sized : (fields : List Field) (cells : List (ℕ × SentCell)) → All IsField fields → AllByRecursion (λ cell. IsFieldAt fields cell.0 (IsCellOf cell.1)) cells
    → AllByRecursion (λ cell. IsSizedCell cell.1) cells
cells_sized fields [] each all = tt
cells_sized fields (cell ∷ cells) each all =
    (cell_sized cell.1 all.0.field.kind (kind_at fields cell.0 (IsCellOf cell.1) each all.0) all.0.kind, cells_sized fields cells each all.1)

terms_sized : (fields : List Field) (terms : List SentTerm) → AreTermsOf fields terms → AllByRecursion IsSizedTerm terms
terms_sized fields [] each = tt
terms_sized fields (t.Id id ∷ terms) each = (each.0, terms_sized fields terms each.1)
terms_sized fields (t.Equal field payload ∷ terms) each = (tt, terms_sized fields terms each.1)
terms_sized fields (t.Range field payload ∷ terms) each = (tt, terms_sized fields terms each.1)

pub sized : (fields : List Field) (command : Command) → IsSchema fields → IsOfSchema fields command → IsSized command
sized fields (c.Insert id cells) schema is = (is.0, cells_sized fields cells schema.each is.1.each)
sized fields (c.Find terms ids) schema is = terms_sized fields terms is
sized fields (c.Update terms set) schema is = (terms_sized fields terms is.0, cells_sized fields set schema.each is.1.each)
sized fields (c.Delete terms) schema is = terms_sized fields terms is
sized fields (c.Begin kind tokens) schema is = tt
sized fields (c.Step job limit) schema is = tt
sized fields (c.End job) schema is = tt
sized fields (c.Abandon job) schema is = tt
sized fields (c.Raise field contention) schema is = tt

-- how many nonces cells need
items_few : (own : EdgeTokens) (g : Option (List EdgeTokens)) → FewEdges g → length (edges_or own g) ≤ 65
items_few own None few = omega arith
items_few own (Some edges) few = few.1

cell_few : (cell : SentCell) → IsSizedCell cell → cell_nonces cell ≤ 131
cell_few (sent.Plain value) sized = omega arith
cell_few (sent.Payload payload) sized = let few = items_few (own_tokens payload) payload.g sized.edges in omega (arith, few)

cells_few : (cells : List (ℕ × SentCell)) → AllByRecursion (λ cell. IsSizedCell cell.1) cells → cells_nonces cells ≤ 131 * length cells
cells_few [] each = omega arith
cells_few (cell ∷ cells) each =
    let first = cell_few cell.1 each.0 in
    let rest = cells_few cells each.1 in
    omega (arith, first, rest)

-- rising numbers below a bound are at most as many
at_least : (xs : List ℕ) → IsStrictlyIncreasing xs → (k : ℕ) → k < length xs → k ≤ slice_index xs k
at_least xs rising zero less = omega arith
at_least xs rising (suc k) less =
    let before = at_least xs rising k (omega (arith, less)) in
    let step = rising k (omega (arith, less)) in
    let place : k + 1 ≡ suc k = omega arith in
    let same : slice_index xs (k + 1) ≡ slice_index xs (suc k) = ap (slice_index xs) place in
    omega (arith, before, step, same)

rising_few : (xs : List ℕ) (n : ℕ) → IsStrictlyIncreasing xs → ((k : ℕ) → k < length xs → slice_index xs k < n) → length xs ≤ n
rising_few xs n rising below =
    elim (cases_lt n (length xs)) [
      | inl more ↦
          let least = at_least xs rising n more in
          let less = below n more in
          omega (arith, least, less)
      | inr few ↦ few
    ]

numbers_below : (fields : List Field) (cells : List (ℕ × SentCell)) → AllByRecursion (λ cell. IsFieldAt fields cell.0 (IsCellOf cell.1)) cells
    → (k : ℕ) → k < length (map (λ (cell : ℕ × SentCell). cell.0) cells) → slice_index (map (λ (cell : ℕ × SentCell). cell.0) cells) k < length fields
numbers_below fields [] each k less = absurd (omega (arith, less))
numbers_below fields (cell ∷ cells) each zero less = each.0.below
numbers_below fields (cell ∷ cells) each (suc k) less = numbers_below fields cells each.1 k (omega (arith, less))

numbers_long : (cells : List (ℕ × SentCell)) → length (map (λ (cell : ℕ × SentCell). cell.0) cells) ≡ length cells
numbers_long [] = refl
numbers_long (cell ∷ cells) = ap suc (numbers_long cells)

of_cells : (fields : List Field) (cells : List (ℕ × SentCell)) → IsSchema fields → AreCellsOf fields cells → cells_nonces cells ≤ 65536
of_cells fields cells schema is =
    let each = cells_few cells (cells_sized fields cells schema.each is.each) in
    let few = rising_few (map (λ (cell : ℕ × SentCell). cell.0) cells) (length fields) is.rising (numbers_below fields cells is.each) in
    omega (arith, each, few, numbers_long cells, schema.few)

pub few_nonces : (fields : List Field) (command : Command) → IsSchema fields → IsOfSchema fields command → nonces_of command ≤ 65536
few_nonces fields (c.Insert id cells) schema is = of_cells fields cells schema is.1
few_nonces fields (c.Find terms ids) schema is = omega arith
few_nonces fields (c.Update terms set) schema is = of_cells fields set schema is.1
few_nonces fields (c.Delete terms) schema is = omega arith
few_nonces fields (c.Begin kind tokens) schema is = omega arith
few_nonces fields (c.Step job limit) schema is = is.1.1
few_nonces fields (c.End job) schema is = omega arith
few_nonces fields (c.Abandon job) schema is = omega arith
few_nonces fields (c.Raise field contention) schema is = omega arith
