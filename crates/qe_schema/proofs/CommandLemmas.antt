-- What a resolved command holds.
use Rattle.std.proofs.Common.{◌≡◌, ℕ, suc, ◌+◌, inl, inr, true, false, List, [], ◌∷◌, Option, None, Some, refl, subst, arith, map}
use Rattle.std.specs.Prelude.{Result, Ok, Err, IfOk, codes, nat_le, slice_get, ◌&&◌}
use Rattle.std.specs.List.{AllByRecursion}
use Rattle.std.proofs.lemmas.Bool.{cases_Bool, and_parts, leb-true}
use Rattle.std.proofs.lemmas.List.Elements.{All-from_recursion}
use Rattle.qe_base.specs.Answers.{Answers}
use Rattle.qe_value.specs.declared.value.Plain.{Plain}
use Rattle.qe_value.specs.Names.{value_named}
use Rattle.qe_field.specs.declared.field.Field.{Field}
use Rattle.qe_field.specs.declared.field.FieldKind.{FieldKind}
use Rattle.qe_field.specs.Judgements.{some_or}
use Rattle.qe_field.specs.Lookup.{known, is_encrypted, greatest_of, encrypted_from}
use Rattle.qe_field.specs.Values.{text_in}
use Rattle.qe_plain.specs.declared.command.Pair.{Pair}
use Rattle.qe_plain.specs.declared.command.PlainCommand.{PlainCommand}
use Rattle.qe_plain.specs.declared.command.PlainCommand.TheVariants as c
use Rattle.qe_plain.specs.declared.command.PlainDocument.{PlainDocument}
use Rattle.qe_plain.specs.declared.command.RawCommand.{RawCommand}
use Rattle.qe_plain.specs.declared.command.RawCommand.TheVariants as r
use Rattle.qe_filter.specs.declared.fault.PlainFault.{PlainFault}
use Rattle.qe_filter.specs.declared.fault.PlainFault.TheVariants as f
use Rattle.qe_filter.specs.Faults.{plain_refusal}
use Rattle.qe_filter.specs.Filters.{filter_terms}
use Rattle.qe_filter.specs.Indexed.{indexed, indexed_among}
use Rattle.qe_resolve.specs.Slots.{put, empty_slots, listed_from}
use Rattle.qe_resolve.specs.Cells.{cells_of, slots_from}
use Rattle.qe_resolve.specs.Pairs.{pair, own_pair, name_pair, pair_slots_from, pairs_of}
use Rattle.qe_resolve.specs.Resolve.{document_of, step_of, raise_to, raise_of, resolved}
use Rattle.qe_schema.specs.Laws.{HoldsWhatIsAllowed}
use Rattle.qe_schema.specs.Resolved.{OfField, IsInserted, IsEncrypted, IsPair, ArePairs, IsRaisedTo, IsResolved}
use Rattle.qe_field.proofs.GaveLemmas.{gave, there}
use Rattle.qe_schema.proofs.ResolvedLemmas.{of_field, are_terms}
use Rattle.qe_schema.proofs.CellLemmas.{are_cells, id_there}
use Rattle.qe_schema.proofs.SlotLemmas.{Stand, Rise, rise_nil, rise_later, rise_cons, none_stand, put_stand, listed_all, listed_rise}

-- a field that has to be encrypted is
record IsIndexed (fields : List Field) (name : List ℕ) (found : ℕ × FieldKind) : Type 0 where
  known_so : known fields name ≡ Some found
  encrypted : IsEncrypted found.1

indexed_is : (fields : List Field) (name : List ℕ) (found : ℕ × FieldKind) → indexed fields name ≡ Ok found → IsIndexed fields name found
indexed_is fields name found h =
    let g = gave (some_or (f.UnknownField name) (known fields name)) (indexed_among name) found h in
    let last = g.then_is in
    elim (cases_Bool (is_encrypted g.value.1)) [
      | inl sure ↦
          let made = rw sure at last in
          let e : g.value ≡ found = cc in
          subst (IsIndexed fields name) e (record { known_so = there _ (known fields name) g.value g.found; encrypted = sure })
      | inr failed ↦ let made = rw failed at last in cc
    ]

indexed_field : (fields : List Field) (name : List ℕ) (found : ℕ × FieldKind) → indexed fields name ≡ Ok found → OfField fields found.0 IsEncrypted
indexed_field fields name found h =
    let is = indexed_is fields name found h in
    of_field IsEncrypted fields name found is.known_so is.encrypted

-- both fields of a pair are encrypted
abbrev Sends : List Field → ℕ → ℕ → Type 0
Sends fields i sent = IsPair fields (pair i sent)

named_pair : (fields : List Field) (element : List ℕ × Plain) (placed : ℕ × ℕ) → name_pair fields element ≡ Ok placed → Sends fields placed.0 placed.1
named_pair fields element placed h =
    let own = gave (indexed fields element.0) _ placed h in
    let text = gave (some_or (f.TypeDiffers element.0) (text_in element.1)) _ placed own.then_is in
    let sent = gave (indexed fields text.value) _ placed text.then_is in
    let last = sent.then_is in
    let e : (own.value.0, sent.value.0) ≡ placed = cc in
    subst (λ (p : ℕ × ℕ). Sends fields p.0 p.1) e (indexed_field fields element.0 own.value own.found, indexed_field fields text.value sent.value sent.found)

slots_send : (fields : List Field) (elements : List (List ℕ × Plain)) (slots made : List (Option ℕ)) → Stand (Sends fields) 0 slots
    → pair_slots_from fields slots elements ≡ Ok made → Stand (Sends fields) 0 made
slots_send fields [] slots made stand h =
    let e : slots ≡ made = cc in
    subst (Stand (Sends fields) 0) e stand
slots_send fields (element ∷ elements) slots made stand h =
    let g = gave (name_pair fields element) _ made h in
    let new = named_pair fields element g.value g.found in
    slots_send fields elements (put (Some g.value) slots) made (put_stand (Sends fields) (Some g.value) slots new stand) g.then_is

-- each encrypted field with its own token; the fields are the last of all, from a number on
abbrev AreLast : List Field → ℕ → List Field → Type 0
AreLast whole i fields = (n : ℕ) (field : Field) → slice_get fields n ≡ Some field → slice_get whole (i + n) ≡ Some field

next_last : (whole : List Field) (i : ℕ) (field : Field) (fields : List Field) → AreLast whole i (field ∷ fields) → AreLast whole (i + 1) fields
next_last whole i field fields last n other h =
    let at : i + suc n ≡ (i + 1) + n = omega arith in
    subst (λ m. slice_get whole m ≡ Some other) at (last (suc n) other h)

-- the own pairs of fields, from a number on
abbrev owned : ℕ → List Field → List Pair
owned i fields = map own_pair (encrypted_from i fields)

own_field : (whole : List Field) (i : ℕ) (field : Field) (fields : List Field) → AreLast whole i (field ∷ fields) → IsEncrypted field.kind → OfField whole i IsEncrypted
own_field whole i field fields last sure =
    let at : i + 0 ≡ i = omega arith in
    record { field = field; there = subst (λ m. slice_get whole m ≡ Some field) at (last 0 field refl); allows = sure }

own_all : (whole : List Field) (i : ℕ) (fields : List Field) → AreLast whole i fields → AllByRecursion (IsPair whole) (owned i fields)
own_all whole i [] last = tt
own_all whole i (field ∷ fields) last =
    let rest = own_all whole (i + 1) fields (next_last whole i field fields last) in
    elim (cases_Bool (is_encrypted field.kind)) [
      | inl sure ↦
          let own = own_field whole i field fields last sure in
          rw sure ((own, own), rest)
      | inr failed ↦ rw failed rest
    ]

own_rise : (i : ℕ) (fields : List Field) → Rise (λ (p : Pair). p.field) i (owned i fields)
own_rise i [] = rise_nil (λ p. p.field) i
own_rise i (field ∷ fields) =
    let rest = own_rise (i + 1) fields in
    elim (cases_Bool (is_encrypted field.kind)) [
      | inl sure ↦ rw sure (rise_cons (λ (p : Pair). p.field) i (pair i i) (owned (i + 1) fields) refl rest)
      | inr failed ↦ rw failed (rise_later (λ (p : Pair). p.field) i (owned (i + 1) fields) rest)
    ]

whole_last : (fields : List Field) → AreLast fields 0 fields
whole_last fields n field h = let at : n ≡ 0 + n = omega arith in subst (λ m. slice_get fields m ≡ Some field) at h

are_pairs : (fields : List Field) (tokens : Option (List (List ℕ × Plain))) (pairs : List Pair) → pairs_of fields tokens ≡ Ok pairs → ArePairs fields pairs
are_pairs fields None pairs h =
    let e : owned 0 fields ≡ pairs = cc in
    let own = owned 0 fields in
    subst (ArePairs fields) e (record {
      each = All-from_recursion (IsPair fields) own (own_all fields 0 fields (whole_last fields));
      rise = (own_rise 0 fields).pairs;
    })
are_pairs fields (Some elements) pairs h =
    let g = gave (pair_slots_from fields (empty_slots fields) elements) _ pairs h in
    let last = g.then_is in
    let e : listed_from pair 0 g.value ≡ pairs = cc in
    let stand = slots_send fields elements (empty_slots fields) g.value (none_stand (Sends fields) fields) g.found in
    let all = listed_all (Sends fields) (IsPair fields) pair (λ n v at. at) 0 g.value stand in
    let rise = listed_rise (λ (p : Pair). p.field) pair (λ n v. refl) 0 g.value in
    subst (ArePairs fields) e (record { each = All-from_recursion (IsPair fields) (listed_from pair 0 g.value) all; rise = rise.pairs })

is_inserted : (fields : List Field) (elements : List (List ℕ × Plain)) (document : PlainDocument) → document_of fields elements ≡ Ok document → IsInserted fields document
is_inserted fields elements document h =
    let g = gave (cells_of false fields elements) _ document h in
    let id = gave (some_or f.NoId (value_named (codes "_id") elements)) _ document g.then_is in
    let last = id.then_is in
    let built : PlainDocument = record { id = id.value; cells = g.value } in
    let e : built ≡ document = cc in
    let slots = gave (slots_from false fields (empty_slots fields) elements) _ g.value g.found in
    subst (IsInserted fields) e (record {
      id = id_there false fields elements (empty_slots fields) slots.value id.value slots.found (there _ (value_named (codes "_id") elements) id.value id.found);
      cells = are_cells false fields elements g.value g.found;
    })

is_step : (fields : List Field) (job limit : ℕ) (command : PlainCommand) → step_of job limit ≡ Ok command → IsResolved fields command
is_step fields job limit command h =
    elim (cases_Bool (nat_le 1 limit && nat_le limit 65536)) [
      | inl sure ↦
          let made = rw sure at h in
          let e : c.Step job limit ≡ command = cc in
          let parts = and_parts _ _ sure in
          subst (IsResolved fields) e (leb-true _ _ parts.0, leb-true _ _ parts.1)
      | inr failed ↦ let made = rw failed at h in cc
    ]

is_raise : (fields : List Field) (path : List ℕ) (contention : ℕ) (command : PlainCommand) → raise_of fields path contention ≡ Ok command → IsResolved fields command
is_raise fields path contention command h =
    let g = gave (indexed fields path) (raise_to contention) command h in
    let last = g.then_is in
    let is = indexed_is fields path g.value g.found in
    elim (cases_Bool (nat_le contention (greatest_of g.value.1))) [
      | inl sure ↦
          let made = rw sure at last in
          let e : c.Raise g.value.0 contention ≡ command = cc in
          subst (IsResolved fields) e (of_field (IsRaisedTo contention) fields path g.value is.known_so (is.encrypted, leb-true _ _ sure))
      | inr failed ↦ let made = rw failed at last in cc
    ]

pub holds_what_is_allowed : HoldsWhatIsAllowed
unfolding resolved
holds_what_is_allowed fields (r.Insert doc) command h =
    let g = gave (document_of fields doc) _ command h in
    let last = g.then_is in
    let e : c.Insert g.value ≡ command = cc in
    subst (IsResolved fields) e (is_inserted fields doc g.value g.found)
holds_what_is_allowed fields (r.Find filter ids) command h =
    let g = gave (filter_terms fields filter) _ command h in
    let last = g.then_is in
    let e : c.Find g.value ids ≡ command = cc in
    subst (IsResolved fields) e (are_terms fields filter g.value g.found)
holds_what_is_allowed fields (r.Update filter set) command h =
    let g = gave (filter_terms fields filter) _ command h in
    let cells = gave (cells_of true fields set) _ command g.then_is in
    let last = cells.then_is in
    let e : c.Update g.value cells.value ≡ command = cc in
    subst (IsResolved fields) e (are_terms fields filter g.value g.found, are_cells true fields set cells.value cells.found)
holds_what_is_allowed fields (r.Delete filter) command h =
    let g = gave (filter_terms fields filter) _ command h in
    let last = g.then_is in
    let e : c.Delete g.value ≡ command = cc in
    subst (IsResolved fields) e (are_terms fields filter g.value g.found)
holds_what_is_allowed fields (r.Begin kind tokens) command h =
    let g = gave (pairs_of fields tokens) _ command h in
    let last = g.then_is in
    let e : c.Begin kind g.value ≡ command = cc in
    subst (IsResolved fields) e (are_pairs fields tokens g.value g.found)
holds_what_is_allowed fields (r.Step job limit) command h = is_step fields job limit command h
holds_what_is_allowed fields (r.End job) command h =
    let e : c.End job ≡ command = cc in
    subst (IsResolved fields) e tt
holds_what_is_allowed fields (r.Abandon job) command h =
    let e : c.Abandon job ≡ command = cc in
    subst (IsResolved fields) e tt
holds_what_is_allowed fields (r.Raise path contention) command h = is_raise fields path contention command h

-- .. as the call answers it
pub allowed_answer : (fields : List Field) (raw : RawCommand) (result : Result PlainCommand PlainFault) → Answers (λ it. it) plain_refusal result (resolved fields raw)
    → IfOk result (IsResolved fields)
allowed_answer fields raw (Ok command) h = holds_what_is_allowed fields raw command h
allowed_answer fields raw (Err fault) h = tt
