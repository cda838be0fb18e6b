-- The command of a line brings no value without a form.
use Rattle.std.proofs.Common.{◌≡◌, ℕ, inl, inr, List, [], ◌∷◌, Bool, true, false, ◌||◌, ◌==◌, Option, None, Some, refl, sym, ap, subst, ◌∙◌}
use Rattle.std.proofs.lemmas.Bool.{cases_Bool, or_parts}
use Rattle.std.proofs.lemmas.List.Elements.{All-from_recursion}
use Rattle.std.proofs.lemmas.List.Folds.{list_any_none}
use Rattle.std.specs.List.{list_any}
use Rattle.std.specs.Result.{result_ok}
use Rattle.std.specs.Prelude.{IfSome, Result, Ok, Err, bytes_eq, codes, nat_le, ◌&&◌}
use Rattle.serde_json.specs.Data.{Members}
use Rattle.qe_value.specs.declared.value.Plain.{Plain, out-Plain, roll-Plain}
use Rattle.qe_value.specs.declared.value.Plain.TheOpen.{Plain-F}
use Rattle.qe_value.specs.declared.value.Plain.TheVariants as p
use Rattle.qe_value.specs.Limits.{most_levels}
use Rattle.qe_value.specs.Names.{value_named}
use Rattle.qe_value.specs.Views.{fields_open, fields_of}
use Rattle.qe_value.proofs.PlainLemmas.{out-Doc, rolled}
use Rattle.qe_bson.specs.JsonReading.{value_of_json}
use Rattle.qe_field.specs.declared.field.Field.{Field}
use Rattle.qe_field.specs.declared.field.FieldKind.{FieldKind}
use Rattle.qe_field.specs.declared.field.FieldKind.TheVariants as k
use Rattle.qe_field.specs.Judgements.{some_or}
use Rattle.qe_field.specs.Lookup.{known, greatest_of}
use Rattle.qe_field.specs.Values.{is_id, kind_of, lies_in, number_in}
use Rattle.qe_field.proofs.GaveLemmas.{gave, there, found}
use Rattle.qe_plain.specs.declared.command.PlainCell.{PlainCell}
use Rattle.qe_plain.specs.declared.command.PlainCommand.{PlainCommand}
use Rattle.qe_plain.specs.declared.command.PlainCommand.TheVariants as c
use Rattle.qe_plain.specs.declared.command.PlainDocument.{PlainDocument}
use Rattle.qe_plain.specs.declared.command.RawCommand.{RawCommand}
use Rattle.qe_plain.specs.declared.command.RawCommand.TheVariants as r
use Rattle.qe_filter.specs.declared.fault.PlainFault.TheVariants as f
use Rattle.qe_schema.specs.Cells.{within, kept_value, field_cell, is_refused, name_cell, slots_from, cell, cells_of}
use Rattle.qe_schema.specs.Filters.{filter_terms}
use Rattle.qe_schema.specs.Indexed.{indexed}
use Rattle.qe_schema.specs.Pairs.{pairs_of}
use Rattle.qe_schema.specs.Resolve.{resolved, document_of, step_of, raise_to}
use Rattle.qe_schema.specs.Slots.{put, empty_slots, listed_from}
use Rattle.qe_schema.specs.Typed.{typed, widened}
use Rattle.qe_schema.proofs.SlotLemmas.{Stand, none_stand, put_stand, listed_all}
use Rattle.qe_raw.specs.declared.verb.Verb.{Verb}
use Rattle.qe_raw.specs.declared.verb.Verb.TheVariants as v
use Rattle.qe_raw.specs.Raw.{command_in}
use Rattle.qe_raw.specs.Values as raw
use Rattle.qe_bson.proofs.JsonFormedLemmas.{Formed, HaveForms, formless-Doc, formless-Int64, value_formed}
use Rattle.qe_texts.specs.Unprintable.{brings_formless, is_formless_cell}

-- the values that a raw command brings have forms
abbrev pub RawForms : RawCommand → Type 0
RawForms (r.Insert doc) = HaveForms doc
RawForms (r.Update filter set) = HaveForms set
RawForms _ = Unit {0}

-- a document is what its fields make
document_is : (value : Plain) (fields : List (List ℕ × Plain)) → fields_of value ≡ Some fields → p.Doc fields ≡ value
unfolding fields_of
document_is value fields h =
    sym (rolled (p.Doc fields)) ∙ ap roll-Plain (out-Doc fields ∙ sym (by_open (out-Plain value) refl h)) ∙ rolled value
  where
    by_open : (y : Plain-F Plain) → out-Plain value ≡ y → fields_open y ≡ Some fields → out-Plain value ≡ Plain-F.Doc fields
    by_open (Plain-F.Doc fs) is e = let same : fs ≡ fields = cc in is ∙ ap (λ z. Plain-F.Doc z) same
    by_open _ is e = cc

document_formed : (value : Plain) (fields : List (List ℕ × Plain)) → fields_of value ≡ Some fields → Formed value → HaveForms fields
document_formed value fields is formed = sym (formless-Doc fields) ∙ subst Formed (sym (document_is value fields is)) formed

ok_is : {A E : Type 0} (answer : Result A E) (x : A) → result_ok answer ≡ Some x → answer ≡ Ok x
ok_is (Ok y) x h = cc
ok_is (Err fault) x h = cc

given_formed : (name : List ℕ) (ms : Members) (fields : List (List ℕ × Plain)) → raw.needed_document name ms ≡ Ok fields → HaveForms fields
given_formed name ms fields h =
    let g = gave (raw.needed name ms) (raw.document_at name) fields h in
    let read = found fields_of (raw.value_if_any g.value) fields (there _ (raw.document_of g.value) fields g.then_is) in
    document_formed read.value fields read.then_is (value_formed g.value most_levels read.value (ok_is (value_of_json g.value) read.value read.is))

pub raw_formed : (verb : Verb) (ms : Members) (command : RawCommand) → command_in verb ms ≡ Ok command → RawForms command
raw_formed v.Insert ms command h =
    let doc = gave (raw.needed_document (codes "doc") ms) _ command h in
    let last = doc.then_is in
    let e : r.Insert doc.value ≡ command = cc in subst RawForms e (given_formed (codes "doc") ms doc.value doc.found)
raw_formed v.Find ms command h =
    let filter = gave (raw.searched ms) _ command h in
    let last = filter.then_is in
    let e : r.Find filter.value false ≡ command = cc in subst RawForms e tt
raw_formed v.Ids ms command h =
    let filter = gave (raw.searched ms) _ command h in
    let last = filter.then_is in
    let e : r.Find filter.value true ≡ command = cc in subst RawForms e tt
raw_formed v.Update ms command h =
    let filter = gave (raw.needed_document (codes "filter") ms) _ command h in
    let set = gave (raw.needed_document (codes "set") ms) _ command filter.then_is in
    let last = set.then_is in
    let e : r.Update filter.value set.value ≡ command = cc in subst RawForms e (given_formed (codes "set") ms set.value set.found)
raw_formed v.Delete ms command h =
    let filter = gave (raw.needed_document (codes "filter") ms) _ command h in
    let last = filter.then_is in
    let e : r.Delete filter.value ≡ command = cc in subst RawForms e tt
raw_formed v.Begin ms command h =
    let kind = gave (raw.kind_in ms) _ command h in
    let tokens = gave (raw.optional_document (codes "tokens") ms) _ command kind.then_is in
    let last = tokens.then_is in
    let e : r.Begin kind.value tokens.value ≡ command = cc in subst RawForms e tt
raw_formed v.Step ms command h =
    let job = gave (raw.needed_whole (codes "job") ms) _ command h in
    let limit = gave (raw.limit_in ms) _ command job.then_is in
    let last = limit.then_is in
    let e : r.Step job.value limit.value ≡ command = cc in subst RawForms e tt
raw_formed v.End ms command h =
    let job = gave (raw.needed_whole (codes "job") ms) _ command h in
    let last = job.then_is in
    let e : r.End job.value ≡ command = cc in subst RawForms e tt
raw_formed v.Abandon ms command h =
    let job = gave (raw.needed_whole (codes "job") ms) _ command h in
    let last = job.then_is in
    let e : r.Abandon job.value ≡ command = cc in subst RawForms e tt
raw_formed v.Raise ms command h =
    let field = gave (raw.field_in ms) _ command h in
    let contention = gave (raw.needed_whole (codes "contention") ms) _ command field.then_is in
    let last = contention.then_is in
    let e : r.Raise field.value contention.value ≡ command = cc in subst RawForms e tt

widened_formed : (kind : ℕ) (value v : Plain) → widened kind value ≡ Some v → Formed v
widened_formed kind (p.Int32 z) v h =
    elim (cases_Bool (kind == 0x12)) [
      | inl sure ↦
          let g = rw sure at h in
          let e : p.Int64 z ≡ v = cc in
          subst Formed e (formless-Int64 z)
      | inr failed ↦ let g = rw failed at h in cc
    ]
widened_formed kind _ v h = cc

typed_formed : (kind : ℕ) (value v : Plain) → Formed value → typed kind value ≡ Some v → Formed v
typed_formed kind value v is h =
    elim (cases_Bool (kind_of value == kind)) [
      | inl sure ↦
          let g = rw sure at h in
          let e : value ≡ v = cc in
          subst Formed e is
      | inr failed ↦ let g = rw failed at h in widened_formed kind value v g
    ]

kept_formed : (name : List ℕ) (kind : FieldKind) (value v : Plain) → Formed value → kept_value name kind value ≡ Ok v → Formed v
kept_formed name k.Plain value v is h = let e : value ≡ v = cc in subst Formed e is
kept_formed name (k.Equality id type contention greatest) value v is h = typed_formed type value v is (there _ (typed type value) v h)
kept_formed name (k.Range id type contention greatest domain) value v is h =
    let g = gave (some_or (f.TypeDiffers name) (typed type value)) (within name domain) v h in
    let has = typed_formed type value g.value is (there _ (typed type value) g.value g.found) in
    let last = g.then_is in
    elim (cases_Bool (lies_in domain.min domain.max (number_in g.value))) [
      | inl sure ↦
          let made = rw sure at last in
          let e : g.value ≡ v = cc in
          subst Formed e has
      | inr failed ↦ let made = rw failed at last in cc
    ]

-- a value with the number of its field
abbrev FormedAt : ℕ × Plain → Type 0
FormedAt placed = Formed placed.1

abbrev Stands : ℕ → Plain → Type 0
Stands i value = Formed value

placed_formed : (i : ℕ) (v : Plain) (placed : Option (ℕ × Plain)) → Formed v → Some (i, v) ≡ placed → IfSome placed FormedAt
placed_formed i v None is e = cc
placed_formed i v (Some other) is e = let same : v ≡ other.1 = cc in subst Formed same is

name_formed : (in_set : Bool) (fields : List Field) (element : List ℕ × Plain) (placed : Option (ℕ × Plain)) → Formed element.1
    → name_cell in_set fields element ≡ Ok placed → IfSome placed FormedAt
name_formed in_set fields element placed is h =
    elim (cases_Bool (is_refused in_set element.0)) [
      | inl sure ↦ let g = rw sure at h in cc
      | inr failed ↦
          let g = rw failed at h in
          elim (cases_Bool (bytes_eq element.0 (codes "_id"))) [
            | inl is_named_id ↦
                let m = rw is_named_id at g in
                elim (cases_Bool (is_id element.1)) [
                  | inl good ↦
                      let last = rw good at m in
                      let e : None ≡ placed = cc in
                      subst (λ p. IfSome p FormedAt) e tt
                  | inr bad ↦ let last = rw bad at m in cc
                ]
            | inr other ↦
                let m = rw other at g in
                let place = gave (some_or (f.UnknownField element.0) (known fields element.0)) (field_cell element.0 element.1) placed m in
                let valued = gave (kept_value element.0 place.value.1 element.1) _ placed place.then_is in
                let last = valued.then_is in
                let e : Some (place.value.0, valued.value) ≡ placed = cc in
                placed_formed place.value.0 valued.value placed (kept_formed element.0 place.value.1 element.1 valued.value is valued.found) e
          ]
    ]

slots_formed : (in_set : Bool) (fields : List Field) (elements : List (List ℕ × Plain)) (slots made : List (Option Plain)) → HaveForms elements
    → Stand Stands 0 slots → slots_from in_set fields slots elements ≡ Ok made → Stand Stands 0 made
slots_formed in_set fields [] slots made all stand h =
    let e : slots ≡ made = cc in
    subst (Stand Stands 0) e stand
slots_formed in_set fields (element ∷ elements) slots made all stand h =
    let parts = or_parts _ _ all in
    let g = gave (name_cell in_set fields element) _ made h in
    let new = name_formed in_set fields element g.value parts.0 g.found in
    slots_formed in_set fields elements (put g.value slots) made parts.1 (put_stand Stands g.value slots new stand) g.then_is

abbrev PrintedCell : PlainCell → Type 0
PrintedCell cell = is_formless_cell cell ≡ false

cells_formed : (in_set : Bool) (fields : List Field) (elements : List (List ℕ × Plain)) (cells : List PlainCell) → HaveForms elements
    → cells_of in_set fields elements ≡ Ok cells → list_any is_formless_cell cells ≡ false
cells_formed in_set fields elements cells all h =
    let g = gave (slots_from in_set fields (empty_slots fields) elements) _ cells h in
    let last = g.then_is in
    let e : listed_from cell 0 g.value ≡ cells = cc in
    let stand = slots_formed in_set fields elements (empty_slots fields) g.value all (none_stand Stands fields) g.found in
    let each = listed_all Stands PrintedCell cell (λ n v is. is) 0 g.value stand in
    let made = listed_from cell 0 g.value in
    subst (λ (cs : List PlainCell). list_any is_formless_cell cs ≡ false) e (list_any_none is_formless_cell made (All-from_recursion PrintedCell made each))

id_formed : (name : List ℕ) (elements : List (List ℕ × Plain)) (id : Plain) → HaveForms elements → value_named name elements ≡ Some id → Formed id
id_formed name [] id all h = cc
id_formed name (element ∷ elements) id all h =
    let parts : Formed element.1 × HaveForms elements = or_parts _ _ all in
    elim (cases_Bool (bytes_eq name element.0)) [
      | inl sure ↦
          let found = rw sure at h in
          let e : element.1 ≡ id = cc in
          subst Formed e parts.0
      | inr failed ↦ id_formed name elements id parts.1 (rw failed at h)
    ]

abbrev Brings : PlainCommand → Type 0
Brings command = brings_formless command ≡ false

insert_brings : (fields : List Field) (elements : List (List ℕ × Plain)) (document : PlainDocument) → HaveForms elements
    → document_of fields elements ≡ Ok document → Brings (c.Insert document)
insert_brings fields elements document all h =
    let cells = gave (cells_of false fields elements) _ document h in
    let id = gave (some_or f.NoId (value_named (codes "_id") elements)) _ document cells.then_is in
    let last = id.then_is in
    let built : PlainDocument = record { id = id.value; cells = cells.value } in
    let e : built ≡ document = cc in
    let is = id_formed (codes "_id") elements id.value all (there _ (value_named (codes "_id") elements) id.value id.found) in
    let rest = cells_formed false fields elements cells.value all cells.found in
    subst (λ (d : PlainDocument). Brings (c.Insert d)) e (rw (is, rest) refl)

step_brings : (job limit : ℕ) (command : PlainCommand) → step_of job limit ≡ Ok command → Brings command
step_brings job limit command h =
    elim (cases_Bool (nat_le 1 limit && nat_le limit 65536)) [
      | inl sure ↦
          let made = rw sure at h in
          let e : c.Step job limit ≡ command = cc in
          subst Brings e refl
      | inr failed ↦ let made = rw failed at h in cc
    ]

raise_brings : (contention : ℕ) (found : ℕ × FieldKind) (command : PlainCommand) → raise_to contention found ≡ Ok command → Brings command
raise_brings contention found command h =
    elim (cases_Bool (nat_le contention (greatest_of found.1))) [
      | inl sure ↦
          let made = rw sure at h in
          let e : c.Raise found.0 contention ≡ command = cc in
          subst Brings e refl
      | inr failed ↦ let made = rw failed at h in cc
    ]

pub resolved_brings : (fields : List Field) (command : RawCommand) (meant : PlainCommand) → RawForms command → resolved fields command ≡ Ok meant → Brings meant
unfolding resolved
resolved_brings fields (r.Insert doc) meant all h =
    let document = gave (document_of fields doc) _ meant h in
    let last = document.then_is in
    let e : c.Insert document.value ≡ meant = cc in
    subst Brings e (insert_brings fields doc document.value all document.found)
resolved_brings fields (r.Find filter ids) meant all h =
    let terms = gave (filter_terms fields filter) _ meant h in
    let last = terms.then_is in
    let e : c.Find terms.value ids ≡ meant = cc in subst Brings e refl
resolved_brings fields (r.Update filter set) meant all h =
    let terms = gave (filter_terms fields filter) _ meant h in
    let cells = gave (cells_of true fields set) _ meant terms.then_is in
    let last = cells.then_is in
    let e : c.Update terms.value cells.value ≡ meant = cc in
    subst Brings e (cells_formed true fields set cells.value all cells.found)
resolved_brings fields (r.Delete filter) meant all h =
    let terms = gave (filter_terms fields filter) _ meant h in
    let last = terms.then_is in
    let e : c.Delete terms.value ≡ meant = cc in subst Brings e refl
resolved_brings fields (r.Begin kind tokens) meant all h =
    let pairs = gave (pairs_of fields tokens) _ meant h in
    let last = pairs.then_is in
    let e : c.Begin kind pairs.value ≡ meant = cc in subst Brings e refl
resolved_brings fields (r.Step job limit) meant all h = step_brings job limit meant h
resolved_brings fields (r.End job) meant all h = let e : c.End job ≡ meant = cc in subst Brings e refl
resolved_brings fields (r.Abandon job) meant all h = let e : c.Abandon job ≡ meant = cc in subst Brings e refl
resolved_brings fields (r.Raise path contention) meant all h =
    let found = gave (indexed fields path) (raise_to contention) meant h in
    raise_brings contention found.value meant found.then_is
