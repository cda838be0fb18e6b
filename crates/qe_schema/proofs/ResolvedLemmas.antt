-- What a resolved filter holds.
use Rattle.std.proofs.Common.{◌≡◌, ℕ, suc, ◌+◌, ℤ, inl, inr, List, [], ◌∷◌, ◌++◌, Option, None, Some, refl, sym, ap, subst, ◌∙◌, arith}
use Rattle.std.specs.Prelude.{Result, Ok, bytes_eq, codes, slice_get, ◌==◌}
use Rattle.std.specs.List.{AllByRecursion, list_all}
use Rattle.std.proofs.lemmas.Bool.{cases_Bool, eqb-true}
use Rattle.std.proofs.lemmas.List.Elements.{All-from_recursion}
use Rattle.qe_value.specs.declared.value.Plain.{Plain}
use Rattle.qe_value.specs.declared.value.Plain.TheVariants as p
use Rattle.qe_value.specs.Views.{fields_of, items_of}
use Rattle.qe_value.specs.Types.{type_byte}
use Rattle.qe_value.proofs.PlainLemmas.{spelled-Int64}
use Rattle.qe_edges.specs.Rules.{Rules}
use Rattle.qe_plain.specs.declared.command.Term.{Term}
use Rattle.qe_plain.specs.declared.command.Term.TheVariants as t
use Rattle.qe_filter.specs.declared.fault.PlainFault.TheVariants as f
use Rattle.qe_field.specs.declared.field.Field.{Field}
use Rattle.qe_field.specs.declared.field.FieldKind.{FieldKind}
use Rattle.qe_field.specs.declared.field.FieldKind.TheVariants as k
use Rattle.qe_field.specs.Judgements.{some_or, gather}
use Rattle.qe_field.specs.Lookup.{known, known_from}
use Rattle.qe_field.specs.Names.{is_reserved}
use Rattle.qe_field.specs.Values.{is_id, kind_of}
use Rattle.qe_filter.specs.Typed.{typed, widened, number_of}
use Rattle.qe_filter.specs.Filters.{interval_of, end_of, between, equal_term, range_term, field_term, term_of, one_term, is_flat, flat_terms, member_terms, all_terms, and_terms, name_terms}
use Rattle.qe_schema.specs.Laws.{EndsAreTheGiven, TermsAreTheFields}
use Rattle.qe_schema.specs.Resolved.{OfField, IsEqualityOf, IsRange, IsTerm, IsEnd, IsInterval, ends_in}
use Rattle.qe_field.proofs.GaveLemmas.{gave, there, gather_all}

-- the field that was found
pub record Found (fields : List Field) (first : ℕ) (found : ℕ × FieldKind) : Type 0 where
  pub place : ℕ
  pub field : Field
  pub counted : found.0 ≡ first + place
  pub there : slice_get fields place ≡ Some field
  pub kind : field.kind ≡ found.1

pub found_from : (i : ℕ) (path : List ℕ) (fields : List Field) (found : ℕ × FieldKind) → known_from i path fields ≡ Some found → Found fields i found
found_from i path [] found h = cc
found_from i path (field ∷ fields) found h =
    elim (cases_Bool (bytes_eq path field.path)) [
      | inl sure ↦
          let g = rw sure at h in
          let e : (i, field.kind) ≡ found = cc in
          subst (Found (field ∷ fields) i) e (record { place = 0; field = field; counted = omega arith; there = refl; kind = refl })
      | inr failed ↦
          let g = rw failed at h in
          let rest = found_from (i + 1) path fields found g in
          record { place = suc rest.place; field = rest.field; counted = let n = rest.counted in omega arith; there = rest.there; kind = rest.kind }
    ]

-- the field of the number that was found
pub of_field : (Allows : FieldKind → Type 0) (fields : List Field) (path : List ℕ) (found : ℕ × FieldKind) → known fields path ≡ Some found
    → Allows found.1 → OfField fields found.0 Allows
of_field Allows fields path found h allows =
    let it = found_from 0 path fields found h in
    let at : found.0 ≡ it.place = let n = it.counted in omega arith in
    record { field = it.field; there = subst (λ (n : ℕ). slice_get fields n ≡ Some it.field) (sym at) it.there; allows = subst Allows (sym it.kind) allows }

long_kind : (z : ℤ) → kind_of (p.Int64 z) ≡ 0x12
long_kind z = ap (λ s. type_byte s.kind) (spelled-Int64 z)

widened_kind : (kind : ℕ) (value v : Plain) → widened kind value ≡ Some v → kind_of v ≡ kind
widened_kind kind (p.Int32 z) v h =
    elim (cases_Bool (kind == 0x12)) [
      | inl sure ↦
          let g = rw sure at h in
          let e : p.Int64 z ≡ v = cc in
          subst (λ (w : Plain). kind_of w ≡ kind) e (long_kind z ∙ sym (eqb-true _ _ sure))
      | inr failed ↦ let g = rw failed at h in cc
    ]
widened_kind kind _ v h = cc

-- a typed value has the type
pub typed_kind : (kind : ℕ) (value v : Plain) → typed kind value ≡ Some v → kind_of v ≡ kind
typed_kind kind value v h =
    elim (cases_Bool (kind_of value == kind)) [
      | inl sure ↦
          let g = rw sure at h in
          let e : value ≡ v = cc in
          subst (λ (w : Plain). kind_of w ≡ kind) e (eqb-true _ _ sure)
      | inr failed ↦ let g = rw failed at h in widened_kind kind value v g
    ]

equal_is : (fields : List Field) (name path : List ℕ) (i type contention greatest : ℕ) (id : List ℕ) (value : Plain) (o : Option (List (List ℕ × Plain))) (term : Term)
    → known fields path ≡ Some (i, k.Equality id type contention greatest) → equal_term name i type value o ≡ Ok term → IsTerm fields term
equal_is fields name path i type contention greatest id value None term found h =
    let g = gave (some_or (f.TypeDiffers name) (typed type value)) _ term h in
    let last = g.then_is in
    let e : t.Equal i g.value ≡ term = cc in
    let has = typed_kind type value g.value (there _ (typed type value) g.value g.found) in
    subst (IsTerm fields) e (of_field (IsEqualityOf g.value) fields path (i, k.Equality id type contention greatest) found has)
equal_is fields name path i type contention greatest id value (Some elements) term found h = cc

range_is : (fields : List Field) (name path : List ℕ) (i type contention greatest : ℕ) (id : List ℕ) (domain : Rules) (value : Plain) (o : Option (List (List ℕ × Plain))) (term : Term)
    → known fields path ≡ Some (i, k.Range id type contention greatest domain) → range_term name i type domain value o ≡ Ok term → IsTerm fields term
range_is fields name path i type contention greatest id domain value None term found h =
    let g = gave (some_or (f.TypeDiffers name) (number_of type value)) _ term h in
    let last = g.then_is in
    let e : t.Between i g.value g.value ≡ term = cc in
    subst (IsTerm fields) e (of_field IsRange fields path (i, k.Range id type contention greatest domain) found tt)
range_is fields name path i type contention greatest id domain value (Some elements) term found h =
    let g = gave (some_or (f.BadFilter name) (interval_of elements)) (between name i type domain) term h in
    let low = gave (end_of name type domain.min g.value.0) _ term g.then_is in
    let high = gave (end_of name type domain.max g.value.1) _ term low.then_is in
    let last = high.then_is in
    let e : t.Between i low.value high.value ≡ term = cc in
    subst (IsTerm fields) e (of_field IsRange fields path (i, k.Range id type contention greatest domain) found tt)

field_is : (fields : List Field) (name path : List ℕ) (value : Plain) (i : ℕ) (kind : FieldKind) (term : Term)
    → known fields path ≡ Some (i, kind) → field_term name value (i, kind) ≡ Ok term → IsTerm fields term
field_is fields name path value i k.Plain term found h = cc
field_is fields name path value i (k.Equality id type contention greatest) term found h =
    equal_is fields name path i type contention greatest id value (fields_of value) term found h
field_is fields name path value i (k.Range id type contention greatest domain) term found h =
    range_is fields name path i type contention greatest id domain value (fields_of value) term found h

term_is : (fields : List Field) (name : List ℕ) (value : Plain) (term : Term) → term_of fields name value ≡ Ok term → IsTerm fields term
term_is fields name value term h =
    elim (cases_Bool (is_reserved name)) [
      | inl sure ↦ let g = rw sure at h in cc
      | inr failed ↦
          let g = rw failed at h in
          elim (cases_Bool (bytes_eq name (codes "_id"))) [
            | inl is_named_id ↦
                let k = rw is_named_id at g in
                elim (cases_Bool (is_id value)) [
                  | inl good ↦
                      let last = rw good at k in
                      let e : t.Id value ≡ term = cc in
                      subst (IsTerm fields) e good
                  | inr bad ↦ let last = rw bad at k in cc
                ]
            | inr other ↦
                let k = rw other at g in
                let known_so = gave (some_or (f.UnknownField name) (known fields name)) (field_term name value) term k in
                field_is fields name name value known_so.value.0 known_so.value.1 term (there _ (known fields name) known_so.value known_so.found) known_so.then_is
          ]
    ]

one_is : (fields : List Field) (element : List ℕ × Plain) (terms : List Term) → one_term fields element ≡ Ok terms → AllByRecursion (IsTerm fields) terms
unfolding one_term
one_is fields element terms h =
    let g = gave (term_of fields element.0 element.1) _ terms h in
    let last = g.then_is in
    let e : g.value ∷ [] ≡ terms = cc in
    subst (AllByRecursion (IsTerm fields)) e (term_is fields element.0 element.1 g.value g.found, tt)

member_is : (fields : List Field) (member : Plain) (terms : List Term) → member_terms fields member ≡ Ok terms → AllByRecursion (IsTerm fields) terms
member_is fields member terms h =
    let g = gave (some_or (f.BadFilter (codes "$and")) (fields_of member)) (flat_terms fields) terms h in
    gather_all (IsTerm fields) (one_term fields) (one_is fields) g.value terms g.then_is

and_is : (fields : List Field) (value : Plain) (terms : List Term) → and_terms fields value ≡ Ok terms → AllByRecursion (IsTerm fields) terms
and_is fields value terms h =
    let g = gave (some_or (f.BadFilter (codes "$and")) (items_of value)) (all_terms fields) terms h in
    let last = g.then_is in
    elim (cases_Bool (list_all is_flat g.value)) [
      | inl flat ↦ let all = rw flat at last in gather_all (IsTerm fields) (member_terms fields) (member_is fields) g.value terms all
      | inr bad ↦ let all = rw bad at last in cc
    ]

name_is : (fields : List Field) (element : List ℕ × Plain) (terms : List Term) → name_terms fields element ≡ Ok terms → AllByRecursion (IsTerm fields) terms
unfolding name_terms
name_is fields element terms h =
    elim (cases_Bool (bytes_eq element.0 (codes "$and"))) [
      | inl sure ↦ let g = rw sure at h in and_is fields element.1 terms g
      | inr failed ↦ let g = rw failed at h in one_is fields element terms g
    ]

pub are_terms : TermsAreTheFields
are_terms fields elements terms h =
    All-from_recursion (IsTerm fields) terms (gather_all (IsTerm fields) (name_terms fields) (name_is fields) elements terms h)

end_is : (name : List ℕ) (kind : ℕ) (missing : ℤ) (given : Option Plain) (z : ℤ) → end_of name kind missing given ≡ Ok z → IsEnd kind missing given z
end_is name kind missing None z h = let e : missing ≡ z = cc in sym e
end_is name kind missing (Some value) z h = there _ (number_of kind value) z h

ends_are : (name : List ℕ) (value : Plain) (o : Option (List (List ℕ × Plain))) (i kind : ℕ) (domain : Rules) (term : Term)
    → range_term name i kind domain value o ≡ Ok term → IsInterval i kind domain (ends_in value o) term
ends_are name value None i kind domain term h =
    let g = gave (some_or (f.TypeDiffers name) (number_of kind value)) _ term h in
    let last = g.then_is in
    let e : t.Between i g.value g.value ≡ term = cc in
    let is = there _ (number_of kind value) g.value g.found in
    record { ends = (Some value, Some value); there = refl; lo = g.value; hi = g.value; is = sym e; low = is; high = is }
ends_are name value (Some elements) i kind domain term h =
    let g = gave (some_or (f.BadFilter name) (interval_of elements)) (between name i kind domain) term h in
    let low = gave (end_of name kind domain.min g.value.0) _ term g.then_is in
    let high = gave (end_of name kind domain.max g.value.1) _ term low.then_is in
    let last = high.then_is in
    let e : t.Between i low.value high.value ≡ term = cc in
    record {
      ends = g.value;
      there = there _ (interval_of elements) g.value g.found;
      lo = low.value;
      hi = high.value;
      is = sym e;
      low = end_is name kind domain.min g.value.0 low.value low.found;
      high = end_is name kind domain.max g.value.1 high.value high.found;
    }

pub ends_are_given : EndsAreTheGiven
ends_are_given name id value i kind contention greatest domain term h = ends_are name value (fields_of value) i kind domain term h
