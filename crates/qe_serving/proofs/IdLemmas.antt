-- Ids and conditions, decided.
use Rattle.std.proofs.Common.{◌≡◌, ◌≢◌, ℕ, Bool, true, false, cond, ◌&&◌, ◌||◌, List, [], ◌∷◌, Option, None, Some, IsSomeAnd, is_some, refl, sym, ◌∙◌, ap, subst, inl, inr, Decides, nat_eq}
use Rattle.std.specs.List.{AllByRecursion}
use Rattle.std.proofs.lemmas.Bool.{cases_Bool, false≢true}
use Rattle.std.proofs.lemmas.Bool.Decides.{Decides-int_eq}
use Rattle.std.proofs.lemmas.List.Elements.{All-from_recursion, recursion_from_All}
use Rattle.std.proofs.lemmas.Slice.Eq.{bytes_eq-Decides}
use Rattle.qe_value.specs.declared.value.Value.{Value}
use Rattle.qe_value.specs.declared.value.Value.TheVariants as v
use Rattle.qe_store.specs.declared.stored.Stored.{Stored}
use Rattle.qe_store.specs.declared.stored.TermSet.{TermSet}
use Rattle.qe_store.specs.declared.stored.TermSet.TheVariants as set
use Rattle.qe_store.specs.Kept.{document_at, HasId, IsNumberOf, Meets, MeetsAll}
use Rattle.qe_command_fits.specs.OfSchema.{IsIdValue}
use Rattle.qe_protocol.specs.Filters.{same_id, holds, matches}
use Rattle.qe_protocol.specs.Documents.{has_document}
use Rattle.qe_serving.specs.Serving.{docs_in}
use Rattle.qe_serving.specs.Documents.{HasIdValue}

differ : {A : Type 0} (b : Bool) → b ≡ true → b ≡ false → A
differ b t f = absurd (false≢true (sym f ∙ t))

from_decided : {P : Type 0} (b : Bool) → Decides b P → (P → ⊥) → b ≡ false
from_decided b decides not_so = elim (cases_Bool b) [ inl t ↦ absurd (not_so (decides.0 t)) | inr f ↦ f ]

-- two ids are the same where their types and their bytes are
pub same_id-Decides : (a b : Value) → IsIdValue b → Decides (same_id a b) (a ≡ b)
same_id-Decides (v.Int32 m) (v.Int32 n) is = (λ e. ap v.Int32 ((Decides-int_eq m n).0 e), λ (e : v.Int32 m ≡ v.Int32 n). (Decides-int_eq m n).1 (cc))
same_id-Decides (v.Int64 m) (v.Int64 n) is = (λ e. ap v.Int64 ((Decides-int_eq m n).0 e), λ (e : v.Int64 m ≡ v.Int64 n). (Decides-int_eq m n).1 (cc))
same_id-Decides (v.Str m) (v.Str n) is = (λ e. ap v.Str ((bytes_eq-Decides m n).0 e), λ (e : v.Str m ≡ v.Str n). (bytes_eq-Decides m n).1 (cc))
same_id-Decides (v.ObjectId m) (v.ObjectId n) is = (λ e. ap v.ObjectId ((bytes_eq-Decides m n).0 e), λ (e : v.ObjectId m ≡ v.ObjectId n). (bytes_eq-Decides m n).1 (cc))
same_id-Decides _ (v.Int32 n) is = (λ e. absurd (false≢true e), λ e. cc)
same_id-Decides _ (v.Int64 n) is = (λ e. absurd (false≢true e), λ e. cc)
same_id-Decides _ (v.Str n) is = (λ e. absurd (false≢true e), λ e. cc)
same_id-Decides _ (v.ObjectId n) is = (λ e. absurd (false≢true e), λ e. cc)
same_id-Decides _ _ is = absurd is

-- A DOCUMENT BY ITS ID

abbrev has_id : Value → List (ℕ × Stored) → Bool
has_id id documents = has_document id (docs_in documents)

none_has : (id : Value) → IsIdValue id → (documents : List (ℕ × Stored)) → AllByRecursion (λ d. d.1.id ≢ id) documents → has_id id documents ≡ false
none_has id is [] new = refl
none_has id is (d ∷ documents) new =
    ap (λ b. b || has_id id documents) (from_decided (same_id d.1.id id) (same_id-Decides d.1.id id is) new.0) ∙ none_has id is documents new.1

some_has : (id : Value) → IsIdValue id → (documents : List (ℕ × Stored)) (number : ℕ) → HasId documents id number → has_id id documents ≡ true
some_has id is [] number has = absurd has
some_has id is (d ∷ documents) number has = elim (cases_Bool (nat_eq number d.0)) [
  | inl t ↦
      let same : d.1.id ≡ id = subst (λ b. IsSomeAnd (cond b (Some d.1) (document_at number documents)) (λ (s : Stored). s.id ≡ id)) t has in
      ap (λ b. b || has_id id documents) ((same_id-Decides d.1.id id is).1 same)
  | inr f ↦
      let there : HasId documents id number = subst (λ b. IsSomeAnd (cond b (Some d.1) (document_at number documents)) (λ (s : Stored). s.id ≡ id)) f has in
      or_true (same_id d.1.id id) (has_id id documents) (some_has id is documents number there)
]
  where
    or_true : (a b : Bool) → b ≡ true → (a || b) ≡ true
    or_true true b e = refl
    or_true false b e = e

pub has_document-is : (id : Value) → IsIdValue id → (documents : List (ℕ × Stored)) (number : Option ℕ) → IsNumberOf documents id number
    → has_document id (docs_in documents) ≡ is_some number
has_document-is id is documents None new = none_has id is documents (recursion_from_All (λ (d : ℕ × Stored). d.1.id ≢ id) documents new)
has_document-is id is documents (Some number) there = some_has id is documents number ((there number).1 refl)

-- CONDITIONS

holds-Decides : (stored : Stored) (one : TermSet) → HasIdValue one → Decides (holds stored one) (Meets one stored)
holds-Decides stored (set.Id id) is = same_id-Decides stored.id id is
holds-Decides stored (set.Tags tags) is = (λ e. e, λ e. e)

abbrev MeetsEach : Stored → List TermSet → Type 0
MeetsEach stored sets = AllByRecursion (λ one. Meets one stored) sets

each-Decides : (stored : Stored) (sets : List TermSet) → AllByRecursion HasIdValue sets → Decides (matches sets stored) (MeetsEach stored sets)
each-Decides stored [] are = (λ e. tt, λ e. refl)
each-Decides stored (one ∷ sets) are =
    let first = holds-Decides stored one are.0 in
    let others = each-Decides stored sets are.1 in (
      (λ e. let parts = both (holds stored one) (matches sets stored) e in (first.0 parts.0, others.0 parts.1)),
      (λ each. ap (λ b. b && matches sets stored) (first.1 each.0) ∙ others.1 each.1),
    )
  where
    both : (a b : Bool) → (a && b) ≡ true → (a ≡ true) × (b ≡ true)
    both true b e = (refl, e)
    both false b e = absurd (false≢true e)

pub matches-Decides : (stored : Stored) (sets : List TermSet) → AllByRecursion HasIdValue sets → Decides (matches sets stored) (MeetsAll sets stored)
matches-Decides stored sets are =
    let each = each-Decides stored sets are in (
      (λ e. All-from_recursion (λ one. Meets one stored) sets (each.0 e)),
      (λ all. each.1 (recursion_from_All (λ one. Meets one stored) sets all)),
    )

-- whether there is a document, and it matches
abbrev pub some_matches : List TermSet → Option Stored → Bool
some_matches sets None = false
some_matches sets (Some stored) = matches sets stored

pub some_matches-Decides : (sets : List TermSet) → AllByRecursion HasIdValue sets → (found : Option Stored)
    → Decides (some_matches sets found) (IsSomeAnd found (MeetsAll sets))
some_matches-Decides sets are None = (λ e. absurd (false≢true e), λ e. absurd e)
some_matches-Decides sets are (Some stored) = matches-Decides stored sets are

-- whether the document of a number matches
abbrev pub meets : List (ℕ × Stored) → List TermSet → ℕ → Bool
meets documents sets number = some_matches sets (document_at number documents)
