-- Numbered documents, and which of them meet conditions.
use Rattle.std.specs.Prelude.{◌≡◌, ◌≢◌, ◌↔◌, ℕ, ◌==◌, not, cond, Bool, true, List, filter, map, Option, None, Some, IsSomeAnd, bytes_eq}
use Rattle.std.specs.List.{list_any, All}
use Rattle.std.specs.Map.{lookup}
use Rattle.qe_value.specs.declared.value.Value.{Value}
use Rattle.qe_store.specs.declared.stored.Stored.{Stored}
use Rattle.qe_store.specs.declared.stored.TermSet.{TermSet}
use Rattle.qe_store.specs.declared.stored.TermSet.TheVariants.{Id, Tags}

-- what contracts see of a store: its numbered documents in the order of insertion, how many were ever inserted, and for how many more documents and tags there is room
pub record Kept : Type 0 where
  pub documents : List (ℕ × Stored)
  pub made : ℕ
  pub room : ℕ
  pub tag_room : ℕ

-- the document with a number
abbrev pub document_at : ℕ → List (ℕ × Stored) → Option Stored
document_at number documents = lookup (λ n. number == n) documents

-- the documents without the one of a number
abbrev pub without : ℕ → List (ℕ × Stored) → List (ℕ × Stored)
without number documents = filter (λ d. not (number == d.0)) documents

-- the documents with another in place of the one of a number
abbrev pub with_new : ℕ → Stored → List (ℕ × Stored) → List (ℕ × Stored)
with_new number stored documents = map (λ d. cond (number == d.0) (d.0, stored) d) documents

-- no document has the id
abbrev pub IsNewId : Value → List (ℕ × Stored) → Type 0
IsNewId id documents = All (λ d. d.1.id ≢ id) documents

-- the document with a number has the id
abbrev pub HasId : List (ℕ × Stored) → Value → ℕ → Type 0
HasId documents id number = IsSomeAnd (document_at number documents) (λ stored. stored.id ≡ id)

-- the number of the one document that has the id, or none where no document has it
abbrev pub IsNumberOf : List (ℕ × Stored) → Value → Option ℕ → Type 0
IsNumberOf documents id None = IsNewId id documents
IsNumberOf documents id (Some number) = (other : ℕ) → HasId documents id other ↔ (other ≡ number)

-- a tag is among some
abbrev pub has_tag : List (List ℕ) → List ℕ → Bool
has_tag tags tag = list_any (bytes_eq tag) tags

-- the document meets a condition: it has the id, or one of its tags is among these
abbrev pub Meets : TermSet → Stored → Type 0
Meets (Id id) stored = stored.id ≡ id
Meets (Tags tags) stored = list_any (has_tag tags) stored.tags ≡ true

-- and all of a list
abbrev pub MeetsAll : List TermSet → Stored → Type 0
MeetsAll terms stored = All (λ term. Meets term stored) terms

-- the number is that of a document that meets all of a list
abbrev pub IsMatch : List (ℕ × Stored) → List TermSet → ℕ → Type 0
IsMatch documents terms number = IsSomeAnd (document_at number documents) (MeetsAll terms)
