-- How a store is kept, no part of what it promises: what its parts hold, and what its private calls answer.
use Rattle.std.specs.Prelude.{◌≡◌, ◌↔◌, ℕ, ◌<◌, List, [], ◌∷◌, map, Option, None, Some, IsSomeAnd, bytes_eq, length, slice_index_or}
use Rattle.std.specs.List.{Contains, AllByRecursion}
use Rattle.std.specs.HashSet.{HashSet, contains}
use Rattle.qe_chains.specs.Pairs.{tags_of}
use Rattle.qe_value.specs.declared.value.Value.{Value}
use Rattle.qe_store.specs.declared.stored.Stored.{Stored}
use Rattle.qe_store.specs.declared.stored.TermSet.{TermSet}
use Rattle.qe_store.specs.IdHash.{key_of}
use Rattle.qe_store.specs.Kept.{document_at, has_tag, Meets}

-- an id isn't among some
abbrev pub NoneIs : Value → List Value → Type 0
NoneIs id ids = AllByRecursion (λ other. other ≡ id → ⊥) ids

-- no id stands twice
abbrev pub AreDistinct : List Value → Type 0
AreDistinct [] = Unit {0}
AreDistinct (id ∷ ids) = NoneIs id ids × AreDistinct ids

-- the ids of documents
abbrev pub ids_of : List (ℕ × Stored) → List Value
ids_of documents = map (λ d. d.1.id) documents

-- no document has the id
abbrev pub IsNew : Value → List (ℕ × Stored) → Type 0
IsNew id documents = NoneIs id (ids_of documents)

-- the numbers are above one, below one, or rise
abbrev pub Above : ℕ → List (ℕ × Stored) → Type 0
Above n documents = AllByRecursion (λ d. n < d.0) documents

abbrev pub Below : ℕ → List (ℕ × Stored) → Type 0
Below n documents = AllByRecursion (λ d. d.0 < n) documents

abbrev pub Rising : List (ℕ × Stored) → Type 0
Rising [] = Unit {0}
Rising (d ∷ documents) = Above d.0 documents × Rising documents

-- the tags of a document, if there is one
abbrev pub tags_in : Option Stored → List (List ℕ)
tags_in None = []
tags_in (Some stored) = stored.tags

-- a document's number with the key of its id, and with a tag
abbrev pub id_pair : ℕ × Stored → List ℕ × ℕ
id_pair d = (key_of d.1.id, d.0)

abbrev pub paired : ℕ → List ℕ → List ℕ × ℕ
paired number tag = (tag, number)

-- what holds of a store's parts: the pairs are those of its two chains
pub record Holds (documents : List (ℕ × Stored)) (made : ℕ) (id_pairs tag_pairs : List (List ℕ × ℕ)) : Type 0 where
  pub rising : Rising documents
  pub below : Below made documents
  pub distinct : AreDistinct (ids_of documents)
  pub ids : id_pairs ≡ map id_pair documents
  pub tags : (number : ℕ) → tags_of number tag_pairs ≡ tags_in (document_at number documents)

-- where the document with a number stands, if there is one
abbrev pub IsPlace : List (ℕ × Stored) → ℕ → Option ℕ → Type 0
IsPlace documents number None = document_at number documents ≡ None
IsPlace documents number (Some at) = (at < length documents) × ((d : ℕ × Stored) → (slice_index_or documents at d).0 ≡ number)

-- the number is that of a document that meets a condition
abbrev pub MeetsAt : List (ℕ × Stored) → TermSet → ℕ → Type 0
MeetsAt documents term number = IsSomeAnd (document_at number documents) (Meets term)

-- of some numbers, those of which a fact holds
abbrev pub AreThose : (ℕ → Type 0) → List ℕ → List ℕ → Type 0
AreThose P numbers those = (n : ℕ) → Contains those n ↔ (Contains numbers n × P n)

-- a set has the tags of a list
abbrev pub IsSetOf : {S : Type 0} → List (List ℕ) → HashSet (List ℕ) S → Type 0
IsSetOf tags set = (tag : List ℕ) → contains bytes_eq set tag ≡ has_tag tags tag
