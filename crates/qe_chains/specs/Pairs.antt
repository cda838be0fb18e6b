-- Pairs of a tag and a document's number, in the order of linking.
use Rattle.std.specs.Prelude.{ℕ, ◌==◌, not, List, filter, map, bytes_eq}

-- what contracts see of chains: the pairs, how many nodes there are, and for how many more pairs there is room
pub record Listed : Type 0 where
  pub pairs : List (List ℕ × ℕ)
  pub nodes : ℕ
  pub room : ℕ

-- the pairs with a tag, and their documents
abbrev pub with_the_tag : List ℕ → List (List ℕ × ℕ) → List (List ℕ × ℕ)
with_the_tag tag pairs = filter (λ p. bytes_eq tag p.0) pairs

abbrev pub documents_with : List ℕ → List (List ℕ × ℕ) → List ℕ
documents_with tag pairs = map (λ p. p.1) (with_the_tag tag pairs)

-- the pairs of a document, and their tags
abbrev pub of_document : ℕ → List (List ℕ × ℕ) → List (List ℕ × ℕ)
of_document doc pairs = filter (λ p. doc == p.1) pairs

abbrev pub tags_of : ℕ → List (List ℕ × ℕ) → List (List ℕ)
tags_of doc pairs = map (λ p. p.0) (of_document doc pairs)

-- the pairs of the other documents
abbrev pub of_others : ℕ → List (List ℕ × ℕ) → List (List ℕ × ℕ)
of_others doc pairs = filter (λ p. not (doc == p.1)) pairs
