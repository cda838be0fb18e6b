-- Which documents a filter matches: by their ids, and by their tags. The searches go by term, edge and factor.
use Rattle.std.specs.Prelude.{ℕ, zero, suc, ◌+◌, List, [], ◌∷◌, ◌++◌, length, drop, nat_abs, Bool, false, bytes_eq}
use Rattle.std.specs.Ordering.{int_eq}
use Rattle.std.specs.List.{list_all, list_any}
use Rattle.qe_base.specs.declared.maintenance.Count.{Count}
use Rattle.qe_value.specs.declared.value.Value.{Value}
use Rattle.qe_value.specs.declared.value.Value.TheVariants as v
use Rattle.qe_tokens.specs.Tokens.{esc_contention_of, edc_contention_of, edc_twice_of, document_tag_of}
use Rattle.qe_esc.specs.Rows.{Rows}
use Rattle.qe_parts.specs.declared.edges.FindEdge.{FindEdge}
use Rattle.qe_store.specs.declared.stored.Stored.{Stored}
use Rattle.qe_store.specs.declared.stored.TermSet.{TermSet}
use Rattle.qe_store.specs.declared.stored.TermSet.TheVariants as set
use Rattle.qe_store.specs.Kept.{has_tag}
use Rattle.qe_command.specs.declared.filter.SentTerm.{SentTerm}
use Rattle.qe_command.specs.declared.filter.SentTerm.TheVariants as t
use Rattle.qe_protocol.specs.Counting.{IsCounted, counted}

-- an id is an int32, an int64, a string or an object id; two are the same where their types and their bytes are
abbrev pub same_id : Value → Value → Bool
same_id (v.Int32 a) (v.Int32 b) = int_eq a b
same_id (v.Int64 a) (v.Int64 b) = int_eq a b
same_id (v.Str a) (v.Str b) = bytes_eq a b
same_id (v.ObjectId a) (v.ObjectId b) = bytes_eq a b
same_id _ _ = false

-- a search: the token of its rows, and the key of the tags that it gives
pub record Search : Type 0 where
  pub token : List ℕ
  pub key : List ℕ

-- an edge under a contention factor
abbrev pub search_of : FindEdge → ℕ → Search
search_of edge factor = record {
  token = esc_contention_of edge.s factor;
  key = edc_twice_of (edc_contention_of edge.d factor);
}

-- an edge under so many factors, from one on
abbrev pub factor_searches : FindEdge → ℕ → ℕ → List Search
factor_searches edge factor zero = []
factor_searches edge factor (suc more) = search_of edge factor ∷ factor_searches edge (factor + 1) more

-- each edge under each factor from 0 to the greatest
abbrev pub edge_searches : List FindEdge → ℕ → List Search
edge_searches [] greatest = []
edge_searches (edge ∷ edges) greatest = factor_searches edge 0 (greatest + 1) ++ edge_searches edges greatest

-- a value is one edge
abbrev pub term_searches : SentTerm → List Search
term_searches (t.Id id) = []
term_searches (t.Equal field payload) = edge_searches (record { d = payload.d; s = payload.s; l = payload.l } ∷ []) (nat_abs payload.cm)
term_searches (t.Range field payload) = edge_searches payload.g (nat_abs payload.cm)

-- document tags 1 to a number
abbrev pub tags_upto : List ℕ → ℕ → List (List ℕ)
tags_upto key zero = []
tags_upto key (suc number) = tags_upto key number ++ document_tag_of key (suc number) ∷ []

-- the tags that searches give, by their counts
abbrev pub found_tags : Rows → List Search → List Count → List (List ℕ)
found_tags rows [] counts = []
found_tags rows (search ∷ searches) [] = []
found_tags rows (search ∷ searches) (count ∷ counts) = tags_upto search.key (counted rows count) ++ found_tags rows searches counts

-- what a document must have for a term
abbrev pub set_of : Rows → SentTerm → List Count → TermSet
set_of rows (t.Id id) counts = set.Id id
set_of rows term counts = set.Tags (found_tags rows (term_searches term) counts)

-- the counts behind a term's
abbrev pub behind : SentTerm → List Count → List Count
behind term counts = drop (length (term_searches term)) counts

abbrev pub filter_sets : Rows → List SentTerm → List Count → List TermSet
filter_sets rows [] counts = []
filter_sets rows (term ∷ terms) counts = set_of rows term counts ∷ filter_sets rows terms (behind term counts)

-- the counts behind a filter's
abbrev pub filter_rest : List SentTerm → List Count → List Count
filter_rest [] counts = counts
filter_rest (term ∷ terms) counts = filter_rest terms (behind term counts)

-- there is a true count for each search
abbrev pub AllowedSearches : Rows → List Search → List Count → Type 0
AllowedSearches rows [] counts = Unit {0}
AllowedSearches rows (search ∷ searches) [] = ⊥
AllowedSearches rows (search ∷ searches) (count ∷ counts) = IsCounted rows search.token count × AllowedSearches rows searches counts

abbrev pub AllowedTerms : Rows → List SentTerm → List Count → Type 0
AllowedTerms rows [] counts = Unit {0}
AllowedTerms rows (term ∷ terms) counts = AllowedSearches rows (term_searches term) counts × AllowedTerms rows terms (behind term counts)

-- a document has the id, or one of its tags is among these
abbrev pub holds : Stored → TermSet → Bool
holds stored (set.Id id) = same_id stored.id id
holds stored (set.Tags tags) = list_any (has_tag tags) stored.tags

-- a document matches a filter where all its terms hold
abbrev pub matches : List TermSet → Stored → Bool
matches sets stored = list_all (holds stored) sets
