-- What searches come to: counts and tags are appended, and the definitions give the same of them.
use Rattle.std.specs.Prelude.{◌≡◌, ℕ, List, ◌++◌, length}
use Rattle.qe_base.specs.declared.maintenance.Count.{Count}
use Rattle.qe_esc.specs.Rows.{Rows}
use Rattle.qe_store.specs.declared.stored.TermSet.{TermSet}
use Rattle.qe_command.specs.declared.filter.SentTerm.{SentTerm}
use Rattle.qe_protocol.specs.Filters.{Search, found_tags, AllowedSearches, set_of, term_searches, behind, filter_sets, filter_rest, AllowedTerms}

-- a true count for each search, and the tags that they give
pub record IsSearched (rows : Rows) (searches : List Search) (found : List Count) (tags : List (List ℕ)) : Type 0 where
  pub many : length found ≡ length searches
  pub tags_are : found_tags rows searches found ≡ tags
  pub allowed : AllowedSearches rows searches found

pub record SearchesMade (rows : Rows) (searches : List Search) (counts : List Count) (tags : List (List ℕ)) (new_counts : List Count) (new_tags : List (List ℕ)) : Type 0 where
  pub found : List Count
  pub made : List (List ℕ)
  pub counts_are : new_counts ≡ counts ++ found
  pub tags_are : new_tags ≡ tags ++ made
  pub is : IsSearched rows searches found made

-- what a document must have for a term, whatever counts follow
pub record TermMade (rows : Rows) (term : SentTerm) (counts new_counts : List Count) (set : TermSet) : Type 0 where
  pub found : List Count
  pub counts_are : new_counts ≡ counts ++ found
  pub set_is : (more : List Count) → set_of rows term (found ++ more) ≡ set
  pub behind_is : (more : List Count) → behind term (found ++ more) ≡ more
  pub allowed : (more : List Count) → AllowedSearches rows (term_searches term) (found ++ more)

-- the same for terms
pub record TermsMade (rows : Rows) (terms : List SentTerm) (counts new_counts : List Count) (sets : List TermSet) : Type 0 where
  pub found : List Count
  pub counts_are : new_counts ≡ counts ++ found
  pub sets_are : (more : List Count) → filter_sets rows terms (found ++ more) ≡ sets
  pub rest_is : (more : List Count) → filter_rest terms (found ++ more) ≡ more
  pub allowed : (more : List Count) → AllowedTerms rows terms (found ++ more)
