-- The lines of the documents so far, and of one more.
use Rattle.std.proofs.Common.{◌≡◌, ℕ, List, [], ◌∷◌, ◌++◌, filter, flat_map, refl, sym, ◌∙◌, ap}
use Rattle.std.proofs.lemmas.List.{flat_map_more}
use Rattle.qe_store.specs.declared.stored.Stored.{Stored}
use Rattle.qe_protocol.specs.Filters.{matches}

pub lines_some : (f : Stored → List ℕ) (before after : List Stored) (stored : Stored) (start old new : List ℕ) → old ≡ start ++ flat_map f before
    → after ≡ before ++ stored ∷ [] → new ≡ old ++ f stored → new ≡ start ++ flat_map f after
lines_some f before after stored start old new old_is after_is new_is =
    new_is ∙ ap (λ front. front ++ f stored) old_is ∙ flat_map_more f start before stored ∙ ap (λ all. start ++ flat_map f all) (sym after_is)

-- where there is no condition, all documents match
pub all_match : (documents : List Stored) → filter (matches []) documents ≡ documents
all_match [] = refl
all_match (stored ∷ documents) = ap (λ rest. stored ∷ rest) (all_match documents)
