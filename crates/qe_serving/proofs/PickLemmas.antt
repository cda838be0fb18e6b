-- The documents of some numbers, one number after another.
use Rattle.std.proofs.Common.{◌≡◌, ℕ, ◌+◌, ◌<◌, List, [], ◌∷◌, ◌++◌, length, take, get_or, map, option_to_list, None, Some, refl, sym, ◌∙◌, ap, append_assoc, append-nil}
use Rattle.std.proofs.lemmas.List.{take_more, map-append}
use Rattle.qe_store.specs.declared.stored.Stored.{Stored}
use Rattle.qe_store.specs.Kept.{document_at}
use Rattle.qe_serving.specs.Documents.{picked}

picked-append : (documents : List (ℕ × Stored)) (xs ys : List ℕ) → picked documents (xs ++ ys) ≡ picked documents xs ++ picked documents ys
picked-append documents [] ys = refl
picked-append documents (x ∷ xs) ys =
    ap (λ others. option_to_list (document_at x documents) ++ others) (picked-append documents xs ys)
    ∙ sym (append_assoc (option_to_list (document_at x documents)) (picked documents xs) (picked documents ys))

module _ (documents : List (ℕ × Stored)) (numbers : List ℕ) (place blank : ℕ) (less : place < length numbers) where
  picked-more : picked documents (take (place + 1) numbers) ≡ picked documents (take place numbers) ++ option_to_list (document_at (get_or numbers place blank) documents)
  picked-more =
      ap (picked documents) (take_more numbers place blank less)
      ∙ picked-append documents (take place numbers) (get_or numbers place blank ∷ [])
      ∙ ap (λ one. picked documents (take place numbers) ++ one) (append-nil (option_to_list (document_at (get_or numbers place blank) documents)))

  pub picked_some : (stored : Stored) → document_at (get_or numbers place blank) documents ≡ Some stored
      → picked documents (take (place + 1) numbers) ≡ picked documents (take place numbers) ++ stored ∷ []
  picked_some stored there = picked-more ∙ ap (λ one. picked documents (take place numbers) ++ option_to_list one) there

  pub picked_none : document_at (get_or numbers place blank) documents ≡ None
      → picked documents (take (place + 1) numbers) ≡ picked documents (take place numbers)
  picked_none none =
      picked-more ∙ ap (λ one. picked documents (take place numbers) ++ option_to_list one) none ∙ append-nil (picked documents (take place numbers))

-- what is made of the documents so far, and of one more
pub mapped_some : {X : Type 0} (f : Stored → X) (before after : List Stored) (stored : Stored) (old new : List X) → old ≡ map f before → after ≡ before ++ stored ∷ []
    → new ≡ old ++ f stored ∷ [] → new ≡ map f after
mapped_some f before after stored old new old_is after_is new_is =
    new_is ∙ ap (λ front. front ++ f stored ∷ []) old_is ∙ sym (map-append f before (stored ∷ [])) ∙ ap (map f) (sym after_is)
