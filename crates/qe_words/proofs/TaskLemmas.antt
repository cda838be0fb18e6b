-- A task is spelled in one way.
use Rattle.std.proofs.Common.{◌≡◌, ℕ, ◌^◌, ◌<◌, List, [], ◌∷◌, Bool, true, false, cond, Some, None, refl, ap, ◌∙◌, subst, arith}
use Rattle.std.proofs.lemmas.Slice.Eq.{bytes_eq-Decides}
use Rattle.std.specs.Prelude.{bytes_eq, codes, Option, option_and_then}
use Rattle.qe_words.specs.Spelled.{IsTask, spelled}
use Rattle.qe_words.specs.Words.{number_of, documents_of, task_named, make_of, words_of}
use Rattle.qe_words.specs.declared.words.Words.{Words}
use Rattle.qe_words.specs.declared.words.Words.TheVariants.{Replay, Show, Make}
use Rattle.qe_words.proofs.NumberLemmas.{number_written, number_read, few_read, documents_written}

-- the words are those that spell the task
abbrev Spells : List (List ℕ) → Words → Type 0
Spells words task = IsTask task × (words ≡ spelled task)

same_word : (word : List ℕ) (name : List ℕ) → bytes_eq word name ≡ true → word ≡ name
same_word word name = (bytes_eq-Decides word name).0

named : (word : List ℕ) (task : Words) → task_named word ≡ Some task → Spells (word ∷ []) task
named word task e = by_replay (bytes_eq word (codes "replay")) refl (bytes_eq word (codes "show")) refl e
  where
    by_replay : (a : Bool) → bytes_eq word (codes "replay") ≡ a → (b : Bool) → bytes_eq word (codes "show") ≡ b
        → cond a (Some Replay) (cond b (Some Show) None) ≡ Some task → Spells (word ∷ []) task
    by_replay true is b other e =
        let here : Replay ≡ task = cc in
        subst (Spells (word ∷ [])) here (tt, ap (λ w. w ∷ []) (same_word word (codes "replay") is))
    by_replay false isnt true is e =
        let here : Show ≡ task = cc in
        subst (Spells (word ∷ [])) here (tt, ap (λ w. w ∷ []) (same_word word (codes "show") is))
    by_replay false isnt false other e = cc

made : (word documents seed : List ℕ) (task : Words) → word ≡ codes "make" → make_of documents seed ≡ Some task → Spells (word ∷ documents ∷ seed ∷ []) task
made word documents seed task is e = by_numbers (documents_of documents) refl (number_of seed) refl e
  where
    by_numbers : (o : Option ℕ) → documents_of documents ≡ o → (p : Option ℕ) → number_of seed ≡ p
        → option_and_then (λ n. option_and_then (λ s. Some (Make n s)) p) o ≡ Some task → Spells (word ∷ documents ∷ seed ∷ []) task
    by_numbers None count p number e = cc
    by_numbers (Some n) count None number e = cc
    by_numbers (Some n) count (Some s) number e =
        let here : Make n s ≡ task = cc in
        let few = documents_written documents n count in
        let seeded = number_written seed s number in
        subst (Spells (word ∷ documents ∷ seed ∷ [])) here
        ((few.0, few.1, seeded.0), λ i. is i ∷ few.2 i ∷ seeded.1 i ∷ [])

three : (word documents seed : List ℕ) (task : Words) → words_of (word ∷ documents ∷ seed ∷ []) ≡ Some task → Spells (word ∷ documents ∷ seed ∷ []) task
three word documents seed task e = by_test (bytes_eq word (codes "make")) refl e
  where
    by_test : (b : Bool) → bytes_eq word (codes "make") ≡ b → cond b (make_of documents seed) None ≡ Some task → Spells (word ∷ documents ∷ seed ∷ []) task
    by_test true is e = made word documents seed task (same_word word (codes "make") is) e
    by_test false isnt e = cc

pub asked : (words : List (List ℕ)) (task : Words) → words_of words ≡ Some task → Spells words task
asked [] task e = cc
asked (word ∷ []) task e = named word task e
asked (word ∷ documents ∷ []) task e = cc
asked (word ∷ documents ∷ seed ∷ []) task e = three word documents seed task e
asked (word ∷ documents ∷ seed ∷ more ∷ words) task e = cc

read : (task : Words) → IsTask task → words_of (spelled task) ≡ Some task
read Replay is = refl
read Show is = refl
read (Make documents seed) is =
    let below : documents < 2 ^ 64 = omega (arith, is.1) in
    rw (number_read documents below, few_read documents is.0 is.1, number_read seed is.2) refl

pub spells : (words : List (List ℕ)) (task : Words) → Spells words task → words_of words ≡ Some task
spells words task is = ap words_of is.1 ∙ read task is.0
