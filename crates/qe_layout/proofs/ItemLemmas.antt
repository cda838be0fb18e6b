-- The loop over the items of an array.
use Rattle.std.proofs.Common.{◌≡◌, ℕ, ◌+◌, List, [], ◌∷◌, ◌++◌, length, refl, ap, sym, ◌∙◌, append_assoc, length-append, Result, Ok, Err}
use Rattle.std.specs.Prelude.{decimal}
use Rattle.std.proofs.lemmas.List.{append-nil}
use Rattle.qe_base.specs.Answers.{Refuses}
use Rattle.qe_value.specs.declared.value.Plain.{Plain}
use Rattle.qe_layout.specs.declared.malformed.Malformed.{Malformed}
use Rattle.qe_layout.specs.declared.malformed.Malformed.TheVariants.{At, NoMemory}
use Rattle.qe_layout.specs.Refusal.{Refusal, refusal_of, bind, map_read}
use Rattle.qe_layout.specs.Layouts.{Reader}
use Rattle.qe_layout.specs.Documents.{each_read}

-- what was read before, and what is read of the rest
abbrev pub ahead : {A : Type 0} → List A → Result (List A) Refusal → Result (List A) Refusal
ahead xs rest = map_read (λ ys. xs ++ ys) rest

pub ahead-none : {A : Type 0} (rest : Result (List A) Refusal) → ahead [] rest ≡ rest
ahead-none (Ok ys) = refl
ahead-none (Err refusal) = refl

pub ahead-end : {A : Type 0} (xs : List A) → ahead xs (Ok []) ≡ Ok xs
ahead-end xs = ap (λ ys. Ok ys) (append-nil xs)

ahead-more : {A : Type 0} (xs : List A) (x : A) (rest : Result (List A) Refusal) → ahead xs (map_read (λ ys. x ∷ ys) rest) ≡ ahead (xs ++ x ∷ []) rest
ahead-more xs x (Ok ys) = ap (λ all. Ok all) (sym (append_assoc xs (x ∷ []) ys))
ahead-more xs x (Err refusal) = refl

-- one more item is read
pub each-next : {A : Type 0} (reads : Reader A) (xs : List A) (name : List ℕ) (item : Plain) (items : List Plain) (x : A) → name ≡ decimal (length xs) → reads name item ≡ Ok x
    → ahead xs (each_read reads (length xs) (item ∷ items)) ≡ ahead (xs ++ x ∷ []) (each_read reads (length (xs ++ x ∷ [])) items)
each-next reads xs name item items x named is =
    ap (λ read. ahead xs (bind read (λ y. map_read (λ ys. y ∷ ys) (each_read reads (length xs + 1) items)))) (ap (λ n. reads n item) (sym named) ∙ is)
    ∙ ahead-more xs x (each_read reads (length xs + 1) items)
    ∙ ap (λ i. ahead (xs ++ x ∷ []) (each_read reads i items)) (sym (length-append xs (x ∷ [])))

-- an item that is refused
pub refuses-each : {A : Type 0} (fault : Malformed) (reads : Reader A) (xs : List A) (name : List ℕ) (item : Plain) (items : List Plain) → name ≡ decimal (length xs)
    → Refuses (refusal_of fault) (reads name item) → Refuses (refusal_of fault) (ahead xs (each_read reads (length xs) (item ∷ items)))
refuses-each NoMemory reads xs name item items named is = tt
refuses-each (At path kind) reads xs name item items named is =
    ap (λ read. ahead xs (bind read (λ y. map_read (λ ys. y ∷ ys) (each_read reads (length xs + 1) items)))) (ap (λ n. reads n item) (sym named) ∙ is)
