-- All elements of a document, one after the other: what is read is spelled so, and what is spelled so is read.
use Rattle.std.proofs.Common.{◌≡◌, ℕ, zero, suc, ◌<◌, List, [], ◌∷◌, ◌++◌, length, Option, None, Some, Result, Ok, refl, sym, ap, ◌∙◌, append_assoc, arith}
use Rattle.std.proofs.lemmas.List.{append-nil, length-append}
use Rattle.qe_value.specs.declared.fault.BsonFault.{BsonFault}
use Rattle.qe_value.specs.Reading.{on_with, all_at}
use Rattle.qe_base.specs.Bytes.{AreBytes}
use Rattle.qe_value.proofs.ReaderTools.{bind_ok, ok_is}

-- the elements' bytes, where each element is spelled by those before it
abbrev pub spelled_from : {A : Type 0} → (List A → A → List ℕ) → List A → List A → List ℕ
spelled_from e before [] = []
spelled_from e before (x ∷ xs) = e before x ++ spelled_from e (before ++ x ∷ []) xs

-- a fact of each element and those before it
abbrev pub AllFrom : {A : Type 0} → (List A → A → Type 0) → List A → List A → Type 0
AllFrom P before [] = Unit {0}
AllFrom P before (x ∷ xs) = P before x × AllFrom P (before ++ x ∷ []) xs

module _ {A : Type 0} (one : List A → ℕ → List ℕ → Result (Option (A × List ℕ)) BsonFault) (e : List A → A → List ℕ) (P : List A → A → Type 0) where
  -- one element that is read is spelled so
  pub record OneTakes : Type 0 where
    pub none : (before : List A) (end : ℕ) (bytes : List ℕ) → one before end bytes ≡ Ok None → bytes ≡ 0 ∷ []
    pub some : (before : List A) (end : ℕ) (bytes : List ℕ) (x : A × List ℕ) → AreBytes bytes → one before end bytes ≡ Ok (Some x) → (bytes ≡ e before x.0 ++ x.1) × AreBytes x.1 × P before x.0

  -- one element that is spelled is read, and is no empty text
  pub record OneReads : Type 0 where
    pub none : (before : List A) (end : ℕ) → one before end (0 ∷ []) ≡ Ok None
    pub some : (before : List A) (end : ℕ) (x : A) (rest : List ℕ) → P before x → 0 < length rest → one before end (e before x ++ rest) ≡ Ok (Some (x, rest))
    pub long : (before : List A) (x : A) → 0 < length (e before x)

  -- all elements from some on, as they were read
  abbrev pub Taken : List A → List ℕ → List A → Type 0
  Taken before bytes all = (xs : List A) × (all ≡ before ++ xs) × (bytes ≡ spelled_from e before xs ++ (0 ∷ [])) × AllFrom P before xs

  taken_next : OneTakes → (turns : ℕ) (before : List A) (end : ℕ) (bytes : List ℕ) (all : List A) (o : Option (A × List ℕ)) → AreBytes bytes → one before end bytes ≡ Ok o
      → ((longer : List A) (rest : List ℕ) → AreBytes rest → all_at one turns longer end rest ≡ Ok all → Taken longer rest all)
      → on_with before (λ longer rest. all_at one turns longer end rest) o ≡ Ok all → Taken before bytes all
  taken_next takes turns before end bytes all None fits read go given =
      ([], sym (ok_is before all given) ∙ sym (append-nil before), takes.none before end bytes read, tt)
  taken_next takes turns before end bytes all (Some x) fits read go given =
      let first = takes.some before end bytes x fits read in
      let others = go (before ++ x.0 ∷ []) x.1 first.1 given in
      (x.0 ∷ others.0, others.1 ∙ append_assoc before (x.0 ∷ []) others.0, first.0 ∙ ap (λ (r : List ℕ). e before x.0 ++ r) others.2 ∙ sym (append_assoc (e before x.0) (spelled_from e (before ++ x.0 ∷ []) others.0) (0 ∷ [])), (first.2, others.3))

  -- all elements that are read are spelled so
  pub all_takes : OneTakes → (turns : ℕ) (before : List A) (end : ℕ) (bytes : List ℕ) (all : List A) → AreBytes bytes → all_at one turns before end bytes ≡ Ok all → Taken before bytes all
  unfolding all_at
  all_takes takes zero before end bytes all fits given = absurd cc
  all_takes takes (suc turns) before end bytes all fits given =
      let b = bind_ok (one before end bytes) (on_with before (λ longer rest. all_at one turns longer end rest)) all given in
      taken_next takes turns before end bytes all b.0 fits b.1 (λ longer rest rest_fits read. all_takes takes turns longer end rest all rest_fits read) b.2

  -- all elements that are spelled are read
  pub all_again : OneReads → (turns : ℕ) (before : List A) (end : ℕ) (xs : List A) → AllFrom P before xs → length (spelled_from e before xs) < turns
      → all_at one turns before end (spelled_from e before xs ++ (0 ∷ [])) ≡ Ok (before ++ xs)
  unfolding all_at
  all_again reads zero before end xs each enough = absurd (omega arith)
  all_again reads (suc turns) before end [] each enough = rw (reads.none before end, append-nil before) refl
  all_again reads (suc turns) before end (x ∷ xs) each enough =
      let later : List ℕ = spelled_from e (before ++ x ∷ []) xs in
      let regrouped : (e before x ++ later) ++ (0 ∷ []) ≡ e before x ++ (later ++ (0 ∷ [])) = append_assoc (e before x) later (0 ∷ []) in
      let read : one before end (e before x ++ (later ++ (0 ∷ []))) ≡ Ok (Some (x, later ++ (0 ∷ []))) =
      reads.some before end x (later ++ (0 ∷ [])) each.0 (omega (arith, length-append later (0 ∷ []))) in
      let others : all_at one turns (before ++ x ∷ []) end (later ++ (0 ∷ [])) ≡ Ok ((before ++ x ∷ []) ++ xs) =
      all_again reads turns (before ++ x ∷ []) end xs each.1 (omega (arith, reads.long before x, length-append (e before x) later)) in
      ap (λ (bytes : List ℕ). all_at one (suc turns) before end bytes) regrouped ∙ rw (read, others, append_assoc before (x ∷ []) xs) refl
