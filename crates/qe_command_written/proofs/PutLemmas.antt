-- Things that are written one after another.
use Rattle.std.proofs.Common.{◌≡◌, ℕ, ◌+◌, ◌<◌, List, [], ◌∷◌, ◌++◌, length, map, drop, refl, sym, ap, subst, ◌∙◌, arith, false, Option, None, Some}
use Rattle.std.specs.Prelude.{slice_index_or}
use Rattle.std.specs.List.{AllByRecursion}
use Rattle.std.specs.Option.{option_or}
use Rattle.std.proofs.lemmas.List.{drop_more, drop_all, append_assoc, append-nil}
use Rattle.qe_value.specs.declared.fault.EncodeFault.{EncodeFault}
use Rattle.qe_document.specs.Names.{is_named, Distinct}
use Rattle.qe_value.proofs.NameLemmas.{Distinct-middle}
use Rattle.qe_layout.specs.Layouts.{Element}
use Rattle.qe_command_written.specs.Faults.{first_fault}

-- what was written so far, and what is left
pub record Put {A X : Type 0} (write : A → X) (fault : A → Option EncodeFault) (Fits Again : A → Type 0) (start : List X) (all : List A) (i : ℕ) (now : List X) : Type 0 where
  pub left : now ++ map write (drop i all) ≡ start ++ map write all
  pub faults : first_fault fault all ≡ first_fault fault (drop i all)
  pub fits : AllByRecursion Fits (drop i all)
  pub again : AllByRecursion Again (drop i all) → AllByRecursion Again all

pub put_begins : {A X : Type 0} (write : A → X) (fault : A → Option EncodeFault) (Fits Again : A → Type 0) (start : List X) (all : List A) → AllByRecursion Fits all
    → Put write fault Fits Again start all 0 start
put_begins write fault Fits Again start all fits = record { left = refl; faults = refl; fits = fits; again = λ each. each }

-- the next one
pub put_next : {A : Type 0} (all : List A) (i : ℕ) (x : A) → i < length all → x ≡ slice_index_or all i x → drop i all ≡ x ∷ drop (i + 1) all
put_next all i x less is = drop_more all i x less ∙ ap (λ y. y ∷ drop (i + 1) all) (sym is)

pub put_fits : {A X : Type 0} (write : A → X) (fault : A → Option EncodeFault) (Fits Again : A → Type 0) (start now : List X) (all : List A) (i : ℕ) (x : A)
    → Put write fault Fits Again start all i now → i < length all → x ≡ slice_index_or all i x → Fits x
put_fits write fault Fits Again start now all i x put less is = (subst (AllByRecursion Fits) (put_next all i x less is) put.fits).0

-- its fault is the first
pub put_refused : {A X : Type 0} (write : A → X) (fault : A → Option EncodeFault) (Fits Again : A → Type 0) (start now : List X) (all : List A) (i : ℕ) (x : A)
    → Put write fault Fits Again start all i now → i < length all → x ≡ slice_index_or all i x → (e : EncodeFault) → fault x ≡ Some e → first_fault fault all ≡ Some e
put_refused write fault Fits Again start now all i x put less is e fails =
    put.faults ∙ ap (first_fault fault) (put_next all i x less is) ∙ ap (λ f. option_or f (first_fault fault (drop (i + 1) all))) fails

pub put_goes_on : {A X : Type 0} (write : A → X) (fault : A → Option EncodeFault) (Fits Again : A → Type 0) (start now after : List X) (all : List A) (i : ℕ) (x : A)
    → Put write fault Fits Again start all i now → i < length all → x ≡ slice_index_or all i x → fault x ≡ None → after ≡ now ++ write x ∷ [] → Again x
    → Put write fault Fits Again start all (i + 1) after
put_goes_on write fault Fits Again start now after all i x put less is none written here =
    let next = put_next all i x less is in
    let rest = drop (i + 1) all in
    record {
      left = ap (λ it. it ++ map write rest) written ∙ append_assoc now (write x ∷ []) (map write rest) ∙ ap (λ xs. now ++ map write xs) (sym next) ∙ put.left;
      faults = put.faults ∙ ap (first_fault fault) next ∙ ap (λ f. option_or f (first_fault fault rest)) none;
      fits = (subst (AllByRecursion Fits) next put.fits).1;
      again = λ each. put.again (subst (AllByRecursion Again) (sym next) (here, each));
    }

-- nothing is left
pub put_ends : {A X : Type 0} (write : A → X) (fault : A → Option EncodeFault) (Fits Again : A → Type 0) (start now : List X) (all : List A) (i : ℕ)
    → Put write fault Fits Again start all i now → length all ≡ i → (first_fault fault all ≡ None) × ((start ++ map write all ≡ now) × AllByRecursion Again all)
put_ends write fault Fits Again start now all i put end =
    let none = drop_all i all (omega (arith, end)) in (
      put.faults ∙ ap (first_fault fault) none,
      (sym put.left ∙ ap (λ xs. now ++ map write xs) none ∙ append-nil now, put.again (subst (AllByRecursion Again) (sym none) tt)),
    )

-- elements whose names are distinct: the next one's is new
pub put_new : {A : Type 0} (write : A → Element) (fault : A → Option EncodeFault) (Fits Again : A → Type 0) (start now : List Element) (all : List A) (i : ℕ) (x : A)
    → Put write fault Fits Again start all i now → Distinct (start ++ map write all) → i < length all → x ≡ slice_index_or all i x → is_named (write x).0 now ≡ false
put_new write fault Fits Again start now all i x put apart less is =
    let rest = map write (drop (i + 1) all) in
    Distinct-middle now (write x) rest
    (subst (λ xs. Distinct (now ++ map write xs)) (put_next all i x less is) (subst (λ es. Distinct es) (sym put.left) apart))

-- the same of what is only written
pub left_new : {A : Type 0} (write : A → Element) (now : List Element) (all : List A) (i : ℕ) (d : A) → now ++ map write (drop i all) ≡ map write all → Distinct (map write all)
    → i < length all → is_named (write (slice_index_or all i d)).0 now ≡ false
left_new write now all i d left apart less =
    let x = slice_index_or all i d in
    Distinct-middle now (write x) (map write (drop (i + 1) all))
    (subst (λ xs. Distinct (now ++ map write xs)) (drop_more all i d less) (subst (λ es. Distinct es) (sym left) apart))
