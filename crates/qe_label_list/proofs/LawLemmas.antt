-- There is no first clash exactly where no two labels share an identifier, and else it is the least.
use Rattle.std.proofs.Common.{◌≡◌, ℕ, zero, suc, ◌<◌, ◌≤◌, Bool, true, false, List, [], ◌∷◌, map, Option, None, Some, Less, refl, sym, ap, ◌∙◌, subst, arith, ◌⊎◌, inl, inr}
use Rattle.std.proofs.lemmas.Bool.{false_from_ne_true, cases_lt}
use Rattle.std.proofs.lemmas.Option.{get_or_from_slice_get}
use Rattle.std.specs.Prelude.{slice_get, option_map}
use Rattle.std.specs.List.{AllByRecursion}
use Rattle.std.specs.List.Sorted.{IsStrictlySortedBy}
use Rattle.qe_tokens.specs.declared.words.Label.{Label}
use Rattle.qe_tokens.specs.declared.words.LabelKind.TheVariants.{Position}
use Rattle.qe_tokens.specs.declared.words.Word.TheVariants.{Stray}
use Rattle.qe_labels.specs.Clashes.{first_repeat, key_of, label_at, pair_at, same_key}
use Rattle.qe_labels.specs.Listed.{label_cmp}
use Rattle.qe_labels.proofs.ClashLemmas.{Apart, ClearOf, apart_none, none_apart, not_below}
use Rattle.qe_label_list.specs.Laws.{ClashAt, FirstIsLeast, IsClear, NoneIsClear}
use Rattle.qe_label_list.specs.Order.{IsInOrder, labels_in}
use Rattle.qe_label_list.proofs.FirstLemmas.{IsFirst, repeat_found}
use Rattle.qe_label_list.proofs.KeyLemmas.{same_exact, same_itself}

abbrev Entry : Type 0
Entry = Label × List ℕ

abbrev Key : Type 0
Key = Bool × List ℕ

abbrev keys : List Entry → List Key
keys entries = map key_of entries

-- ---- keys at places
key_at : (entries : List Entry) (place : ℕ) (e : Entry) → slice_get entries place ≡ Some e → slice_get (keys entries) place ≡ Some (key_of e)
key_at [] place e at = absurd (cc)
key_at (x ∷ xs) zero e at = ap (option_map key_of) at
key_at (x ∷ xs) (suc place) e at = key_at xs place e at

entry_from : (entries : List Entry) (place : ℕ) (k : Key) → slice_get (keys entries) place ≡ Some k → (e : Entry) × (slice_get entries place ≡ Some e) × (key_of e ≡ k)
entry_from [] place k at = absurd (cc)
entry_from (x ∷ xs) zero k at = let is : key_of x ≡ k = cc in (x, refl, is)
entry_from (x ∷ xs) (suc place) k at = entry_from xs place k at

-- ---- no two keys are the same
apart_at : (ks : List Key) → Apart same_key ks → (i j : ℕ) (x y : Key) → i < j → slice_get ks i ≡ Some x → slice_get ks j ≡ Some y → same_key y x ≡ false
apart_at [] apart i j x y up at_i at_j = absurd (cc)
apart_at (k ∷ ks) apart i zero x y up at_i at_j = absurd (omega arith)
apart_at (k ∷ ks) apart zero (suc j) x y up at_i at_j =
    let is : k ≡ x = cc in
    subst (λ z. same_key y z ≡ false) is (each_at k ks apart.0 j y at_j)
  where
    each_at : (k : Key) (ks : List Key) → AllByRecursion (λ y. same_key y k ≡ false) ks → (j : ℕ) (y : Key) → slice_get ks j ≡ Some y → same_key y k ≡ false
    each_at k [] all j y at = absurd (cc)
    each_at k (z ∷ zs) all zero y at = let is : z ≡ y = cc in subst (λ w. same_key w k ≡ false) is all.0
    each_at k (z ∷ zs) all (suc j) y at = each_at k zs all.1 j y at
apart_at (k ∷ ks) apart (suc i) (suc j) x y up at_i at_j = apart_at ks apart.1 i j x y (omega arith) at_i at_j

not_met : (x y : Key) → same_key y x ≡ false → x ≡ y → ⊥
not_met x y apart is =
    let met : same_key y x ≡ true = ap (same_key y) is ∙ same_itself y in
    let both : true ≡ false = sym met ∙ apart in
    cc

clear_from : (entries : List Entry) → Apart same_key (keys entries) → IsClear entries
clear_from entries apart = record {
  one = λ first second one other at_first at_second shared.
      clear_by first second one other at_first at_second shared (cases_lt first second) (cases_lt second first);
}
  where
    clear_by : (first second : ℕ) (one other : Entry) → slice_get entries first ≡ Some one → slice_get entries second ≡ Some other → key_of one ≡ key_of other
        → (first < second) ⊎ (second ≤ first) → (second < first) ⊎ (first ≤ second) → one.0 ≡ other.0
    clear_by first second one other at_first at_second shared (inl up) _ =
        absurd (not_met (key_of one) (key_of other)
        (apart_at (keys entries) apart first second (key_of one) (key_of other) up (key_at entries first one at_first) (key_at entries second other at_second)) shared)
    clear_by first second one other at_first at_second shared (inr above) (inl down) =
        absurd (not_met (key_of other) (key_of one)
        (apart_at (keys entries) apart second first (key_of other) (key_of one) down (key_at entries second other at_second) (key_at entries first one at_first)) (sym shared))
    clear_by first second one other at_first at_second shared (inr above) (inr below) =
        let same : first ≡ second = omega arith in
        let is : Some one ≡ Some other = sym at_first ∙ ap (slice_get entries) same ∙ at_second in
        let entry : one ≡ other = cc in
        ap (λ (e : Entry). e.0) entry

clear_rest : (e : Entry) (entries : List Entry) → IsClear (e ∷ entries) → IsClear entries
clear_rest e entries clear = record { one = λ first second one other at_first at_second shared. clear.one (suc first) (suc second) one other at_first at_second shared }

apart_from : (entries : List Entry) → IsInOrder entries → IsClear entries → Apart same_key (keys entries)
unfolding IsStrictlySortedBy
apart_from [] rise clear = tt
apart_from (e ∷ entries) rise clear = (
  each e entries rise.0 (λ place other at. clear.one 0 (suc place) e other refl at),
  apart_from entries rise.1 (clear_rest e entries clear),
)
  where
    each : (e : Entry) (rest : List Entry) → AllByRecursion (λ l. label_cmp e.0 l ≡ Less) (labels_in rest)
        → ((place : ℕ) (other : Entry) → slice_get rest place ≡ Some other → key_of e ≡ key_of other → e.0 ≡ other.0)
        → AllByRecursion (λ k. same_key k (key_of e) ≡ false) (keys rest)
    each e [] up clear = tt
    each e (x ∷ xs) up clear = (
      false_from_ne_true (same_key (key_of x) (key_of e)) (λ met.
          not_below e.0 x.0 up.0 (clear 0 x refl (sym (same_exact (key_of x) (key_of e) met)))),
      each e xs up.1 (λ place other at. clear (suc place) other at),
    )

clear_all : (ks : List Key) → ClearOf same_key [] ks
clear_all [] = tt
clear_all (k ∷ ks) = (tt, clear_all ks)

none_pair : (entries : List Entry) (o : Option (ℕ × ℕ)) → option_map (pair_at entries) o ≡ None → o ≡ None
none_pair entries None none = refl
none_pair entries (Some places) none = absurd (cc)

pub none_is_clear : NoneIsClear
none_is_clear entries rise = (
  λ none. clear_from entries (none_apart same_key (keys entries) [] (none_pair entries (first_repeat same_key (keys entries)) none)).1,
  λ clear. ap (option_map (pair_at entries)) (apart_none same_key (keys entries) [] (clear_all (keys entries)) (apart_from entries rise clear)),
)

-- ---- the least
pair_from : (entries : List Entry) (one other : Label) (o : Option (ℕ × ℕ)) → option_map (pair_at entries) o ≡ Some (one, other)
    → (first : ℕ) × (second : ℕ) × (o ≡ Some (first, second)) × (label_at entries first ≡ one) × (label_at entries second ≡ other)
pair_from entries one other None is = absurd (cc)
pair_from entries one other (Some places) is =
    let pair : pair_at entries places ≡ (one, other) = cc in
    (places.0, places.1, refl, ap (λ (p : Label × Label). p.0) pair, ap (λ (p : Label × Label). p.1) pair)

label_is : (entries : List Entry) (place : ℕ) (e : Entry) → slice_get entries place ≡ Some e → label_at entries place ≡ e.0
label_is entries place e at =
    ap (λ (x : Entry). x.0) (get_or_from_slice_get entries place e (record { kind = Position; word = Stray []; number = 0 }, []) at)

module _ (entries : List Entry) (first second : ℕ) (is : IsFirst same_key (keys entries) 0 first second) where
  abbrev at_one : (e : Entry) × (slice_get entries first ≡ Some e) × (key_of e ≡ is.one)
  at_one = entry_from entries first is.one is.at_first

  abbrev at_other : (e : Entry) × (slice_get entries second ≡ Some e) × (key_of e ≡ is.other)
  at_other = entry_from entries second is.other is.at_second

  the_clash : ClashAt entries first second
  the_clash = record {
    one = at_one.0;
    other = at_other.0;
    at_first = at_one.1;
    at_second = at_other.1;
    before = is.before;
    shared = at_one.2 ∙ sym (same_exact is.other is.one is.met) ∙ sym at_other.2;
  }

  met_at : (i j : ℕ) (clash : ClashAt entries i j) → same_key (key_of clash.other) (key_of clash.one) ≡ true
  met_at i j clash = ap (same_key (key_of clash.other)) clash.shared ∙ same_itself (key_of clash.other)

  later : (i j : ℕ) → ClashAt entries i j → second ≤ j
  later i j clash =
      is.second_least i j (key_of clash.one) (key_of clash.other) (omega arith) clash.before (key_at entries i clash.one clash.at_first)
      (key_at entries j clash.other clash.at_second) (met_at i j clash)

  earlier : (i : ℕ) → ClashAt entries i second → first ≤ i
  earlier i clash =
      let both : Some (key_of clash.other) ≡ Some is.other = sym (key_at entries second clash.other clash.at_second) ∙ is.at_second in
      let key : key_of clash.other ≡ is.other = cc in
      is.first_least i (key_of clash.one) clash.before (key_at entries i clash.one clash.at_first)
      (ap (λ k. same_key k (key_of clash.one)) (sym key) ∙ met_at i second clash)

pub first_is_least : FirstIsLeast
first_is_least entries one other is =
    let found = pair_from entries one other (first_repeat same_key (keys entries)) is in
    let first = repeat_found same_key (keys entries) [] found.0 found.1 found.2 in
    let clash = the_clash entries found.0 found.1 first in
    record {
      first = found.0;
      second = found.1;
      clash = clash;
      one_is = sym found.3 ∙ label_is entries found.0 clash.one clash.at_first;
      other_is = sym found.4 ∙ label_is entries found.1 clash.other clash.at_second;
      second_least = later entries found.0 found.1 first;
      first_least = earlier entries found.0 found.1 first;
    }
