-- A run is free of clashes exactly where no two labels in its list have one identifier.
use Rattle.std.proofs.Common.{◌≡◌, ◌↔◌, ℕ, ◌+◌, Bool, true, false, cond, List, [], ◌∷◌, ◌++◌, map, length, Option, None, Some, Less, Equal, refl, sym, ap, ◌∙◌, inl, inr, ⊎_elim}
use Rattle.std.proofs.lemmas.Bool.{and_parts, and_from, false_from_ne_true}
use Rattle.std.proofs.lemmas.Slice.Eq.{bytes_eq-Decides}
use Rattle.std.specs.Bool.{beq}
use Rattle.std.specs.Str.{bytes_eq}
use Rattle.std.specs.Prelude.{option_map}
use Rattle.std.specs.List.{AllByRecursion, position_from}
use Rattle.std.specs.List.Sorted.{IsStrictlySortedBy}
use Rattle.std.specs.Ordering.{nat_cmp, ordering_then}
use Rattle.std.specs.Cmp.{tied_itself, nat_cmp_total}
use Rattle.qe_tokens.specs.Labels.{IsLabel, identifier_of, is_tag}
use Rattle.qe_tokens.specs.declared.words.Label.{Label}
use Rattle.qe_labels.specs.Numbers.{Numbers, counted, word_cmp}
use Rattle.qe_labels.specs.Listed.{labels, label_cmp, kind_place}
use Rattle.qe_labels.specs.Clashes.{with_identifier, key_of, same_key, settle, repeat_after, first_repeat, first_clash, pair_at}
use Rattle.qe_labels.specs.Laws.{IsFree, TestsClashes}
use Rattle.qe_labels.proofs.AmongLemmas.{IsAmong, each_at}
use Rattle.qe_labels.proofs.OrderLemmas.{words_total}
use Rattle.qe_labels.proofs.ListedLemmas.{label_listed, listed_label, labels_sorted}

-- ---- what repeats in a list
module _ {K : Type 0} (same : K → K → Bool) where
  abbrev pub ClearOf : List K → List K → Type 0
  ClearOf before ks = AllByRecursion (λ k. AllByRecursion (λ b. same k b ≡ false) before) ks

  abbrev pub Apart : List K → Type 0
  Apart [] = Unit {0}
  Apart (k ∷ ks) = AllByRecursion (λ y. same y k ≡ false) ks × Apart ks

  position_none : (k : K) (place : ℕ) (before : List K) → AllByRecursion (λ b. same k b ≡ false) before → position_from (same k) place before ≡ None
  position_none k place [] all = refl
  position_none k place (b ∷ before) all =
      ap (λ t. cond t (Some place) (position_from (same k) (place + 1) before)) all.0 ∙ position_none k (place + 1) before all.1

  none_position : (k : K) (place : ℕ) (before : List K) → position_from (same k) place before ≡ None → AllByRecursion (λ b. same k b ≡ false) before
  none_position k place [] none = tt
  none_position k place (b ∷ before) none =
      (elim (same k b) as (λ t. same k b ≡ t → cond t (Some place) (position_from (same k) (place + 1) before) ≡ None → AllByRecursion (λ x. same k x ≡ false) (b ∷ before)) [
        | true ↦ λ is found. absurd (cc)
        | false ↦ λ is rest. (is, none_position k (place + 1) before rest)
      ]) refl none

  each_push : (k x : K) (before : List K) → AllByRecursion (λ b. same k b ≡ false) before → same k x ≡ false → AllByRecursion (λ b. same k b ≡ false) (before ++ x ∷ [])
  each_push k x [] all one = (one, tt)
  each_push k x (b ∷ before) all one = (all.0, each_push k x before all.1 one)

  each_front : (k x : K) (before : List K) → AllByRecursion (λ b. same k b ≡ false) (before ++ x ∷ []) → AllByRecursion (λ b. same k b ≡ false) before × (same k x ≡ false)
  each_front k x [] all = (tt, all.0)
  each_front k x (b ∷ before) all = let rest = each_front k x before all.1 in ((all.0, rest.0), rest.1)

  clear_push : (x : K) (before ks : List K) → ClearOf before ks → AllByRecursion (λ y. same y x ≡ false) ks → ClearOf (before ++ x ∷ []) ks
  clear_push x before [] clear apart = tt
  clear_push x before (k ∷ ks) clear apart = (each_push k x before clear.0 apart.0, clear_push x before ks clear.1 apart.1)

  clear_front : (x : K) (before ks : List K) → ClearOf (before ++ x ∷ []) ks → ClearOf before ks × AllByRecursion (λ y. same y x ≡ false) ks
  clear_front x before [] clear = (tt, tt)
  clear_front x before (k ∷ ks) clear =
      let one = each_front k x before clear.0 in
      let rest = clear_front x before ks clear.1 in
      ((one.0, rest.0), (one.1, rest.1))

  pub apart_none : (ks before : List K) → ClearOf before ks → Apart ks → repeat_after same before ks ≡ None
  apart_none [] before clear apart = refl
  apart_none (k ∷ ks) before clear apart =
      ap (λ o. settle o (length before) (repeat_after same (before ++ k ∷ []) ks)) (position_none k 0 before clear.0)
      ∙ apart_none ks (before ++ k ∷ []) (clear_push k before ks clear.1 apart.0) apart.1

  pub none_apart : (ks before : List K) → repeat_after same before ks ≡ None → ClearOf before ks × Apart ks
  none_apart [] before none = (tt, tt)
  none_apart (k ∷ ks) before none =
      (elim (position_from (same k) 0 before) as (λ o. position_from (same k) 0 before ≡ o → settle o (length before) (repeat_after same (before ++ k ∷ []) ks) ≡ None
      → ClearOf before (k ∷ ks) × Apart (k ∷ ks)) [
        | None ↦ λ is rest.
            let behind = none_apart ks (before ++ k ∷ []) rest in
            let front = clear_front k before ks behind.0 in
            ((none_position k 0 before is, front.0), (front.1, behind.1))
        | Some first ↦ λ is found. absurd (cc)
      ]) refl none

-- ---- keys are the same where groups and identifiers are
pub beq_true : (a b : Bool) → beq a b ≡ true → a ≡ b
beq_true true true is = refl
beq_true true false is = cc
beq_true false true is = cc
beq_true false false is = refl

pub beq_same : (a b : Bool) → a ≡ b → beq a b ≡ true
beq_same true true is = refl
beq_same true false is = cc
beq_same false true is = cc
beq_same false false is = refl

-- a label isn't below itself
pub not_below : (one other : Label) → label_cmp one other ≡ Less → one ≡ other → ⊥
not_below one other up same =
    let tie : label_cmp other other ≡ Equal =
    ap (λ o. ordering_then o (ordering_then (word_cmp other.word other.word) (nat_cmp other.number other.number))) (tied_itself nat_cmp_total (kind_place other.kind))
    ∙ ap (λ o. ordering_then o (nat_cmp other.number other.number)) (tied_itself words_total other.word)
    ∙ tied_itself nat_cmp_total other.number in
    let down : label_cmp other other ≡ Less = ap (λ l. label_cmp l other) (sym same) ∙ up in
    let met : Less ≡ Equal = sym down ∙ tie in
    cc

module _ (root : ℕ → List ℕ) (numbers : Numbers) where
  abbrev key : Label → Bool × List ℕ
  key l = key_of (with_identifier root l)

  pub record Shares (one other : Label) : Type 0 where
    pub group : is_tag one.kind ≡ is_tag other.kind
    pub id : identifier_of root one ≡ identifier_of root other

  shares_from : (one other : Label) → same_key (key one) (key other) ≡ true → Shares one other
  shares_from one other is =
      let parts = and_parts (beq (is_tag one.kind) (is_tag other.kind)) (bytes_eq (identifier_of root one) (identifier_of root other)) is in
      record { group = beq_true (is_tag one.kind) (is_tag other.kind) parts.0; id = (bytes_eq-Decides (identifier_of root one) (identifier_of root other)).0 parts.1 }

  shares_to : (one other : Label) → is_tag one.kind ≡ is_tag other.kind → identifier_of root one ≡ identifier_of root other → same_key (key one) (key other) ≡ true
  shares_to one other group id =
      and_from (beq (is_tag one.kind) (is_tag other.kind)) (bytes_eq (identifier_of root one) (identifier_of root other))
      (beq_same (is_tag one.kind) (is_tag other.kind) group) ((bytes_eq-Decides (identifier_of root one) (identifier_of root other)).1 id)

  free_apart : IsFree root numbers → (ls : List Label) → ((l : Label) → IsAmong l ls → IsLabel (counted numbers) l) → IsStrictlySortedBy label_cmp ls
      → Apart same_key (map key_of (map (with_identifier root) ls))
  unfolding IsStrictlySortedBy
  free_apart free [] are rise = tt
  free_apart free (l ∷ ls) are rise = (
    each_key l ls (λ m among.
        false_from_ne_true (same_key (key m) (key l)) (λ met.
        let share = shares_from m l met in
        not_below l m (each_at (λ y. label_cmp l y ≡ Less) ls m rise.0 among)
        (sym (free.one m l (are m (inr among)) (are l (inl refl)) share.group share.id)))),
    free_apart free ls (λ m among. are m (inr among)) rise.1,
  )
    where
      each_key : (l : Label) (ms : List Label) → ((m : Label) → IsAmong m ms → same_key (key m) (key l) ≡ false)
          → AllByRecursion (λ y. same_key y (key l) ≡ false) (map key_of (map (with_identifier root) ms))
      each_key l [] each = tt
      each_key l (m ∷ ms) each = (each m (inl refl), each_key l ms (λ x among. each x (inr among)))

  key_each : (l m : Label) (ms : List Label) → AllByRecursion (λ y. same_key y (key l) ≡ false) (map key_of (map (with_identifier root) ms)) → IsAmong m ms → same_key (key m) (key l) ≡ false
  key_each l m [] all among = absurd among
  key_each l m (x ∷ xs) all among = ⊎_elim (λ (here : m ≡ x). ap (λ y. same_key (key y) (key l)) here ∙ all.0)
      (λ (behind : IsAmong m xs). key_each l m xs all.1 behind) among

  apart_one : (ls : List Label) → Apart same_key (map key_of (map (with_identifier root) ls)) → (one other : Label) → IsAmong one ls → IsAmong other ls
      → is_tag one.kind ≡ is_tag other.kind → identifier_of root one ≡ identifier_of root other → one ≡ other
  apart_one [] apart one other in_one in_other group id = absurd in_one
  apart_one (l ∷ ls) apart one other in_one in_other group id = ⊎_elim
      (λ (here : one ≡ l). ⊎_elim
      (λ (also : other ≡ l). here ∙ sym also)
      (λ (behind : IsAmong other ls).
      let differ : same_key (key other) (key l) ≡ false = key_each l other ls apart.0 behind in
      let met : same_key (key other) (key one) ≡ true = shares_to other one (sym group) (sym id) in
      let moved : same_key (key other) (key l) ≡ true = ap (λ y. same_key (key other) (key y)) (sym here) ∙ met in
      absurd (cc))
      in_other)
      (λ (near : IsAmong one ls). ⊎_elim
      (λ (also : other ≡ l).
      let differ : same_key (key one) (key l) ≡ false = key_each l one ls apart.0 near in
      let met : same_key (key one) (key other) ≡ true = shares_to one other group id in
      let moved : same_key (key one) (key l) ≡ true = ap (λ y. same_key (key one) (key y)) (sym also) ∙ met in
      absurd (cc))
      (λ (behind : IsAmong other ls). apart_one ls apart.1 one other near behind group id)
      in_other)
      in_one

  pub no_pair : (entries : List (Label × List ℕ)) (o : Option (ℕ × ℕ)) → option_map (pair_at entries) o ≡ None → o ≡ None
  no_pair entries None none = refl
  no_pair entries (Some places) none = absurd (cc)

  pub clear_of_none : (ks : List (Bool × List ℕ)) → ClearOf same_key [] ks
  clear_of_none [] = tt
  clear_of_none (k ∷ ks) = (tt, clear_of_none ks)

  pub clash_tested : IsFree root numbers ↔ (first_clash (map (with_identifier root) (labels numbers)) ≡ None)
  clash_tested =
      let all = map (with_identifier root) (labels numbers) in (
        λ free. ap (option_map (pair_at all)) (apart_none same_key (map key_of all) [] (clear_of_none (map key_of all))
            (free_apart free (labels numbers) (listed_label numbers) (labels_sorted numbers))),
        λ none. record {
          one = λ one other is_one is_other group id.
              apart_one (labels numbers) (none_apart same_key (map key_of all) [] (no_pair all (first_repeat same_key (map key_of all)) none)).1
              one other (label_listed numbers one is_one) (label_listed numbers other is_other) group id;
        },
      )

pub tests_clashes : TestsClashes
tests_clashes root numbers = clash_tested root numbers
