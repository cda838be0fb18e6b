-- The header's callers, and a line's caller, who is one of them.
use Rattle.std.proofs.Common.{◌≡◌, ℕ, zero, suc, ◌+◌, ◌<◌, ◌^◌, List, [], ◌∷◌, ◌++◌, length, get_or, Bool, true, false, cond, Option, None, Some, refl, ap, subst, arith, length-append, rules}
use Rattle.std.proofs.lemmas.Bool.{and_parts, or_parts, leb-true}
use Rattle.std.proofs.lemmas.List.Elements.{All-push}
use Rattle.std.proofs.lemmas.List.Quantifiers.{all_pairs_push}
use Rattle.std.specs.List.{AllPairs}
use Rattle.std.specs.Prelude.{All, Ok, Err, not, bytes_eq, codes, nat_lt, nat_le, ◌&&◌, option_and_then}
use Rattle.serde_json.specs.Data.{Data, Items, no_items, item, Members}
use Rattle.serde_json.specs.Events.{items_len}
use Rattle.serde_json.specs.Find.{as_array, as_str, get_member}
use Rattle.qe_schema.specs.Judgements.{some_or}
use Rattle.qe_schema.specs.Names.{is_path}
use Rattle.qe_raw.specs.Callers as raw
use Rattle.qe_script.specs.Callers.{bad_callers, fresh, is_among, caller_of, callers_after, is_some_few, some_callers, callers_from, callers_in}
use Rattle.qe_script.specs.Read.{IsName, Differ, AreCallers}
use Rattle.qe_field.proofs.GaveLemmas.{gave, there, found}

place_within : (i : ℕ) (name : List ℕ) (callers : List (List ℕ)) (n : ℕ) → raw.place_from i name callers ≡ Some n → n < i + length callers
place_within i name [] n h = cc
place_within i name (caller ∷ callers) n h =
    by_test (bytes_eq name caller) h (λ later. let inner = place_within (i + 1) name callers n later in omega arith)
  where
    by_test : (b : Bool) → cond b (Some i) (raw.place_from (i + 1) name callers) ≡ Some n
        → (raw.place_from (i + 1) name callers ≡ Some n → n < i + suc (length callers)) → n < i + suc (length callers)
    by_test true here later = let e : i ≡ n = cc in omega arith
    by_test false here later = later here

in_bits : (m n : ℕ) → raw.in_32_bits m ≡ Some n → m ≡ n
in_bits m n h = by_test (nat_lt m (2 ^ 32)) h
  where
    by_test : (b : Bool) → cond b (Some m) None ≡ Some n → m ≡ n
    by_test true e = cc
    by_test false e = cc

number_within : (callers : List (List ℕ)) (name : List ℕ) (n : ℕ) → raw.number_of callers name ≡ Some n → n < length callers
number_within callers name n h =
    let placed = found raw.in_32_bits (raw.place_from 0 name callers) n h in
    let within = place_within 0 name callers placed.value placed.is in
    let same = in_bits placed.value n placed.then_is in
    omega arith

caller_within : (callers : List (List ℕ)) (given : Option Data) (n : ℕ) → 0 < length callers → raw.caller_from callers given ≡ Ok n → n < length callers
caller_within callers None n some h = let e : 0 ≡ n = cc in omega arith
caller_within callers (Some d) n some h =
    let named = found (raw.number_of callers) (as_str d) n (there _ (option_and_then (raw.number_of callers) (as_str d)) n h) in
    number_within callers named.value n named.then_is

-- a line's caller is one of the callers, where there is one
pub caller_is : (callers : List (List ℕ)) (ms : Members) (n : ℕ) → 0 < length callers → raw.caller_in callers ms ≡ Ok n → n < length callers
caller_is callers ms n some h = caller_within callers (get_member (codes "by") ms) n some h

no_name : All IsName []
no_name k d lt = absurd (omega arith)

no_pair : AllPairs Differ []
no_pair = search rules

-- names so far
record Named (names : List (List ℕ)) : Type 0 where
  pub each : All IsName names
  pub apart : AllPairs Differ names

none_among : (name : List ℕ) (names : List (List ℕ)) → is_among name names ≡ false
    → (k : ℕ) (d : List ℕ) → k < length names → bytes_eq name (get_or names k d) ≡ false
none_among name [] none k d lt = absurd (omega arith)
none_among name (other ∷ names) none zero d lt = (or_parts (bytes_eq name other) (is_among name names) none).0
none_among name (other ∷ names) none (suc k) d lt = none_among name names (or_parts (bytes_eq name other) (is_among name names) none).1 k d (omega arith)

not_true : (b : Bool) → not b ≡ true → b ≡ false
not_true true e = cc
not_true false e = refl

fresh_named : (earlier : List (List ℕ)) (text name : List ℕ) → Named earlier → fresh earlier text ≡ Some name → Named (earlier ++ name ∷ [])
fresh_named earlier text name so h = by_test (is_path text && not (is_among text earlier)) refl h
  where
    by_test : (b : Bool) → (is_path text && not (is_among text earlier)) ≡ b → cond b (Some text) None ≡ Some name → Named (earlier ++ name ∷ [])
    by_test true e made =
        let both = and_parts (is_path text) (not (is_among text earlier)) e in
        let same : text ≡ name = cc in
        subst (λ (n : List ℕ). Named (earlier ++ n ∷ [])) same (record {
          each = All-push IsName earlier text so.each both.0;
          apart = all_pairs_push Differ earlier text so.apart (none_among text earlier (not_true (is_among text earlier) both.1));
        })
    by_test false e made = cc

caller_named : (earlier : List (List ℕ)) (d : Data) (name : List ℕ) → Named earlier → caller_of earlier d ≡ Ok name → Named (earlier ++ name ∷ [])
caller_named earlier d name so h =
    let text = found (fresh earlier) (as_str d) name (there _ (option_and_then (fresh earlier) (as_str d)) name h) in
    fresh_named earlier text.value name so text.then_is

-- names behind the earlier ones
record After (earlier : List (List ℕ)) (ds : Items) (callers : List (List ℕ)) : Type 0 where
  pub count : length earlier + items_len ds ≡ length callers
  pub named : Named callers

after_is : (earlier : List (List ℕ)) (ds : Items) (callers : List (List ℕ)) → Named earlier → callers_after earlier ds ≡ Ok callers → After earlier ds callers
after_is earlier no_items callers so h =
    let e : earlier ≡ callers = cc in
    let same = ap length e in
    record { count = omega arith; named = subst Named e so }
after_is earlier (item d ds) callers so h =
    let one = gave (caller_of earlier d) (λ name. callers_after (earlier ++ name ∷ []) ds) callers h in
    let rest = after_is (earlier ++ one.value ∷ []) ds callers (caller_named earlier d one.value so one.found) one.then_is in
    let counted = rest.count in
    let longer = length-append earlier (one.value ∷ []) in
    record { count = omega arith; named = rest.named }

few_are : (ds : Items) (callers : List (List ℕ)) → some_callers ds ≡ Ok callers → AreCallers callers
unfolding is_some_few
few_are ds callers h = by_test (nat_le 1 (items_len ds) && nat_le (items_len ds) 16) refl h
  where
    by_test : (b : Bool) → (nat_le 1 (items_len ds) && nat_le (items_len ds) 16) ≡ b → cond b (callers_after [] ds) (Err bad_callers) ≡ Ok callers → AreCallers callers
    by_test true e made =
        let both = and_parts (nat_le 1 (items_len ds)) (nat_le (items_len ds) 16) e in
        let least = leb-true 1 (items_len ds) both.0 in
        let most = leb-true (items_len ds) 16 both.1 in
        let all = after_is [] ds callers (record { each = no_name; apart = no_pair }) made in
        let counted = all.count in
        record { some = omega arith; few = omega arith; each = all.named.each; apart = all.named.apart }
    by_test false e made = cc

given_are : (given : Option Data) (callers : List (List ℕ)) → callers_from given ≡ Ok callers → AreCallers callers
given_are None callers h =
    let e : codes "a" ∷ [] ≡ callers = cc in
    subst AreCallers e (record { some = omega arith; few = omega arith; each = All-push IsName [] (codes "a") no_name refl; apart = all_pairs_push Differ [] (codes "a") no_pair (λ k d lt. absurd (omega arith)) })
given_are (Some d) callers h =
    let items = gave (some_or bad_callers (as_array d)) some_callers callers h in
    few_are items.value callers items.then_is

-- the header's callers are such
pub callers_are : (ms : Members) (callers : List (List ℕ)) → callers_in ms ≡ Ok callers → AreCallers callers
callers_are ms callers h = given_are (get_member (codes "callers") ms) callers h
