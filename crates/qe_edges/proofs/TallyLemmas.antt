-- The walk's prefixes are at most 4,096: it climbs to wider blocks and then comes down, each over half as many.
use Rattle.std.proofs.Common.{◌≡◌, ℕ, ◌+◌, ◌-◌, ◌*◌, ◌%◌, ◌^◌, ◌<◌, ◌≤◌, inl, inr, sym, ap, ◌∙◌, subst, arith}
use Rattle.std.proofs.Math.Nat.{add-mod, mod-mod, mul-mod_left, mod-eq_of_lt, zero-add, add-mod_right}
use Rattle.std.proofs.lemmas.Nat.{pow_pos, pow-add, mod-pow-add, shr_below, le-div}
use Rattle.std.proofs.lemmas.Bool.{cases_lt}
use Rattle.qe_edges.specs.Rules.{Rules, bits_of, IsStored, IsDomain}
use Rattle.qe_edges.specs.Walk.{IsAlignedAlone, FitsAlone, IsWidestAt}
use Rattle.qe_edges.specs.declared.edge.Edge.{Edge}
use Rattle.qe_edges.proofs.LevelLemmas.{stored-le}
use Rattle.qe_edges.proofs.BlockLemmas.{size_at}
use Rattle.qe_edges.proofs.CountLemmas.{blocks_in, block_less}
use Rattle.qe_edges.proofs.BoundLemmas.{blocks_bound}

-- So many prefixes were taken. While the walk climbs, the strings from there to the last bound those that it still
-- takes so; once it comes down no wider block fits any more, and the strings that are left bound the rest.
pub data IsCounted (rules : Rules) (at end count : ℕ) : Type 0 where
  rising : count + blocks_in rules (bits_of rules) (2 ^ bits_of rules - at) ≤ 2048 → IsCounted rules at end count
  falling : (level : ℕ) → IsStored rules level → at % size_at rules level ≡ 0 → FitsAlone rules (end - at) level
      → count + blocks_in rules (bits_of rules) (end - at) ≤ 4096 → IsCounted rules at end count

pub counted_at_start : (rules : Rules) (at end : ℕ) → IsDomain rules → IsCounted rules at end 0
counted_at_start rules at end domain = let bound = blocks_bound rules domain (2 ^ bits_of rules - at) (omega arith) in rising (omega arith)

pub counted_at_end : (rules : Rules) (at end count : ℕ) → IsCounted rules at end count → count ≤ 4096
counted_at_end rules at end count (rising few) = omega arith
counted_at_end rules at end count (falling level stored aligned alone few) = omega arith

-- where a sum and its first part are multiples, the second part is
mod_rest : (a b d : ℕ) → (a + b) % d ≡ 0 → a % d ≡ 0 → b % d ≡ 0
mod_rest a b d sum first = sym (mod-mod b d) ∙ sym (ap (λ n. n % d) (ap (λ n. n + b % d) first ∙ zero-add (b % d))) ∙
    sym (add-mod a b d) ∙ sum

-- a power of 2 is a multiple of each one below
pow_multiple : (i k : ℕ) → k ≤ i → 2 ^ i % 2 ^ k ≡ 0
pow_multiple i k le =
    ap (λ n. n % 2 ^ k) (ap (λ e. 2 ^ e) (let e : i ≡ (i - k) + k = omega arith in e) ∙ pow-add 2 (i - k) k) ∙
    mul-mod_left (2 ^ (i - k)) (2 ^ k)

module _ (rules : Rules) (domain : IsDomain rules) (at end : ℕ) (new : Edge) (fits : end ≤ 2 ^ bits_of rules)
    (widest : IsWidestAt rules at end new) where
  aligned_at : at % size_at rules new.len ≡ 0
  aligned_at = ap (λ n. n % size_at rules new.len) (sym widest.begins) ∙ mul-mod_left new.prefix (size_at rules new.len)

  -- a step up: fewer blocks make up the strings behind
  one_up : IsAlignedAlone rules at new.len
      → blocks_in rules (bits_of rules) (2 ^ bits_of rules - (at + size_at rules new.len)) + 1
      ≡ blocks_in rules (bits_of rules) (2 ^ bits_of rules - at)
  one_up alone =
      let bits = bits_of rules in
      let size = size_at rules new.len in
      let high = widest.fits in
      let x = 2 ^ bits - at in
      let whole : 2 ^ bits ≡ at + x = omega arith in
      let less = block_less rules domain new.len x widest.stored (omega arith) (λ other stored short multiple.
      let within = stored-le rules new.len widest.stored in
      let rest = mod_rest at x size (ap (λ n. n % size) (sym whole) ∙ pow_multiple bits (bits - new.len) (omega arith)) aligned_at in
      let split = mod-pow-add x (new.len - other) (bits - new.len) in
      let product = ap (λ n. n * size) multiple in
      let far = ap (λ e. x % 2 ^ e) (let e : bits - other ≡ (new.len - other) + (bits - new.len) = omega arith in e) in
      let x_far : x % size_at rules other ≡ 0 = omega arith in
      let whole_far =
      ap (λ n. n % size_at rules other) (let e : x + at ≡ 2 ^ bits = omega arith in e)
      ∙ pow_multiple bits (bits - other) (omega arith)
      in
      alone other stored short (mod_rest x at (size_at rules other) whole_far x_far))
      in
      ap (λ n. blocks_in rules bits n + 1) (let e : 2 ^ bits - (at + size) ≡ x - size = omega arith in e) ∙ less

  -- a step down: fewer blocks make up the strings that are left
  one_down : FitsAlone rules (end - at) new.len
      → blocks_in rules (bits_of rules) (end - (at + size_at rules new.len)) + 1 ≡ blocks_in rules (bits_of rules) (end - at)
  one_down alone =
      let bits = bits_of rules in
      let size = size_at rules new.len in
      let high = widest.fits in
      let some = pow_pos (bits - new.len) in
      let x = end - at in
      let less = block_less rules domain new.len x widest.stored (omega arith) (λ other stored short multiple.
      let within = stored-le rules new.len widest.stored in
      let far : bits - other ≡ (new.len - other) + (bits - new.len) = omega arith in
      let small = subst (λ e. x < 2 ^ e) far (alone other stored short) in
      let few = shr_below x (new.len - other) (bits - new.len) small in
      let positive = le-div 1 x size some (omega arith) in
      let same = mod-eq_of_lt few in
      absurd (omega arith))
      in
      ap (λ n. blocks_in rules bits n + 1) (let e : end - (at + size) ≡ x - size = omega arith in e) ∙ less

  -- once the walk comes down it goes on so
  down : (count : ℕ) → FitsAlone rules (end - at) new.len → count + blocks_in rules (bits_of rules) (end - at) ≤ 4096
      → IsCounted rules (at + size_at rules new.len) end (count + 1)
  down count alone few =
      let less = one_down alone in
      falling new.len widest.stored (add-mod_right at (size_at rules new.len) ∙ aligned_at)
      (λ other stored short. let big = alone other stored short in omega arith) (omega arith)

  pub counted_on : (count : ℕ) → IsCounted rules at end count
      → IsCounted rules (at + size_at rules new.len) end (count + 1)
  counted_on count (rising few) =
      elim widest.shortest [
        | inl alone ↦ let less = one_up alone in rising (omega arith)
        | inr alone ↦ let bound = blocks_bound rules domain (end - at) (omega arith) in down count alone (omega arith)
      ]
  counted_on count (falling level stored aligned wide few) =
      elim widest.shortest [
        | inl alone ↦
            let longer : new.len ≤ level = elim (cases_lt level new.len) [
              | inl below ↦ absurd (alone level stored below aligned)
              | inr le ↦ le
            ] in
            down count (λ other other_stored short. wide other other_stored (omega arith)) few
        | inr alone ↦ down count alone few
      ]
