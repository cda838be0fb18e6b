-- When rules make a domain, and when their trim factor doesn't.
use Rattle.std.proofs.Common.{◌≡◌, ℕ, ◌-◌, ◌<◌, ◌≤◌, min, max, ℤ, ◌-ℤ◌, ◌<ℤ◌, unsigned_abs, FitsSigned, Option, unwrap_or, inl, inr, sym, ap, ◌∙◌, arith}
use Rattle.std.specs.Int.{w64, next_multiple_of}
use Rattle.qe_edges.specs.Rules.{Rules, bits_of, binary_digits, rules_of, IsSparsity, HasTrimFault, IsDomain}
use Rattle.qe_edges.proofs.LevelLemmas.{level_from, shortest_from}

module _ (low high : ℤ) (sparsity : ℕ) (given : Option ℕ) (bits trim : ℕ) (ordered : low <ℤ high) (some : IsSparsity sparsity)
    (bits_is : bits ≡ binary_digits (unsigned_abs (high -ℤ low))) (trim_is : trim ≡ unwrap_or given (min 6 (bits - 1))) where
  abbrev rules : Rules
  rules = rules_of low high sparsity given

  whole : bits ≡ bits_of rules
  unfolding bits_of
  whole = bits_is

  trimmed : trim ≡ rules.trim
  trimmed = trim_is ∙ ap (λ b. unwrap_or given (min 6 (b - 1))) bits_is

  pub given_rules : rules ≡ record { min = low; max = high; sparsity = sparsity; trim = trim }
  given_rules = ap (λ (t : ℕ). let r : Rules = record { min = low; max = high; sparsity = sparsity; trim = t } in r) (sym trimmed)

  pub trims_all : bits ≤ trim → HasTrimFault rules
  trims_all le = let w = whole in let t = trimmed in inl (omega arith)

  module _ (kept : trim < bits) (lowest : ℕ) (lowest_is : lowest ≡ min (next_multiple_of (max 0 trim) sparsity) bits) where
    lowest_level : lowest ≡ level_from rules 0
    lowest_level =
        lowest_is
        ∙ ap (λ b. min (next_multiple_of (max 0 trim) sparsity) b) whole
        ∙ ap (λ t. min (next_multiple_of (max 0 t) sparsity) (bits_of rules)) trimmed

    pub trims_short : 10 < lowest → HasTrimFault rules
    trims_short long =
        let w = whole in
        let t = trimmed in
        let l = lowest_level in
        let found = shortest_from rules 0 some.0 (omega arith) (omega arith) in
        inr (λ level stored. let below = found.below level stored (omega arith) in omega arith)

    pub make_domain : lowest ≤ 10 → FitsSigned w64 low → FitsSigned w64 high → IsDomain rules
    make_domain short low_fits high_fits =
        let w = whole in
        let t = trimmed in
        let l = lowest_level in
        let found = shortest_from rules 0 some.0 (omega arith) (omega arith) in
        record {
          min_fits = low_fits;
          max_fits = high_fits;
          ordered = ordered;
          sparsity = some;
          trim = omega arith;
          short = λ long. let above = long (level_from rules 0) found.stored in omega arith;
        }

-- a domain has no such fault
pub domain_has_none : (rules : Rules) → IsDomain rules → HasTrimFault rules → ⊥
domain_has_none rules domain (inl trims) = let kept = domain.trim in omega arith
domain_has_none rules domain (inr long) = domain.short long
