use Rattle.std.proofs.Common.{◌≡◌, ◌-◌, ◌<ℤ◌, ◌-ℤ◌, unsigned_abs, min, unwrap_or, refl, sym, subst, rules}
use Rattle.std.specs.Int.{w64}
use Rattle.std.proofs.lemmas.Int.{to_z-of_z}
use Rattle.qe_edges.specs.Rules.{binary_digits, rules_of, IsSparsity, IsDomain, HasTrimFault}
use Rattle.qe_edges.proofs.RulesLemmas.{given_rules, trims_all, trims_short, make_domain, domain_has_none}
use Rattle.qe_edges.proofs.domain.Domain.new.Goals as goal
use Rattle.qe_edges.proofs.domain.Domain.new.Goals.{then-trim-bits-via-then-trim-bits, then-trim-bits-via-else-trim-bits+then-stored_from-gt-GREATEST_LOWEST_LEVEL}

pub returns-then-trim-bits-clause-trim : goal.returns-then-trim-bits-clause-trim
returns-then-trim-bits-clause-trim c =
    let a = c.args in
    let trim = c.unwrap_or-trim.result in
    let bits = c.binary_digits-bits.result in
    let ordered : a.min <ℤ a.max = search rules in
    let some : IsSparsity a.sparsity = search rules in
    let bits_is : bits ≡ binary_digits (unsigned_abs (a.max -ℤ a.min)) = search rules in
    let trim_is : trim ≡ unwrap_or a.trim (min 6 (bits - 1)) = search rules in
    let fault : HasTrimFault _ = elim c.then-trim-bits.branch [
      | then-trim-bits-via-then-trim-bits w ↦ trims_all a.min a.max a.sparsity a.trim bits trim ordered some bits_is
          trim_is w.if-trim-bits.true
      | then-trim-bits-via-else-trim-bits+then-stored_from-gt-GREATEST_LOWEST_LEVEL w ↦
          trims_short a.min a.max a.sparsity a.trim bits trim ordered some bits_is trim_is w.if-trim-bits.false
          w.stored_from.result w.stored_from.ensures w.if-stored_from-gt-GREATEST_LOWEST_LEVEL.true
    ] in
    (λ _. (ordered, some, fault), λ _. refl)

-- the rules as given make the domain
made : (c : goal.Else-stored_from-gt-GREATEST_LOWEST_LEVEL) → let a = c.args in IsDomain (rules_of a.min a.max a.sparsity a.trim)
    × (rules_of a.min a.max a.sparsity a.trim ≡ record { min = a.min; max = a.max; sparsity = a.sparsity; trim = c.unwrap_or-trim.result })
made c =
    let a = c.args in
    let trim = c.unwrap_or-trim.result in
    let bits = c.binary_digits-bits.result in
    let ordered : a.min <ℤ a.max = search rules in
    let some : IsSparsity a.sparsity = search rules in
    let bits_is : bits ≡ binary_digits (unsigned_abs (a.max -ℤ a.min)) = search rules in
    let trim_is : trim ≡ unwrap_or a.trim (min 6 (bits - 1)) = search rules in (
      make_domain a.min a.max a.sparsity a.trim bits trim ordered some bits_is trim_is c.if-trim-bits.false
          c.stored_from.result c.stored_from.ensures
          c.if-stored_from-gt-GREATEST_LOWEST_LEVEL.false c.ranges.min c.ranges.max,
      given_rules a.min a.max a.sparsity a.trim bits trim ordered some bits_is trim_is,
    )

pub invariant_of-result : goal.invariant_of-result
invariant_of-result c =
    let m = made c in
    rw (to_z-of_z w64 c.args.min c.ranges.min, to_z-of_z w64 c.args.max c.ranges.max) (subst IsDomain m.1 m.0)

pub returns-clause-ok : goal.returns-clause-ok
returns-clause-ok c = rw (to_z-of_z w64 c.args.min c.ranges.min, to_z-of_z w64 c.args.max c.ranges.max) (sym (made c).1)

pub returns-clause-domain : goal.returns-clause-domain
returns-clause-domain c = invariant_of-result c

pub returns-clause-trim : goal.returns-clause-trim
returns-clause-trim c = (λ same. cc, λ (_, _, fault). absurd (domain_has_none _ (made c).0 fault))
