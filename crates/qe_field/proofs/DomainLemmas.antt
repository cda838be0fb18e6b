-- The domain that rules make, as a function that tests.
use Rattle.std.proofs.Common.{◌≡◌, ℕ, zero, suc, ◌<◌, ◌≤◌, ℤ, ◌<ℤ◌, ◌≤ℤ◌, ◌↔◌, inl, inr, Bool, true, false, ◌&&◌, List, [], ◌∷◌, ◌++◌, if◌then◌else◌, Option, refl, ap, subst, arith}
use Rattle.std.specs.Prelude.{Result, Ok, Err, IfOk, int_le, nat_le}
use Rattle.std.proofs.lemmas.Bool.{or_left, or_right, or_from, and_from, and_parts, cases_eq, ltb-false, leb-true, le-leb, lt-leb, ltb-true}
use Rattle.std.proofs.lemmas.Int.{ints}
use Rattle.qe_edges.specs.Rules.{Rules, rules_of, bits_of, IsStored, is_stored, stored_below, TellsStored, StoresOnlyLong, HasTrimFault, IsSparsity, IsDomain}
use Rattle.qe_edges.specs.declared.domain.DomainFault.{DomainFault}
use Rattle.qe_edges.specs.declared.domain.DomainFault.TheVariants.{MinNotBelowMax, SparsityRange, TrimRange}
use Rattle.qe_field.specs.Reading.{is_empty, has_trim_fault, domain_of}

untrue : (b : Bool) → (b ≡ true → ⊥) → b ≡ false
untrue true never = absurd (never refl)
untrue false never = refl

empty_parts : (xs ys : List ℕ) → xs ++ ys ≡ [] → (xs ≡ []) × (ys ≡ [])
empty_parts [] ys h = (refl, h)
empty_parts (x ∷ xs) ys h = cc

nothing : (xs : List ℕ) → is_empty xs ≡ true → xs ≡ []
nothing [] h = refl
nothing (x ∷ xs) h = cc

added : (b : Bool) (n : ℕ) → (if b then n ∷ [] else []) ≡ [] → b ≡ true → ⊥
added true n h e = cc
added false n h e = cc

-- no level is stored where none is listed
none_stored : TellsStored → (rules : Rules) (n : ℕ) → stored_below rules n ≡ [] → (level : ℕ) → level < n → IsStored rules level → ⊥
none_stored tells rules zero h level lt stored = absurd (omega arith)
none_stored tells rules (suc n) h level lt stored =
    let parts = empty_parts (stored_below rules n) (if is_stored rules n then n ∷ [] else []) h in
    elim (cases_eq level n) [
      | inl same ↦ added (is_stored rules n) n parts.1 ((tells rules n).1 (subst (IsStored rules) same stored))
      | inr other ↦ none_stored tells rules n parts.0 level (omega arith) stored
    ]

-- none is listed where none is stored
none_listed : (rules : Rules) (n : ℕ) → ((level : ℕ) → level < n → is_stored rules level ≡ false) → stored_below rules n ≡ []
none_listed rules zero none = refl
none_listed rules (suc n) none =
    rw (none_listed rules n (λ level lt. none level (omega arith)), none n (omega arith)) refl

has_fault : TellsStored → (rules : Rules) → HasTrimFault rules → has_trim_fault rules ≡ true
unfolding has_trim_fault
has_fault tells rules (inl long) = or_left _ _ (le-leb _ _ long)
has_fault tells rules (inr only) =
    or_right _ _ (ap is_empty (none_listed rules 11 (λ level lt. untrue _ (λ e. let above : 10 < level = only level ((tells rules level).0 e) in absurd (omega arith)))))

no_fault : TellsStored → (rules : Rules) → rules.trim < bits_of rules → (StoresOnlyLong rules → ⊥) → has_trim_fault rules ≡ false
unfolding has_trim_fault
no_fault tells rules trimmed short =
    or_from _ _ (lt-leb _ _ trimmed)
    (untrue _ (λ e. short (λ level stored.
    let past : (level < 11 → ⊥) = λ lt. none_stored tells rules 11 (nothing _ e) level lt stored in
    let above : 11 ≤ level = ltb-false _ _ (untrue _ (λ b. past (ltb-true _ _ b))) in
    omega arith)))

is_low : (a b : ℤ) → a ≤ℤ b → int_le a b ≡ true
is_low a b h = grind (arith, ints)

is_high : (a b : ℤ) → a <ℤ b → int_le b a ≡ false
is_high a b h = grind (arith, ints)

sparse : (n : ℕ) → IsSparsity n → (nat_le 1 n && nat_le n 8) ≡ true
sparse n some = and_from _ _ (le-leb _ _ some.0) (le-leb _ _ some.1)

not_sparse : (n : ℕ) → (IsSparsity n → ⊥) → (nat_le 1 n && nat_le n 8) ≡ false
not_sparse n never = untrue _ (λ e. let parts = and_parts _ _ e in never (leb-true _ _ parts.0, leb-true _ _ parts.1))

-- what the clauses of a domain's maker leave is one answer
pub one_domain : TellsStored → (low high : ℤ) (sparsity : ℕ) (trim : Option ℕ) (result : Result Rules DomainFault)
    → IfOk result (λ domain. domain ≡ rules_of low high sparsity trim) → IfOk result IsDomain
    → ((result ≡ Err MinNotBelowMax) ↔ (high ≤ℤ low))
    → ((result ≡ Err SparsityRange) ↔ ((low <ℤ high) × ¬ IsSparsity sparsity))
    → ((result ≡ Err TrimRange) ↔ ((low <ℤ high) × IsSparsity sparsity × HasTrimFault (rules_of low high sparsity trim)))
    → result ≡ domain_of low high sparsity trim
one_domain tells low high sparsity trim (Err MinNotBelowMax) ok domain order sparse_fault trim_fault =
    rw (is_low high low (order.0 refl)) refl
one_domain tells low high sparsity trim (Err SparsityRange) ok domain order sparse_fault trim_fault =
    let h = sparse_fault.0 refl in
    rw (is_high low high h.0, not_sparse sparsity h.1) refl
one_domain tells low high sparsity trim (Err TrimRange) ok domain order sparse_fault trim_fault =
    let h = trim_fault.0 refl in
    rw (is_high low high h.0, sparse sparsity h.1, has_fault tells (rules_of low high sparsity trim) h.2) refl
one_domain tells low high sparsity trim (Ok made) ok domain order sparse_fault trim_fault =
    let given = subst IsDomain ok domain in
    rw (is_high low high given.ordered, sparse sparsity given.sparsity, no_fault tells (rules_of low high sparsity trim) given.trim given.short) (ap Ok ok)
