-- How far a run goes.
use Rattle.std.proofs.Common.{◌≡◌, ℕ, zero, suc, ◌+◌, ◌-◌, ◌<◌, ◌≤◌, Bool, true, false, sym, subst, arith, ⊎_elim}
use Rattle.std.proofs.lemmas.Bool.{cond_both, cases_lt, cases_eq}
use Rattle.qe_relation.specs.Shape.{run_up_to}

pub run_le : (n : ℕ) (there : ℕ → Bool) → run_up_to there n ≤ n
run_le zero there = omega arith
run_le (suc n) there =
    cond_both (there 1) (suc (run_up_to (λ i. there (i + 1)) n)) zero (λ r. r ≤ suc n)
    (λ _. omega (arith, run_le n (λ i. there (i + 1)))) (λ _. omega arith)

pub run_all : (n : ℕ) (there : ℕ → Bool) (i : ℕ) → 1 ≤ i → i ≤ run_up_to there n → there i ≡ true
run_all zero there i low high = absurd (omega arith)
run_all (suc n) there i low high =
    cond_both (there 1) (suc (run_up_to (λ j. there (j + 1)) n)) zero (λ r. i ≤ r → there i ≡ true)
    (λ first most. ⊎_elim
    (λ (one : i ≡ 1). subst (λ j. there j ≡ true) (sym one) first)
    (λ (more : i ≡ 1 → ⊥).
    let rest : there (i - 1 + 1) ≡ true = run_all n (λ j. there (j + 1)) (i - 1) (omega arith) (omega arith) in
    let back : i - 1 + 1 ≡ i = omega arith in
    subst (λ j. there j ≡ true) back rest)
    (cases_eq i 1))
    (λ _ most. absurd (omega arith)) high

pub run_stops : (n : ℕ) (there : ℕ → Bool) → run_up_to there n < n → there (run_up_to there n + 1) ≡ false
run_stops zero there less = absurd (omega arith)
run_stops (suc n) there less =
    let rest : ℕ = run_up_to (λ i. there (i + 1)) n in
    cond_both (there 1) (suc rest) zero (λ r. r < suc n → there (r + 1) ≡ false)
    (λ _ below.
    let stop : there (rest + 1 + 1) ≡ false = run_stops n (λ i. there (i + 1)) (omega arith) in
    let back : rest + 1 + 1 ≡ suc rest + 1 = omega arith in
    subst (λ j. there j ≡ false) back stop)
    (λ none _. none) less

pub run_is : (n : ℕ) (there : ℕ → Bool) (h : ℕ) → ((i : ℕ) → 1 ≤ i → i ≤ h → there i ≡ true) → h ≤ n → there (h + 1) ≡ false → run_up_to there n ≡ h
run_is n there h all within stop = ⊎_elim
    (λ (less : run_up_to there n < h).
    let missed : there (run_up_to there n + 1) ≡ false = run_stops n there (omega arith) in
    let hit : there (run_up_to there n + 1) ≡ true = all (run_up_to there n + 1) (omega arith) (omega arith) in
    cc)
    (λ (from : h ≤ run_up_to there n). ⊎_elim (λ (same : run_up_to there n ≡ h). same)
    (λ (apart : run_up_to there n ≡ h → ⊥).
    let hit : there (h + 1) ≡ true = run_all n there (h + 1) (omega arith) (omega arith) in
    cc)
    (cases_eq (run_up_to there n) h))
    (cases_lt (run_up_to there n) h)
