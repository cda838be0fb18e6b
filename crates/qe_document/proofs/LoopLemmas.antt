-- Reading elements one after the other, as a loop of so many turns does.
use Rattle.std.proofs.Common.{◌≡◌, ℕ, suc, ◌+◌, ◌-◌, ◌<◌, ◌≤◌, List, [], ◌∷◌, ◌++◌, Option, None, Some, Result, Ok, Err, refl, sym, ◌∙◌, arith}
use Rattle.qe_value.specs.declared.fault.BsonFault.{BsonFault}
use Rattle.qe_value.specs.declared.fault.BsonFault.TheVariants.{At, NoMemory}
use Rattle.qe_value.specs.declared.fault.BsonKind.TheVariants.{NoTerminator}
use Rattle.qe_base.specs.Answers.{Refuses}
use Rattle.qe_value.specs.Faults.{bson_refusal}
use Rattle.qe_value.specs.Reading.{all_at}

module _ {A : Type 0} (one : List A → ℕ → List ℕ → Result (Option (A × List ℕ)) BsonFault) (end n i : ℕ) (before : List A) (rest : List ℕ) (total : Result (List A) BsonFault)
    (so_far : all_at one (n - i) before end rest ≡ total) where
  -- an element is read and others follow
  pub goes_on : (x : A) (after : List ℕ) → i < n → one before end rest ≡ Ok (Some (x, after)) → all_at one (n - (i + 1)) (before ++ x ∷ []) end after ≡ total
  unfolding all_at
  goes_on x after lt e =
      let turn : n - i ≡ suc (n - (i + 1)) = omega arith in
      sym (rw (turn, e) refl) ∙ so_far

  -- no element begins
  pub is_done : i < n → one before end rest ≡ Ok None → total ≡ Ok before
  unfolding all_at
  is_done lt e =
      let turn : n - i ≡ suc (n - (i + 1)) = omega arith in
      sym so_far ∙ rw (turn, e) refl

  -- an element has a fault
  pub fails : (fault : BsonFault) → i < n → Refuses (bson_refusal fault) (one before end rest) → Refuses (bson_refusal fault) total
  unfolding all_at
  fails NoMemory lt e = tt
  fails (At place kind) lt e =
      let turn : n - i ≡ suc (n - (i + 1)) = omega arith in
      sym so_far ∙ rw (turn, e) refl

  -- the turns are over
  pub runs_out : n ≤ i → total ≡ Err (At end NoTerminator)
  unfolding all_at
  runs_out le =
      let turn : n - i ≡ 0 = omega arith in
      sym so_far ∙ rw turn refl
