use Rattle.std.proofs.Common.{◌≡◌, List, ℕ, Option, None, Some, true, false, refl, sym}
use Rattle.qe_field.proofs.reading.id_of.Goals as goal

-- what can't be anything is nothing
none_from : (found : Option (List ℕ)) → (((x : List ℕ) × (found ≡ Some x)) → ⊥) → found ≡ None
none_from None never = refl
none_from (Some x) never = absurd (never (x, refl))

pub returns-in-Err : goal.returns-in-Err
returns-in-Err c = sym (none_from _ (λ some. let never : false ≡ true = c.in-Err.ensures.ok.1 some in cc))
