-- What a plan leaves: nothing where nothing is planned, and one more item where one is added.
use Rattle.std.proofs.Common.{◌≡◌, ℕ, List, [], ◌∷◌, ◌++◌, sym, ap, ◌∙◌, append_assoc, append-nil, None}
use Rattle.std.specs.FinMap.{empty}
use Rattle.qe_esc.specs.Changes.{changed, with_row}
use Rattle.qe_esc.proofs.ChangesLemmas.{changed-empty}
use Rattle.qe_ecoc.specs.declared.rows.Entry.{Entry}
use Rattle.qe_protocol.specs.State.{Index}
use Rattle.qe_indexing.specs.declared.plan.Plan.{Plan}
use Rattle.qe_indexing.specs.Plans.{planned}

pub planned-none : (index : Index) (plan : Plan) → plan.changes ≡ empty → plan.entries ≡ [] → planned index plan ≡ index
unfolding planned
planned-none index plan no_changes no_entries =
    λ i. record { rows = (ap (changed index.rows) no_changes ∙ changed-empty index.rows) i; ecoc = (ap (λ entries. index.ecoc ++ entries) no_entries ∙ append-nil index.ecoc) i }

pub planned-one : (index : Index) (old new : Plan) (id : List ℕ) (entry : Entry)
    → changed index.rows new.changes ≡ with_row (changed index.rows old.changes) id None → new.entries ≡ old.entries ++ entry ∷ []
    → planned index new ≡ record { rows = with_row (planned index old).rows id None; ecoc = (planned index old).ecoc ++ entry ∷ [] }
unfolding planned
planned-one index old new id entry rows entries =
    λ i. record { rows = rows i; ecoc = (ap (λ more. index.ecoc ++ more) entries ∙ sym (append_assoc index.ecoc old.entries (entry ∷ []))) i }
