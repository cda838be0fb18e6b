-- What a step is about to do, and the work as it will be then.
use Rattle.std.specs.Prelude.{◌≡◌, ℕ, ◌+◌, ◌^◌, ◌<◌, ◌≤◌, List, [], ◌∷◌, ◌++◌, length, drop, Option, None, Some}
use Rattle.qe_base.specs.declared.maintenance.Count.{Count}
use Rattle.qe_base.specs.declared.maintenance.JobKind.{JobKind}
use Rattle.qe_base.specs.declared.maintenance.JobKind.TheVariants.{Compact, Cleanup}
use Rattle.qe_esc.specs.Rows.{Rows}
use Rattle.qe_esc.specs.Changes.{changed}
use Rattle.qe_esc.specs.Found.{IsFound}
use Rattle.qe_esc.specs.Pairs.{null_pair}
use Rattle.qe_protocol.specs.State.{Jobs}
use Rattle.qe_protocol.specs.Units.{Work, compacted, cleaned, anchors_after}
use Rattle.qe_compact.specs.declared.draft.Draft.{Draft}
use Rattle.qe_compact.specs.declared.draft.Plan.{Plan}
use Rattle.qe_compact.specs.declared.draft.Taken.{Taken}
use Rattle.qe_compact.specs.declared.draft.Subject.{Subject}
use Rattle.qe_compact.specs.declared.draft.Subject.TheVariants as n
use Rattle.qe_compact.specs.declared.rows.Search.{Search}

-- the work as it will be: rows with their changes, and lists without what was taken from their fronts
abbrev pub worked : Rows → Jobs → Plan → Taken → Work
worked rows jobs plan taken = record {
  rows = changed rows plan.changes;
  aside = drop taken.rows jobs.aside;
  doomed = drop taken.doomed (jobs.doomed ++ plan.doomed);
  captured = drop taken.captured jobs.captured;
  leaves = taken.leaves;
}

abbrev pub drafted : Rows → Jobs → Draft → Work
drafted rows jobs draft = worked rows jobs draft.plan draft.taken

-- no more was taken than is there, and the leaves are at most as many as rows were taken since the job began
pub record IsWithin (jobs : Jobs) (plan : Plan) (taken : Taken) : Type 0 where
  pub rows : taken.rows ≤ length jobs.aside
  pub doomed : taken.doomed ≤ length jobs.doomed + length plan.doomed
  pub captured : taken.captured ≤ length jobs.captured
  pub leaves : taken.leaves + length jobs.aside < 2 ^ 63 + taken.rows

-- the first item of a list and those behind it, or none of an empty list
abbrev pub IsFirst : {A : Type 0} → List A → List A → Option A → Type 0
IsFirst items rest None = items ≡ []
IsFirst items rest (Some item) = items ≡ item ∷ rest

-- what the next unit is about: a row aside; where none is left a doomed identifier; and then a captured one
abbrev pub IsSubject : Jobs → Draft → Work → Subject → Type 0
IsSubject jobs draft work (n.Row row) = work.aside ≡ row ∷ drop (draft.taken.rows + 1) jobs.aside
IsSubject jobs draft work (n.Doomed id) =
    (work.aside ≡ []) × (work.doomed ≡ id ∷ drop (draft.taken.doomed + 1) (jobs.doomed ++ draft.plan.doomed))
IsSubject jobs draft work (n.Captured id) =
    (work.aside ≡ []) × (work.doomed ≡ []) × (work.captured ≡ id ∷ drop (draft.taken.captured + 1) jobs.captured)
IsSubject jobs draft work n.Nothing = (work.aside ≡ []) × (work.doomed ≡ []) × (work.captured ≡ [])

-- one more can be counted of the list that it comes from
abbrev pub IsCountable : Taken → Subject → Type 0
IsCountable taken (n.Row row) = taken.rows + 1 < 2 ^ 64
IsCountable taken (n.Doomed id) = taken.doomed + 1 < 2 ^ 64
IsCountable taken (n.Captured id) = taken.captured + 1 < 2 ^ 64
IsCountable taken n.Nothing = Unit {0}

-- what a search found, as it is counted
abbrev pub count_of : Search → Count
count_of search = record { token = search.token.0; hop = search.found.hop; positions = search.found.count }

-- a search of the rows
abbrev pub IsSearch : Rows → Search → Type 0
IsSearch rows search = IsFound rows search.token.0 search.found

-- a row's unit writes what was counted, and dooms the anchors that a null anchor takes the place of
abbrev pub IsHandled : JobKind → Rows → Plan → Plan → Count → List ℕ → Type 0
IsHandled Compact rows before after count nonce =
    (changed rows after.changes ≡ compacted (changed rows before.changes) count nonce) × (after.doomed ≡ before.doomed)
IsHandled Cleanup rows before after count nonce =
    (changed rows after.changes ≡ cleaned (changed rows before.changes) count nonce)
    × (after.doomed ≡ before.doomed ++ anchors_after count.token (null_pair (changed rows before.changes) count.token).0 count.hop)
