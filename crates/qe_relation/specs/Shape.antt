-- How the rows of a token stand.
use Rattle.std.specs.Prelude.{ℕ, zero, suc, ◌+◌, ◌-◌, List, Bool, if◌then◌else◌}
use Rattle.qe_base.specs.declared.maintenance.Count.{Count}
use Rattle.qe_esc.specs.Rows.{Rows}
use Rattle.qe_esc.specs.Identifiers.{row_after}
use Rattle.qe_esc.specs.Pairs.{null_pair, base_of}
use Rattle.qe_esc.specs.declared.key.RowKind.TheVariants.{Anchor}

-- so many anchors a cleanup has taken out, so many follow them without a gap, and so many positions the last of these
-- counts, or the null anchor where none follows
pub record Shape : Type 0 where
  pub apos : ℕ
  pub hop : ℕ
  pub base : ℕ

-- the greatest number up to a bound for which all of 1 to it are there
abbrev pub run_up_to : (ℕ → Bool) → ℕ → ℕ
run_up_to there zero = zero
run_up_to there (suc n) = if there 1 then suc (run_up_to (λ i. there (i + 1)) n) else zero

-- so many anchors follow those that were taken out, a bound at most
abbrev pub anchors_behind : Rows → List ℕ → ℕ → ℕ
anchors_behind rows token bound = run_up_to (row_after rows Anchor token (null_pair rows token).0) bound

-- the shape of a token whose word was indexed n times: no more anchors than that are counted
unfoldable pub shape : Rows → List ℕ → ℕ → Shape
shape rows token n = record {
  apos = (null_pair rows token).0;
  hop = anchors_behind rows token n;
  base = base_of rows token (anchors_behind rows token n);
}

-- what a search finds of such a token
abbrev pub due_count : Rows → List ℕ → ℕ → Count
due_count rows token n = record { token = token; hop = (shape rows token n).hop; positions = n - (shape rows token n).base }
