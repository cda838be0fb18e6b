use Rattle.std.proofs.Common.{◌≡◌, ℕ, ◌<◌, [], length}
use Rattle.std.specs.List.{slice_index_or}
use Rattle.qe_label_rows.specs.declared.row.WordTokens.{WordTokens}
use Rattle.qe_label_rows.specs.Made.{token_for}
use Rattle.qe_label_rows.proofs.keys.first_tokens.Given as goal

abbrev pub invariant-loop-lane : goal.invariant-loop-lane
invariant-loop-lane l =
    (length l.tokens ≡ 16) × ((lane : ℕ) (d : WordTokens) → lane < l.lane → slice_index_or l.tokens lane [] ≡ token_for l.kind (slice_index_or l.words lane d))
