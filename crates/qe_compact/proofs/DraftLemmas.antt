-- The work as it will be, after a unit.
use Rattle.std.proofs.Common.{◌≡◌, ℕ, ◌+◌, ◌≤◌, List, [], ◌++◌, length, drop, None, sym, ap, ◌∙◌, append_assoc, length-append, arith}
use Rattle.std.proofs.lemmas.List.{append-nil, drop-append-le}
use Rattle.std.specs.FinMap.{insert, empty}
use Rattle.qe_base.specs.declared.maintenance.Count.{Count}
use Rattle.qe_base.specs.declared.maintenance.JobKind.{JobKind}
use Rattle.qe_base.specs.declared.maintenance.JobKind.TheVariants.{Compact, Cleanup}
use Rattle.qe_tokens.specs.declared.words.FieldToken.{FieldToken}
use Rattle.qe_ecoc.specs.declared.rows.Entry.{Entry}
use Rattle.qe_esc.specs.Rows.{Rows}
use Rattle.qe_esc.specs.Changes.{Waiting, changed}
use Rattle.qe_esc.specs.Pairs.{null_pair}
use Rattle.qe_esc.proofs.ChangesLemmas.{changed-empty, changed-insert}
use Rattle.qe_protocol.specs.State.{Jobs}
use Rattle.qe_protocol.specs.Units.{row_done, doomed_done, captured_done, opened_row, leaf_count, anchors_after}
use Rattle.qe_compact.specs.declared.draft.Plan.{Plan}
use Rattle.qe_compact.specs.declared.draft.Taken.{Taken}
use Rattle.qe_compact.specs.Drafts.{worked, IsWithin, IsHandled}

-- nothing is planned or taken yet
pub worked_start : (rows : Rows) (jobs : Jobs) (leaves : ℕ)
    → worked rows jobs (record { changes = empty; doomed = [] }) (record { rows = 0; doomed = 0; captured = 0; leaves = leaves })
    ≡ record { rows = rows; aside = jobs.aside; doomed = jobs.doomed; captured = jobs.captured; leaves = leaves }
worked_start rows jobs leaves = λ i. record { rows = changed-empty rows i; aside = jobs.aside; doomed = append-nil jobs.doomed i; captured = jobs.captured; leaves = leaves }

module _ (rows : Rows) (jobs : Jobs) (plan : Plan) (taken : Taken) where
  pub doomed_taken : (changes : Waiting) (id : List ℕ) → changes ≡ insert plan.changes id None
      → worked rows jobs (record { changes = changes; doomed = plan.doomed }) (record { rows = taken.rows; doomed = taken.doomed + 1; captured = taken.captured; leaves = taken.leaves })
      ≡ doomed_done (worked rows jobs plan taken) id (drop (taken.doomed + 1) (jobs.doomed ++ plan.doomed))
  doomed_taken changes id is = λ i. record {
    rows = (ap (changed rows) is ∙ changed-insert rows plan.changes id None) i;
    aside = drop taken.rows jobs.aside;
    doomed = drop (taken.doomed + 1) (jobs.doomed ++ plan.doomed);
    captured = drop taken.captured jobs.captured;
    leaves = taken.leaves;
  }

  pub captured_taken : (changes : Waiting) (id : List ℕ) → changes ≡ insert plan.changes id None
      → worked rows jobs (record { changes = changes; doomed = plan.doomed }) (record { rows = taken.rows; doomed = taken.doomed; captured = taken.captured + 1; leaves = taken.leaves })
      ≡ captured_done (worked rows jobs plan taken) id (drop (taken.captured + 1) jobs.captured)
  captured_taken changes id is = λ i. record {
    rows = (ap (changed rows) is ∙ changed-insert rows plan.changes id None) i;
    aside = drop taken.rows jobs.aside;
    doomed = drop taken.doomed (jobs.doomed ++ plan.doomed);
    captured = drop (taken.captured + 1) jobs.captured;
    leaves = taken.leaves;
  }

  pub row_taken : (kind : JobKind) (tokens : List FieldToken) (after : Plan) (row : Entry) (count : Count) (nonce : List ℕ) (leaves : ℕ)
      → IsWithin jobs plan taken → IsHandled kind rows plan after count nonce → leaves ≡ leaf_count (opened_row tokens row).leaf
      → worked rows jobs after (record { rows = taken.rows + 1; doomed = taken.doomed; captured = taken.captured; leaves = taken.leaves + leaves })
      ≡ row_done kind tokens nonce (worked rows jobs plan taken) row (drop (taken.rows + 1) jobs.aside) count
  row_taken Compact tokens after row count nonce leaves within handled leaf = λ i. record {
    rows = handled.0 i;
    aside = drop (taken.rows + 1) jobs.aside;
    doomed = drop taken.doomed (jobs.doomed ++ handled.1 i);
    captured = drop taken.captured jobs.captured;
    leaves = taken.leaves + leaf i;
  }
  row_taken Cleanup tokens after row count nonce leaves within handled leaf =
      let more = anchors_after count.token (null_pair (changed rows plan.changes) count.token).0 count.hop in
      let few : taken.doomed ≤ length (jobs.doomed ++ plan.doomed) = omega (arith, within.doomed, length-append jobs.doomed plan.doomed) in
      let doomed : drop taken.doomed (jobs.doomed ++ after.doomed) ≡ drop taken.doomed (jobs.doomed ++ plan.doomed) ++ more =
      ap (λ (x : List (List ℕ)). drop taken.doomed (jobs.doomed ++ x)) handled.1
      ∙ ap (drop taken.doomed) (sym (append_assoc jobs.doomed plan.doomed more))
      ∙ drop-append-le taken.doomed (jobs.doomed ++ plan.doomed) more few in
      λ i. record {
        rows = handled.0 i;
        aside = drop (taken.rows + 1) jobs.aside;
        doomed = doomed i;
        captured = drop taken.captured jobs.captured;
        leaves = taken.leaves + leaf i;
      }
