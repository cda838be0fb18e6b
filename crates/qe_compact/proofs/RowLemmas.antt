-- A unit on a row.
use Rattle.std.proofs.Common.{◌≡◌, ℕ, ◌==◌, ◌&&◌, not, Bool, List, [], ◌∷◌, ◌++◌, true, false, sym, ap, ◌∙◌, subst}
use Rattle.qe_base.specs.declared.maintenance.Count.{Count}
use Rattle.qe_base.specs.declared.maintenance.JobKind.{JobKind}
use Rattle.qe_tokens.specs.declared.words.FieldToken.{FieldToken}
use Rattle.qe_esc.specs.Counts.{IsTrueCount}
use Rattle.qe_ecoc.specs.declared.opening.Opened.{Opened}
use Rattle.qe_ecoc.specs.declared.rows.Entry.{Entry}
use Rattle.qe_protocol.specs.Counting.{IsCounted}
use Rattle.qe_protocol.specs.Units.{Work, is_mismatch, opened_row, row_done}
use Rattle.qe_compact.specs.declared.rows.Search.{Search}
use Rattle.qe_compact.specs.declared.unit.Turn.TheVariants as t
use Rattle.qe_compact.specs.Drafts.{count_of, IsSearch}
use Rattle.qe_compact.specs.Turns.{GoesOn, IsNoted, IsUnit}
use Rattle.qe_compact.proofs.SearchLemmas.{mismatch_is}
use Rattle.qe_compact.proofs.TurnLemmas.{row_goes, row_stops}

module _ (kind : JobKind) (tokens : List FieldToken) (nonce : List ℕ) (before : Work) (row : Entry) (rest : List Entry) (opened : Opened) (search : Search)
    (first : before.aside ≡ row ∷ rest) (opened_is : opened ≡ opened_row tokens row) (token_is : search.token.0 ≡ opened.token) (found : IsSearch before.rows search)
    (counts counts_after : List Count) (fields fields_after : List ℕ) where
  abbrev searched : Count
  searched = record { token = opened.token; hop = search.found.hop; positions = search.found.count }

  same : count_of search ≡ searched
  same = λ i. record { token = token_is i; hop = search.found.hop; positions = search.found.count }

  is_counted : IsCounted before.rows (opened_row tokens row).token searched
  is_counted = record {
    searched = ap (λ (o : Opened). o.token) opened_is;
    is_true = subst (λ token. IsTrueCount before.rows token search.found.hop search.found.count) token_is found.counted;
  }

  abbrev is_wrong : Bool
  is_wrong = not search.found.has_null && (search.found.hop == 0 && (search.found.count == 0))

  wrong_is : is_mismatch before.rows searched ≡ is_wrong
  wrong_is = ap (is_mismatch before.rows) (sym same) ∙ sym (mismatch_is before.rows search found)

  noted : counts_after ≡ counts ++ searched ∷ [] → fields_after ≡ fields ++ row.field ∷ [] → IsNoted counts counts_after (searched ∷ []) fields fields_after (row ∷ [])
  noted all_counts all_fields = record { all_counts = all_counts; all_opened = all_fields }

  pub row_mismatched : counts_after ≡ counts ++ searched ∷ [] → fields_after ≡ fields ++ row.field ∷ [] → is_wrong ≡ true
      → IsUnit kind tokens nonce before before counts counts_after fields fields_after (t.Mismatch row.field)
  row_mismatched all_counts all_fields wrong = record {
    searched = searched ∷ [];
    rows = row ∷ [];
    noted = noted all_counts all_fields;
    turn_is = row_stops kind tokens nonce before row rest searched first is_counted (wrong_is ∙ wrong);
  }

  pub row_handled : counts_after ≡ counts ++ searched ∷ [] → fields_after ≡ fields ++ row.field ∷ [] → is_wrong ≡ false
      → (after : Work) → after ≡ row_done kind tokens nonce before row rest (count_of search)
      → IsUnit kind tokens nonce before after counts counts_after fields fields_after t.On
  row_handled all_counts all_fields right after after_is = record {
    searched = searched ∷ [];
    rows = row ∷ [];
    noted = noted all_counts all_fields;
    turn_is = subst (λ (work : Work). GoesOn kind tokens nonce before work (searched ∷ []) (row ∷ []))
        (sym (after_is ∙ ap (row_done kind tokens nonce before row rest) same))
        (row_goes kind tokens nonce before row rest searched first is_counted (wrong_is ∙ right));
  }
