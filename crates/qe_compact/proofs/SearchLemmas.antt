-- What a search found, as the definitions count it.
use Rattle.std.proofs.Common.{◌≡◌, ℕ, ◌+◌, ◌%◌, ◌^◌, ◌==◌, ◌&&◌, not, ap}
use Rattle.qe_esc.specs.Rows.{Rows}
use Rattle.qe_protocol.specs.Counting.{counted}
use Rattle.qe_protocol.specs.Units.{is_cleaned, is_mismatch, last_anchor}
use Rattle.qe_compact.specs.declared.rows.Search.{Search}
use Rattle.qe_compact.specs.Drafts.{count_of, IsSearch}

module _ (rows : Rows) (search : Search) (is : IsSearch rows search) where
  pub last_is : (search.found.null_apos + search.found.hop) % 2 ^ 64 ≡ last_anchor rows (count_of search)
  last_is = ap (λ (pair : ℕ × ℕ). (pair.0 + search.found.hop) % 2 ^ 64) is.null

  pub number_is : (search.found.base + search.found.count) % 2 ^ 64 ≡ counted rows (count_of search)
  number_is = ap (λ base. (base + search.found.count) % 2 ^ 64) is.base

  pub cleaned_is : (last number : ℕ) → last ≡ last_anchor rows (count_of search) → number ≡ counted rows (count_of search)
      → (search.found.has_null && (search.found.null_apos == last && (search.found.null_cpos == number))) ≡ is_cleaned rows (count_of search)
  cleaned_is last number last_same number_same = λ i. is.has_null i && ((is.null i).0 == last_same i && ((is.null i).1 == number_same i))

  pub mismatch_is : (not search.found.has_null && (search.found.hop == 0 && (search.found.count == 0))) ≡ is_mismatch rows (count_of search)
  mismatch_is = ap (λ b. not b && (search.found.hop == 0 && (search.found.count == 0))) is.has_null
