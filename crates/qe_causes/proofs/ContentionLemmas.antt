-- Terms and values that the contentions refuse, and rows without a token.
use Rattle.std.proofs.Common.{◌≡◌, ◌<◌, ◌≤◌, ℕ, Bool, true, false, cond, List, [], ◌∷◌, Option, None, Some, refl, sym, ap, ◌∙◌, subst, inl, inr, arith}
use Rattle.std.specs.Prelude.{nat_lt}
use Rattle.std.specs.List.{AllByRecursion}
use Rattle.std.proofs.lemmas.Bool.{cases_Bool, ltb-true, ltb-false, lt-ltb, le-ltb}
use Rattle.qe_tokens.specs.declared.words.FieldToken.{FieldToken}
use Rattle.qe_ecoc.specs.declared.rows.Entry.{Entry}
use Rattle.qe_command.specs.declared.cells.SentCell.{SentCell}
use Rattle.qe_command.specs.declared.cells.SentCell.TheVariants as sent
use Rattle.qe_command.specs.declared.filter.SentTerm.{SentTerm}
use Rattle.qe_command.specs.declared.filter.SentTerm.TheVariants as t
use Rattle.qe_protocol.specs.declared.reply.Reply.{Reply}
use Rattle.qe_protocol.specs.declared.reply.Reply.TheVariants as r
use Rattle.qe_protocol.specs.Contention.{current_of, or_else, below_at, term_below, filter_below, over_at, cell_over, cells_over}
use Rattle.qe_protocol.specs.Jobs.{has_token, first_missing}
use Rattle.qe_causes.specs.Causes.{IsFirstOf, AsksFor, AsksForAll, HasFactor, IsInUse}
use Rattle.qe_causes.proofs.FirstLemmas.{some_none, none_some, same_some, first_refusal, Judges, all_pass, none_refused, first_fails, is_refused}

module _ (current : List ℕ) where
  -- TOO FEW FACTORS

  abbrev now : ℕ → ℕ
  now field = current_of current field

  -- a field's number of factors refuses
  abbrev BelowAt : ℕ → ℕ → Reply → Type 0
  BelowAt number greatest (r.ContentionBelow field got at) = ((number ≡ field) × (greatest ≡ got)) × (at ≡ now field) × (got < at)
  BelowAt number greatest _ = ⊥

  abbrev below_reply : ℕ → ℕ → Reply
  below_reply number greatest = r.ContentionBelow number greatest (now number)

  below_passes : (number greatest : ℕ) → below_at current number greatest ≡ None → now number ≤ greatest
  below_passes number greatest none = elim (cases_Bool (nat_lt greatest (now number))) [
    | inl t ↦ absurd (some_none (below_reply number greatest) (sym (ap (λ b. cond b (Some (below_reply number greatest)) None) t) ∙ none))
    | inr f ↦ ltb-false greatest (now number) f
  ]

  below_quiet : (number greatest : ℕ) → now number ≤ greatest → below_at current number greatest ≡ None
  below_quiet number greatest enough =
      ap (λ b. cond b (Some (below_reply number greatest)) None) (le-ltb greatest (now number) enough)

  below_fails : (number greatest : ℕ) (reply : Reply) → below_at current number greatest ≡ Some reply → BelowAt number greatest reply
  below_fails number greatest reply some = elim (cases_Bool (nat_lt greatest (now number))) [
    | inl t ↦
        let is : below_reply number greatest ≡ reply =
        same_some (below_reply number greatest) reply (sym (ap (λ b. cond b (Some (below_reply number greatest)) None) t) ∙ some) in
        subst (BelowAt number greatest) is ((refl, refl), refl, ltb-true greatest (now number) t)
    | inr f ↦ absurd (none_some reply (sym (ap (λ b. cond b (Some (below_reply number greatest)) None) f) ∙ some))
  ]

  below_refuses : (number greatest : ℕ) (reply : Reply) → BelowAt number greatest reply → below_at current number greatest ≡ Some reply
  below_refuses number greatest (r.ContentionBelow field got at) fails =
      let at_is : now number ≡ at = ap now fails.0.0 ∙ sym fails.1 in
      let less : greatest < now number = omega (arith, fails.0.1, fails.2, at_is) in
      ap (λ b. cond b (Some (below_reply number greatest)) None) (lt-ltb greatest (now number) less)
      ∙ (λ i. Some (r.ContentionBelow (fails.0.0 i) (fails.0.1 i) (at_is i)))
  below_refuses number greatest _ fails = absurd fails

  -- a term's
  abbrev pub TermFails : Reply → SentTerm → Type 0
  TermFails (r.ContentionBelow field got at) term = AsksFor term field got × (at ≡ now field) × (got < at)
  TermFails _ term = ⊥

  asks_all : (number own field greatest : ℕ) → now number ≤ own → (number ≡ field) × (own ≡ greatest) → now field ≤ greatest
  asks_all number own field greatest enough asks =
      let same : now number ≡ now field = ap now asks.0 in omega (arith, asks.1, same)

  term_passes : (term : SentTerm) → term_below current term ≡ None → AsksForAll current term
  term_passes (t.Id id) none = λ field greatest asks. absurd asks
  term_passes (t.Equal number payload) none = λ field greatest asks. asks_all number _ field greatest (below_passes number _ none) asks
  term_passes (t.Range number payload) none = λ field greatest asks. asks_all number _ field greatest (below_passes number _ none) asks

  term_quiet : (term : SentTerm) → AsksForAll current term → term_below current term ≡ None
  term_quiet (t.Id id) all = refl
  term_quiet (t.Equal number payload) all = below_quiet number _ (all number _ (refl, refl))
  term_quiet (t.Range number payload) all = below_quiet number _ (all number _ (refl, refl))

  of_equal : (number : ℕ) (greatest : ℕ) (reply : Reply) (Fails : Reply → Type 0)
      → ((field got at : ℕ) → BelowAt number greatest (r.ContentionBelow field got at) → Fails (r.ContentionBelow field got at))
      → BelowAt number greatest reply → Fails reply
  of_equal number greatest (r.ContentionBelow field got at) Fails tells fails = tells field got at fails
  of_equal number greatest _ Fails tells fails = absurd fails

  term_fails : (term : SentTerm) (reply : Reply) → term_below current term ≡ Some reply → TermFails reply term
  term_fails (t.Id id) reply some = absurd (none_some reply some)
  term_fails (t.Equal number payload) reply some =
      of_equal number _ reply (λ reply. TermFails reply (t.Equal number payload)) (λ field got at fails. (fails.0, fails.1, fails.2)) (below_fails number _ reply some)
  term_fails (t.Range number payload) reply some =
      of_equal number _ reply (λ reply. TermFails reply (t.Range number payload)) (λ field got at fails. (fails.0, fails.1, fails.2)) (below_fails number _ reply some)

  term_refuses : (term : SentTerm) (reply : Reply) → TermFails reply term → term_below current term ≡ Some reply
  term_refuses (t.Id id) (r.ContentionBelow field got at) fails = absurd fails.0
  term_refuses (t.Equal number payload) (r.ContentionBelow field got at) fails =
      below_refuses number _ (r.ContentionBelow field got at) (fails.0, fails.1, fails.2)
  term_refuses (t.Range number payload) (r.ContentionBelow field got at) fails =
      below_refuses number _ (r.ContentionBelow field got at) (fails.0, fails.1, fails.2)
  term_refuses term _ fails = absurd fails

  terms_judged : Judges (term_below current) (AsksForAll current) TermFails
  terms_judged = record { passes = term_passes; quiet = term_quiet; fails = term_fails; refuses = term_refuses }

  filter_first : (terms : List SentTerm) → filter_below current terms ≡ first_refusal (term_below current) terms
  filter_first [] = refl
  filter_first (term ∷ terms) = ap (or_else (term_below current term)) (filter_first terms)

  pub filter_passes : (terms : List SentTerm) → filter_below current terms ≡ None → AllByRecursion (AsksForAll current) terms
  filter_passes terms none = all_pass (term_below current) (AsksForAll current) TermFails terms_judged terms (sym (filter_first terms) ∙ none)

  pub filter_quiet : (terms : List SentTerm) → AllByRecursion (AsksForAll current) terms → filter_below current terms ≡ None
  filter_quiet terms all = filter_first terms ∙ none_refused (term_below current) (AsksForAll current) TermFails terms_judged terms all

  pub filter_fails : (terms : List SentTerm) (reply : Reply) → filter_below current terms ≡ Some reply → IsFirstOf (AsksForAll current) (TermFails reply) terms
  filter_fails terms reply some =
      first_fails (term_below current) (AsksForAll current) TermFails terms_judged reply terms (sym (filter_first terms) ∙ some)

  pub filter_refuses : (terms : List SentTerm) (reply : Reply) → IsFirstOf (AsksForAll current) (TermFails reply) terms → filter_below current terms ≡ Some reply
  filter_refuses terms reply first =
      filter_first terms ∙ is_refused (term_below current) (AsksForAll current) TermFails terms_judged reply terms first

  -- A FACTOR THAT ISN'T IN USE

  abbrev OverAt : ℕ → ℕ → Reply → Type 0
  OverAt number factor (r.ContentionOver field got at) = ((number ≡ field) × (factor ≡ got)) × (at ≡ now field) × (at < got)
  OverAt number factor _ = ⊥

  abbrev over_reply : ℕ → ℕ → Reply
  over_reply number factor = r.ContentionOver number factor (now number)

  over_passes : (number factor : ℕ) → over_at current number factor ≡ None → factor ≤ now number
  over_passes number factor none = elim (cases_Bool (nat_lt (now number) factor)) [
    | inl t ↦ absurd (some_none (over_reply number factor) (sym (ap (λ b. cond b (Some (over_reply number factor)) None) t) ∙ none))
    | inr f ↦ ltb-false (now number) factor f
  ]

  over_quiet : (number factor : ℕ) → factor ≤ now number → over_at current number factor ≡ None
  over_quiet number factor within =
      ap (λ b. cond b (Some (over_reply number factor)) None) (le-ltb (now number) factor within)

  over_fails : (number factor : ℕ) (reply : Reply) → over_at current number factor ≡ Some reply → OverAt number factor reply
  over_fails number factor reply some = elim (cases_Bool (nat_lt (now number) factor)) [
    | inl t ↦
        let is : over_reply number factor ≡ reply =
        same_some (over_reply number factor) reply (sym (ap (λ b. cond b (Some (over_reply number factor)) None) t) ∙ some) in
        subst (OverAt number factor) is ((refl, refl), refl, ltb-true (now number) factor t)
    | inr f ↦ absurd (none_some reply (sym (ap (λ b. cond b (Some (over_reply number factor)) None) f) ∙ some))
  ]

  over_refuses : (number factor : ℕ) (reply : Reply) → OverAt number factor reply → over_at current number factor ≡ Some reply
  over_refuses number factor (r.ContentionOver field got at) fails =
      let at_is : now number ≡ at = ap now fails.0.0 ∙ sym fails.1 in
      let less : now number < factor = omega (arith, fails.0.1, fails.2, at_is) in
      ap (λ b. cond b (Some (over_reply number factor)) None) (lt-ltb (now number) factor less)
      ∙ (λ i. Some (r.ContentionOver (fails.0.0 i) (fails.0.1 i) (at_is i)))
  over_refuses number factor _ fails = absurd fails

  abbrev cell_refused : ℕ × SentCell → Option Reply
  cell_refused cell = cell_over current cell.0 cell.1

  abbrev pub CellFails : Reply → ℕ × SentCell → Type 0
  CellFails (r.ContentionOver field got at) cell = HasFactor cell field got × (at ≡ now field) × (at < got)
  CellFails _ cell = ⊥

  in_use : (number own field factor : ℕ) → own ≤ now number → (number ≡ field) × (own ≡ factor) → factor ≤ now field
  in_use number own field factor within has =
      let same : now number ≡ now field = ap now has.0 in omega (arith, has.1, same)

  cell_passes : (number : ℕ) (cell : SentCell) → cell_over current number cell ≡ None → IsInUse current (number, cell)
  cell_passes number (sent.Plain value) none = λ field factor has. absurd has
  cell_passes number (sent.Payload payload) none = λ field factor has. in_use number _ field factor (over_passes number _ none) has

  cell_quiet : (number : ℕ) (cell : SentCell) → IsInUse current (number, cell) → cell_over current number cell ≡ None
  cell_quiet number (sent.Plain value) all = refl
  cell_quiet number (sent.Payload payload) all = over_quiet number _ (all number _ (refl, refl))

  of_over : (number factor : ℕ) (reply : Reply) (Fails : Reply → Type 0)
      → ((field got at : ℕ) → OverAt number factor (r.ContentionOver field got at) → Fails (r.ContentionOver field got at))
      → OverAt number factor reply → Fails reply
  of_over number factor (r.ContentionOver field got at) Fails tells fails = tells field got at fails
  of_over number factor _ Fails tells fails = absurd fails

  cell_fails : (number : ℕ) (cell : SentCell) (reply : Reply) → cell_over current number cell ≡ Some reply → CellFails reply (number, cell)
  cell_fails number (sent.Plain value) reply some = absurd (none_some reply some)
  cell_fails number (sent.Payload payload) reply some =
      of_over number _ reply (λ reply. CellFails reply (number, sent.Payload payload)) (λ field got at fails. (fails.0, fails.1, fails.2)) (over_fails number _ reply some)

  cell_refuses : (number : ℕ) (cell : SentCell) (reply : Reply) → CellFails reply (number, cell) → cell_over current number cell ≡ Some reply
  cell_refuses number (sent.Plain value) (r.ContentionOver field got at) fails = absurd fails.0
  cell_refuses number (sent.Payload payload) (r.ContentionOver field got at) fails =
      over_refuses number _ (r.ContentionOver field got at) (fails.0, fails.1, fails.2)
  cell_refuses number cell _ fails = absurd fails

  cells_judged : Judges cell_refused (IsInUse current) CellFails
  cells_judged = record {
    passes = λ cell. cell_passes cell.0 cell.1;
    quiet = λ cell. cell_quiet cell.0 cell.1;
    fails = λ cell. cell_fails cell.0 cell.1;
    refuses = λ cell. cell_refuses cell.0 cell.1;
  }

  cells_first : (cells : List (ℕ × SentCell)) → cells_over current cells ≡ first_refusal cell_refused cells
  cells_first [] = refl
  cells_first (cell ∷ cells) = ap (or_else (cell_over current cell.0 cell.1)) (cells_first cells)

  pub cells_pass : (cells : List (ℕ × SentCell)) → cells_over current cells ≡ None → AllByRecursion (IsInUse current) cells
  cells_pass cells none = all_pass cell_refused (IsInUse current) CellFails cells_judged cells (sym (cells_first cells) ∙ none)

  pub cells_quiet : (cells : List (ℕ × SentCell)) → AllByRecursion (IsInUse current) cells → cells_over current cells ≡ None
  cells_quiet cells all = cells_first cells ∙ none_refused cell_refused (IsInUse current) CellFails cells_judged cells all

  pub cells_fail : (cells : List (ℕ × SentCell)) (reply : Reply) → cells_over current cells ≡ Some reply → IsFirstOf (IsInUse current) (CellFails reply) cells
  cells_fail cells reply some = first_fails cell_refused (IsInUse current) CellFails cells_judged reply cells (sym (cells_first cells) ∙ some)

  pub cells_refuse : (cells : List (ℕ × SentCell)) (reply : Reply) → IsFirstOf (IsInUse current) (CellFails reply) cells → cells_over current cells ≡ Some reply
  cells_refuse cells reply first = cells_first cells ∙ is_refused cell_refused (IsInUse current) CellFails cells_judged reply cells first

-- ROWS WITHOUT A TOKEN

module _ (tokens : List FieldToken) where
  abbrev missing_at : Entry → Option ℕ
  missing_at row = cond (has_token tokens row.field) None (Some row.field)

  abbrev pub HasToken : Entry → Type 0
  HasToken row = has_token tokens row.field ≡ true

  abbrev pub IsWithout : ℕ → Entry → Type 0
  IsWithout field row = (row.field ≡ field) × (has_token tokens row.field ≡ false)

  row_passes : (row : Entry) → missing_at row ≡ None → HasToken row
  row_passes row none = elim (cases_Bool (has_token tokens row.field)) [
    | inl t ↦ t
    | inr f ↦ absurd (some_none row.field (sym (ap (λ b. cond b None (Some row.field)) f) ∙ none))
  ]

  row_fails : (row : Entry) (field : ℕ) → missing_at row ≡ Some field → IsWithout field row
  row_fails row field some = elim (cases_Bool (has_token tokens row.field)) [
    | inl t ↦ absurd (none_some field (sym (ap (λ b. cond b None (Some row.field)) t) ∙ some))
    | inr f ↦ (same_some row.field field (sym (ap (λ b. cond b None (Some row.field)) f) ∙ some), f)
  ]

  rows_judged : Judges missing_at HasToken IsWithout
  rows_judged = record {
    passes = row_passes;
    quiet = λ row has. ap (λ b. cond b None (Some row.field)) has;
    fails = row_fails;
    refuses = λ row field fails. ap (λ b. cond b None (Some row.field)) fails.1 ∙ ap (λ n. Some n) fails.0;
  }

  one_missing : (b : Bool) (field : ℕ) (rest : Option ℕ) → cond b rest (Some field) ≡ or_else (cond b None (Some field)) rest
  one_missing true field rest = refl
  one_missing false field rest = refl

  missing_first : (rows : List Entry) → first_missing tokens rows ≡ first_refusal missing_at rows
  missing_first [] = refl
  missing_first (row ∷ rows) =
      one_missing (has_token tokens row.field) row.field (first_missing tokens rows) ∙ ap (or_else (missing_at row)) (missing_first rows)

  pub missing_fails : (rows : List Entry) (field : ℕ) → first_missing tokens rows ≡ Some field → IsFirstOf HasToken (IsWithout field) rows
  missing_fails rows field some = first_fails missing_at HasToken IsWithout rows_judged field rows (sym (missing_first rows) ∙ some)

  pub missing_is : (rows : List Entry) (field : ℕ) → IsFirstOf HasToken (IsWithout field) rows → first_missing tokens rows ≡ Some field
  missing_is rows field first = missing_first rows ∙ is_refused missing_at HasToken IsWithout rows_judged field rows first
