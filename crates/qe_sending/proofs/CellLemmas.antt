-- Cells that are sent, one after another, and the words that are drawn for them.
use Rattle.std.proofs.Common.{◌≡◌, ◌<◌, ◌≤◌, ◌+◌, ◌-◌, ℕ, zero, suc, Bool, true, false, cond, List, [], ◌∷◌, ◌++◌, length, map, get_or, take, drop, Option, None, Some, refl, sym, ap, ◌∙◌, subst, arith}
use Rattle.std.specs.Prelude.{ℤ, slice_index}
use Rattle.std.specs.List.Sorted.{IsStrictlyIncreasing}
use Rattle.std.proofs.lemmas.List.{drop_more, drop_all, take_more, map-append, length-map, length-append, take-append-drop}
use Rattle.qe_edges.specs.Rules.{Rules, bits_of, is_stored, offset_of, stored_below, stored_levels}
use Rattle.qe_edges.specs.Prefixes.{prefix_of}
use Rattle.qe_field.specs.declared.field.Field.{Field}
use Rattle.qe_field.specs.declared.field.FieldKind.{FieldKind}
use Rattle.qe_field.specs.declared.field.FieldKind.TheVariants as k
use Rattle.qe_field.specs.Values.{number_in}
use Rattle.qe_value.specs.declared.value.Plain.{Plain}
use Rattle.qe_command.specs.declared.cells.SentCell.{SentCell}
use Rattle.qe_plain.specs.declared.command.PlainCell.{PlainCell}
use Rattle.qe_store.specs.Cells.{AreRising}
use Rattle.qe_encodes.specs.Callers.{Caller, contention_of}
use Rattle.qe_labels.specs.Under.{Under}
use Rattle.qe_encodes.specs.Draws.{Stream, cell_draws, cells_draws, drawn_at, value_draws}
use Rattle.qe_encodes.specs.Fields.{kind_at}
use Rattle.qe_encodes.specs.Items.{edges_for, value_edges}
use Rattle.qe_encodes.specs.Payloads.{sent_value}
use Rattle.qe_encodes.specs.Sending.{Sender, cells_sent, stream_of}
use Rattle.qe_sending.proofs.LoopLemmas.{loop_next, loop_end}

module _ (sender : Sender) (caller : Caller) where
  one_cell : PlainCell → ℕ → ℕ × SentCell
  one_cell cell place = (
    cell.field,
    sent_value sender.under sender.leaves cell.field (drawn_at (stream_of sender caller.number) (contention_of caller.contentions cell.field) place)
        (kind_at sender.under.schema cell.field) cell.value,
  )

  pub cells_next : (cells : List PlainCell) (i place after : ℕ) (cell : PlainCell) (made whole : List (ℕ × SentCell)) (sent : SentCell) → i < length cells
      → cell ≡ get_or cells i cell
      → sent ≡ sent_value sender.under sender.leaves cell.field (drawn_at (stream_of sender caller.number) (contention_of caller.contentions cell.field) place)
      (kind_at sender.under.schema cell.field) cell.value
      → after ≡ place + cell_draws sender.under.schema cell
      → made ++ cells_sent sender caller (drop i cells) place ≡ whole
      → (made ++ (cell.field, sent) ∷ []) ++ cells_sent sender caller (drop (i + 1) cells) after ≡ whole
  unfolding one_cell
  cells_next cells i place after cell made whole sent less is one next so_far =
      loop_next (cells_sent sender caller) one_cell (λ x n. n + cell_draws sender.under.schema x) (λ x xs n. refl) cells i place after cell made whole
      (cell.field, sent) less is (ap (λ (s : SentCell). (cell.field, s)) one) next so_far

  pub cells_end : (cells : List PlainCell) (i place : ℕ) (made whole : List (ℕ × SentCell)) → length cells ≤ i
      → made ++ cells_sent sender caller (drop i cells) place ≡ whole → made ≡ whole
  unfolding one_cell
  cells_end cells i place made whole past so_far =
      loop_end (cells_sent sender caller) one_cell (λ x n. n + cell_draws sender.under.schema x) (λ x xs n. refl) (λ n. refl) cells i place made whole past so_far

  -- what is sent of a cell, by parts that are equal
  pub one_sent : (cell : PlainCell) (place : ℕ) (u : Under) (leaves : Bool) (stream : Stream) (most : ℕ) (value : Plain) (sent : SentCell)
      → u ≡ sender.under → leaves ≡ sender.leaves → stream ≡ stream_of sender caller.number → most ≡ contention_of caller.contentions cell.field → value ≡ cell.value
      → sent ≡ sent_value u leaves cell.field (drawn_at stream most place) (kind_at u.schema cell.field) value
      → sent ≡ sent_value sender.under sender.leaves cell.field (drawn_at (stream_of sender caller.number) (contention_of caller.contentions cell.field) place)
      (kind_at sender.under.schema cell.field) cell.value
  one_sent cell place u leaves stream most value sent u_is leaves_is stream_is most_is value_is is =
      is ∙ λ i. sent_value (u_is i) (leaves_is i) cell.field (drawn_at (stream_is i) (most_is i) place) (kind_at (u_is i).schema cell.field) (value_is i)

  -- .. and the words that are drawn for it
  pub one_drawn : (cell : PlainCell) (u : Under) (value : Plain) → u ≡ sender.under → value ≡ cell.value
      → value_draws (kind_at u.schema cell.field) value ≡ cell_draws sender.under.schema cell
  one_drawn cell u value u_is value_is = λ i. value_draws (kind_at (u_is i).schema cell.field) (value_is i)

-- the words of the first of those that are left
pub words_next : (fields : List Field) (cells : List PlainCell) (i : ℕ) (cell : PlainCell) → i < length cells → cell ≡ get_or cells i cell
    → cells_draws fields (drop i cells) ≡ cell_draws fields cell + cells_draws fields (drop (i + 1) cells)
words_next fields cells i cell less is = ap (cells_draws fields) (drop_more cells i cell less ∙ ap (λ one. one ∷ drop (i + 1) cells) (sym is))

pub words_end : (fields : List Field) (cells : List PlainCell) (i : ℕ) → length cells ≤ i → cells_draws fields (drop i cells) ≡ 0
words_end fields cells i past = ap (cells_draws fields) (drop_all i cells past)

-- a value has few edges, and so few words are drawn for it
stored_few : (rules : Rules) (level : ℕ) → length (stored_below rules level) ≤ level
stored_few rules zero = omega arith
stored_few rules (suc level) = by_test (stored_few rules level) (is_stored rules level)
  where
    by_test : length (stored_below rules level) ≤ level → (b : Bool) → length (stored_below rules level ++ cond b (level ∷ []) []) ≤ suc level
    by_test few true = omega (arith, few, length-append (stored_below rules level) (level ∷ []))
    by_test few false = omega (arith, few, length-append (stored_below rules level) [])

bits_few : (rules : Rules) → bits_of rules ≤ 64
unfolding bits_of
bits_few rules = omega arith

edges_few : (rules : Rules) (value : Plain) → length (value_edges rules value) ≤ 65
edges_few rules value = by_number (number_in value)
  where
    by_number : (number : Option ℤ) → length (edges_for rules number) ≤ 65
    by_number None = omega arith
    by_number (Some z) =
        omega (arith, length-map (stored_levels rules) (prefix_of rules (offset_of rules z)), stored_few rules (bits_of rules + 1), bits_few rules)

pub draws_few : (kind : FieldKind) (value : Plain) → value_draws kind value ≤ 270
draws_few k.Plain value = omega arith
draws_few (k.Equality id kind contention greatest) value = omega arith
draws_few (k.Range id kind contention greatest domain) value = omega (arith, edges_few domain value)

-- the front of rising numbers rises
front_rises : (xs ys : List ℕ) → IsStrictlyIncreasing (xs ++ ys) → IsStrictlyIncreasing xs
front_rises xs ys rising n less =
    omega (arith, index_front xs ys n (omega arith), index_front xs ys (n + 1) less, rising n (omega (arith, length-append xs ys)))
  where
    index_front : (xs ys : List ℕ) (n : ℕ) → n < length xs → slice_index (xs ++ ys) n ≡ slice_index xs n
    index_front [] ys n less = absurd (omega arith)
    index_front (x ∷ xs) ys zero less = refl
    index_front (x ∷ xs) ys (suc n) less = index_front xs ys n (omega arith)

-- the cells so far rise with the next one
pub rising_next : (cells : List PlainCell) (i : ℕ) (cell : PlainCell) (made : List (ℕ × SentCell)) (sent : SentCell)
    → IsStrictlyIncreasing (map (λ (cell : PlainCell). cell.field) cells) → i < length cells → cell ≡ get_or cells i cell
    → map (λ (c : ℕ × SentCell). c.0) made ≡ map (λ (cell : PlainCell). cell.field) (take i cells)
    → AreRising (made ++ (cell.field, sent) ∷ [])
    × (map (λ (c : ℕ × SentCell). c.0) (made ++ (cell.field, sent) ∷ []) ≡ map (λ (cell : PlainCell). cell.field) (take (i + 1) cells))
rising_next cells i cell made sent rising less is so_far =
    let number : PlainCell → ℕ = λ (cell : PlainCell). cell.field in
    let more : take (i + 1) cells ≡ take i cells ++ cell ∷ [] = take_more cells i cell less ∙ ap (λ one. take i cells ++ one ∷ []) (sym is) in
    let fields : map (λ (c : ℕ × SentCell). c.0) (made ++ (cell.field, sent) ∷ []) ≡ map number (take (i + 1) cells) =
    map-append (λ (c : ℕ × SentCell). c.0) made ((cell.field, sent) ∷ []) ∙ ap (λ front. front ++ cell.field ∷ []) so_far
    ∙ sym (map-append number (take i cells) (cell ∷ [])) ∙ ap (map number) (sym more) in
    let whole : map number cells ≡ map number (take (i + 1) cells) ++ map number (drop (i + 1) cells) =
    ap (map number) (sym (take-append-drop (i + 1) cells)) ∙ map-append number (take (i + 1) cells) (drop (i + 1) cells) in
    let front : IsStrictlyIncreasing (map number (take (i + 1) cells)) =
    front_rises (map number (take (i + 1) cells)) (map number (drop (i + 1) cells)) (subst IsStrictlyIncreasing whole rising) in
    (subst IsStrictlyIncreasing (sym fields) front, fields)
