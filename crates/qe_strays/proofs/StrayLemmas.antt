-- Steps of the walks over a journal.
use Rattle.std.proofs.Common.{◌≡◌, ℕ, zero, suc, ◌+◌, ◌<◌, ◌≤◌, min, Bool, true, false, List, [], ◌∷◌, ◌++◌, length, take, drop, get_or, Some, refl, sym, ap, ◌∙◌, arith}
use Rattle.std.proofs.lemmas.List.{append_assoc, append-nil, drop_all, drop_more, get_or_past, take_min}
use Rattle.std.proofs.lemmas.Option.{get_or_from_slice_get}
use Rattle.std.specs.Prelude.{bytes_eq, if◌then◌else◌, not, slice_get}
use Rattle.qe_base.specs.declared.maintenance.Count.{Count}
use Rattle.qe_field.specs.declared.field.Field.{Field}
use Rattle.qe_field.specs.Lookup.{encrypted_numbers}
use Rattle.qe_protocol.specs.declared.journal.JournalEntry.{JournalEntry}
use Rattle.qe_protocol.specs.Units.{token_for}
use Rattle.qe_tokens.specs.Tokens.{collections_of, ecoc_of, root_key_of}
use Rattle.qe_tokens.specs.declared.words.FieldToken.{FieldToken}
use Rattle.qe_tokens.specs.declared.words.Word.{Word}
use Rattle.qe_tokens.specs.declared.words.Word.TheVariants.{Stray}
use Rattle.qe_labels.specs.Under.{Under, root_of}
use Rattle.qe_encodes.specs.Payloads.{ecoc_token}
use Rattle.qe_strays.specs.Strays.{opened_strays, strays_from, strays_in, tokens_after}

abbrev under : List Field → List (List ℕ) → Under
under fields keys = record { schema = fields; keys = keys }

-- ---- a field's token
pub token_is : (fields : List Field) (keys : List (List ℕ)) (field place : ℕ) (key : List ℕ) → place ≡ length (encrypted_numbers (take field fields))
    → Some key ≡ slice_get keys place → ecoc_of (collections_of (root_key_of key)) ≡ ecoc_token (under fields keys) field
unfolding root_of
token_is fields keys field place key is at =
    ap (λ k. ecoc_of (collections_of (root_key_of k))) (sym (get_or_from_slice_get keys place key [] (sym at)) ∙ ap (λ p. get_or keys p []) is)

pub token_none : (fields : List Field) (keys : List (List ℕ)) (field place : ℕ) → place ≡ length (encrypted_numbers (take field fields))
    → length keys ≤ place → ecoc_of (collections_of []) ≡ ecoc_token (under fields keys) field
unfolding root_of
token_none fields keys field place is past =
    ap (λ k. ecoc_of (collections_of (root_key_of k))) (sym (get_or_past keys place [] past) ∙ ap (λ p. get_or keys p []) is)

-- .. of a number that may be no field's
pub token_min : (fields : List Field) (keys : List (List ℕ)) (field : ℕ) → ecoc_token (under fields keys) (min field (length fields)) ≡ ecoc_token (under fields keys) field
unfolding root_of
token_min fields keys field =
    ap (λ front. ecoc_of (collections_of (root_key_of (get_or keys (length (encrypted_numbers front)) [])))) (take_min field fields)

-- ---- rows that were opened
module _ (u : Under) (tokens : List FieldToken) where
  abbrev word_if : Bool → Count → List Word
  word_if stray count = if stray then Stray count.token ∷ [] else []

  turned : (b : Bool) (count : Count) → word_if (not b) count ≡ (if b then [] else Stray count.token ∷ [])
  turned true count = refl
  turned false count = refl

  pub opened_next : (opened : List ℕ) (counts : List Count) (i : ℕ) (d : Count) (stray : Bool) → i < length opened → i < length counts
      → stray ≡ not (bytes_eq (token_for tokens (get_or opened i 0)) (ecoc_token u (get_or opened i 0)))
      → opened_strays u tokens (drop i opened) (drop i counts)
      ≡ word_if stray (get_or counts i d) ++ opened_strays u tokens (drop (i + 1) opened) (drop (i + 1) counts)
  opened_next opened counts i d stray within also is =
      (λ j. opened_strays u tokens (drop_more opened i 0 within j) (drop_more counts i d also j))
      ∙ ap (λ words. words ++ opened_strays u tokens (drop (i + 1) opened) (drop (i + 1) counts))
      (sym (ap (λ b. word_if b (get_or counts i d)) is ∙ turned (bytes_eq (token_for tokens (get_or opened i 0)) (ecoc_token u (get_or opened i 0))) (get_or counts i d)))

  pub opened_end : (opened : List ℕ) (counts : List Count) (i : ℕ) → min (length opened) (length counts) ≤ i
      → opened_strays u tokens (drop i opened) (drop i counts) ≡ []
  opened_end [] counts zero past = refl
  opened_end [] counts (suc i) past = refl
  opened_end (field ∷ opened) [] zero past = refl
  opened_end (field ∷ opened) [] (suc i) past = none (drop i opened)
    where
      none : (fields : List ℕ) → opened_strays u tokens fields [] ≡ []
      none [] = refl
      none (field ∷ fields) = refl
  opened_end (field ∷ opened) (count ∷ counts) zero past = absurd (omega arith)
  opened_end (field ∷ opened) (count ∷ counts) (suc i) past = opened_end opened counts i (omega arith)

-- ---- entries
pub strays_next : (u : Under) (words new : List Word) (tokens : List FieldToken) (journal : List JournalEntry) (place : ℕ) (entry : JournalEntry)
    → place < length journal → entry ≡ get_or journal place entry
    → words ++ strays_from u tokens (drop place journal) ≡ strays_in u journal → new ≡ words ++ opened_strays u tokens entry.opened entry.counts
    → new ++ strays_from u (tokens_after tokens entry.command entry.outcome) (drop (place + 1) journal) ≡ strays_in u journal
strays_next u words new tokens journal place entry within at walks is =
    let later = strays_from u (tokens_after tokens entry.command entry.outcome) (drop (place + 1) journal) in
    let split : drop place journal ≡ entry ∷ drop (place + 1) journal = drop_more journal place entry within ∙ ap (λ e. e ∷ drop (place + 1) journal) (sym at) in
    ap (λ ws. ws ++ later) is ∙ append_assoc words (opened_strays u tokens entry.opened entry.counts) later
    ∙ ap (λ es. words ++ strays_from u tokens es) (sym split) ∙ walks

pub strays_end : (u : Under) (words : List Word) (tokens : List FieldToken) (journal : List JournalEntry) (place : ℕ) → length journal ≤ place
    → words ++ strays_from u tokens (drop place journal) ≡ strays_in u journal → words ≡ strays_in u journal
strays_end u words tokens journal place past walks =
    sym (append-nil words) ∙ ap (λ es. words ++ strays_from u tokens es) (sym (drop_all place journal past)) ∙ walks

module _ (u : Under) (tokens : List FieldToken) (opened : List ℕ) (counts : List Count) (i : ℕ) (d : Count) (stray : Bool) (words new whole : List Word)
    (within : i < length opened) (also : i < length counts)
    (is : stray ≡ not (bytes_eq (token_for tokens (get_or opened i 0)) (ecoc_token u (get_or opened i 0))))
    (walks : words ++ opened_strays u tokens (drop i opened) (drop i counts) ≡ whole) where
  pub push_next : stray ≡ true → new ≡ words ++ Stray (get_or counts i d).token ∷ [] → new ++ opened_strays u tokens (drop (i + 1) opened) (drop (i + 1) counts) ≡ whole
  push_next opened_so pushed =
      ap (λ ws. ws ++ opened_strays u tokens (drop (i + 1) opened) (drop (i + 1) counts)) pushed
      ∙ append_assoc words (Stray (get_or counts i d).token ∷ []) (opened_strays u tokens (drop (i + 1) opened) (drop (i + 1) counts))
      ∙ ap (λ b. words ++ (word_if u tokens b (get_or counts i d) ++ opened_strays u tokens (drop (i + 1) opened) (drop (i + 1) counts))) (sym opened_so)
      ∙ ap (λ ws. words ++ ws) (sym (opened_next u tokens opened counts i d stray within also is)) ∙ walks

  pub pass_next : stray ≡ false → new ≡ words → new ++ opened_strays u tokens (drop (i + 1) opened) (drop (i + 1) counts) ≡ whole
  pass_next fails same =
      ap (λ ws. ws ++ opened_strays u tokens (drop (i + 1) opened) (drop (i + 1) counts)) same
      ∙ ap (λ b. words ++ (word_if u tokens b (get_or counts i d) ++ opened_strays u tokens (drop (i + 1) opened) (drop (i + 1) counts))) (sym fails)
      ∙ ap (λ ws. words ++ ws) (sym (opened_next u tokens opened counts i d stray within also is)) ∙ walks

pub opened_all : (u : Under) (tokens : List FieldToken) (opened : List ℕ) (counts : List Count) (i : ℕ) (words whole : List Word) → min (length opened) (length counts) ≤ i
    → words ++ opened_strays u tokens (drop i opened) (drop i counts) ≡ whole → words ≡ whole
opened_all u tokens opened counts i words whole past walks =
    sym (append-nil words) ∙ ap (λ ws. words ++ ws) (sym (opened_end u tokens opened counts i past)) ∙ walks
