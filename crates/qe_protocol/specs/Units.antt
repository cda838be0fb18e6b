-- One unit of maintenance after another: a row aside is opened, searched and dropped; when none is left, an identifier
-- is taken out.
use Rattle.std.specs.Prelude.{◌≡◌, ℕ, zero, suc, ◌+◌, ◌%◌, ◌^◌, ◌==◌, ◌&&◌, not, List, [], ◌∷◌, ◌++◌, replicate, Bool, Option, None, Some, if◌then◌else◌}
use Rattle.std.specs.Bool.{MatchBool}
use Rattle.std.specs.FinMap.{insert, remove}
use Rattle.qe_base.specs.declared.maintenance.Count.{Count}
use Rattle.qe_base.specs.declared.maintenance.JobKind.{JobKind}
use Rattle.qe_base.specs.declared.maintenance.JobKind.TheVariants.{Compact, Cleanup}
use Rattle.qe_tokens.specs.declared.words.FieldToken.{FieldToken}
use Rattle.qe_esc.specs.Rows.{Rows, has}
use Rattle.qe_esc.specs.Changes.{with_row}
use Rattle.qe_esc.specs.Identifiers.{id_of}
use Rattle.qe_esc.specs.Pairs.{null_pair, sealed_pair}
use Rattle.qe_esc.specs.declared.key.RowKind.TheVariants.{Anchor}
use Rattle.qe_ecoc.specs.declared.opening.Opened.{Opened}
use Rattle.qe_ecoc.specs.declared.rows.Entry.{Entry}
use Rattle.qe_ecoc.specs.Opening.{opened}
use Rattle.qe_protocol.specs.Counting.{IsCounted, counted}

-- what a step changes
pub record Work : Type 0 where
  pub rows : Rows
  pub aside : List Entry
  pub doomed : List (List ℕ)
  pub captured : List (List ℕ)
  pub leaves : ℕ

-- the token that was sent for a field; zeros where none was, of which no begun job has a row aside
abbrev pub token_for : List FieldToken → ℕ → List ℕ
token_for [] field = replicate 32 0
token_for (sent ∷ tokens) field = if sent.field == field then sent.token.0 else token_for tokens field

-- what a row says under its field's token
abbrev pub opened_row : List FieldToken → Entry → Opened
opened_row tokens row = opened (token_for tokens row.field) row.value

-- the last anchor's number: those that a cleanup has taken out, and those that follow
abbrev pub last_anchor : Rows → Count → ℕ
last_anchor rows count = ((null_pair rows count.token).0 + count.hop) % 2 ^ 64

-- compaction: the next anchor counts all positions, where there are any that the last one doesn't count
abbrev pub compacted : Rows → Count → List ℕ → Rows
compacted rows count nonce =
    if count.positions == 0 then rows
    else with_row rows (id_of Anchor count.token ((last_anchor rows count + 1) % 2 ^ 64)) (Some (sealed_pair count.token nonce 0 (counted rows count)))

-- the null anchor says already what a cleanup would write
abbrev pub is_cleaned : Rows → Count → Bool
is_cleaned rows count =
    has rows (id_of Anchor count.token 0)
    && ((null_pair rows count.token).0 == last_anchor rows count && ((null_pair rows count.token).1 == counted rows count))

-- cleanup: the null anchor counts all anchors and all positions
abbrev pub cleaned : Rows → Count → List ℕ → Rows
cleaned rows count nonce =
    if is_cleaned rows count then rows
    else insert rows (id_of Anchor count.token 0) (Some (sealed_pair count.token nonce (last_anchor rows count) (counted rows count)))

-- the identifiers of so many anchors behind a number
abbrev pub anchors_after : List ℕ → ℕ → ℕ → List (List ℕ)
anchors_after token from zero = []
anchors_after token from (suc more) = anchors_after token from more ++ id_of Anchor token ((from + suc more) % 2 ^ 64) ∷ []

-- a row behind the token says that its word is an edge at the leaf level
abbrev pub leaf_count : Option ℕ → ℕ
leaf_count None = 0
leaf_count (Some byte) = if byte == 1 then 1 else 0

-- a row is handled by what a search for its token found, and dropped
abbrev pub row_done : JobKind → List FieldToken → List ℕ → Work → Entry → List Entry → Count → Work
row_done Compact tokens nonce work row rest count = record {
  rows = compacted work.rows count nonce;
  aside = rest;
  doomed = work.doomed;
  captured = work.captured;
  leaves = work.leaves + leaf_count (opened_row tokens row).leaf;
}
row_done Cleanup tokens nonce work row rest count = record {
  rows = cleaned work.rows count nonce;
  aside = rest;
  doomed = work.doomed ++ anchors_after count.token (null_pair work.rows count.token).0 count.hop;
  captured = work.captured;
  leaves = work.leaves + leaf_count (opened_row tokens row).leaf;
}

-- a token without a null anchor, an anchor and a position
abbrev pub is_mismatch : Rows → Count → Bool
is_mismatch rows count = not (has rows (id_of Anchor count.token 0)) && (count.hop == 0 && (count.positions == 0))

-- the first doomed or captured identifier is taken out
abbrev pub doomed_done : Work → List ℕ → List (List ℕ) → Work
doomed_done work id rest = record { rows = remove work.rows id; aside = work.aside; doomed = rest; captured = work.captured; leaves = work.leaves }

abbrev pub captured_done : Work → List ℕ → List (List ℕ) → Work
captured_done work id rest = record { rows = remove work.rows id; aside = work.aside; doomed = work.doomed; captured = rest; leaves = work.leaves }

-- what the work has become, the field of a mismatch, the rows that were opened, and the counts that are left
pub record UnitsDone : Type 0 where
  pub work : Work
  pub mismatch : Option ℕ
  pub opened : List Entry
  pub rest : List Count

abbrev pub stopped : Work → Option ℕ → List Entry → List Count → UnitsDone
stopped work mismatch rows counts = record { work = work; mismatch = mismatch; opened = rows; rest = counts }

abbrev pub with_opened : Entry → UnitsDone → UnitsDone
with_opened row done = record { work = done.work; mismatch = done.mismatch; opened = row ∷ done.opened; rest = done.rest }

-- a unit on the first row aside, or on the first doomed identifier, or on the first captured one; a mismatch ends the step, and the row stays
abbrev pub unit_then : (Work → List Count → UnitsDone) → JobKind → List FieldToken → List ℕ
    → List Entry → List (List ℕ) → List (List ℕ) → Work → List Count → UnitsDone
unit_then more kind tokens nonce (row ∷ rest) doomed captured work [] = stopped work None [] []
unit_then more kind tokens nonce (row ∷ rest) doomed captured work (count ∷ counts) =
    if is_mismatch work.rows count then stopped work (Some row.field) (row ∷ []) counts
    else with_opened row (more (row_done kind tokens nonce work row rest count) counts)
unit_then more kind tokens nonce [] (id ∷ rest) captured work counts = more (doomed_done work id rest) counts
unit_then more kind tokens nonce [] [] (id ∷ rest) work counts = more (captured_done work id rest) counts
unit_then more kind tokens nonce [] [] [] work counts = stopped work None [] counts

-- a unit for each nonce, as long as there is something left
abbrev pub units : JobKind → List FieldToken → List (List ℕ) → Work → List Count → UnitsDone
units kind tokens [] work counts = stopped work None [] counts
units kind tokens (nonce ∷ nonces) work counts =
    unit_then (units kind tokens nonces) kind tokens nonce work.aside work.doomed work.captured work counts

-- there is a true count for each row that is opened, of the token that it opens to and of the rows as they are then, and none is left over
abbrev pub AllowedUnit : (Work → List Count → Type 0) → JobKind → List FieldToken → List ℕ
    → List Entry → List (List ℕ) → List (List ℕ) → Work → List Count → Type 0
AllowedUnit more kind tokens nonce (row ∷ rest) doomed captured work [] = ⊥
AllowedUnit more kind tokens nonce (row ∷ rest) doomed captured work (count ∷ counts) =
    IsCounted work.rows (opened_row tokens row).token count
    × MatchBool (is_mismatch work.rows count) (counts ≡ []) (more (row_done kind tokens nonce work row rest count) counts)
AllowedUnit more kind tokens nonce [] (id ∷ rest) captured work counts = more (doomed_done work id rest) counts
AllowedUnit more kind tokens nonce [] [] (id ∷ rest) work counts = more (captured_done work id rest) counts
AllowedUnit more kind tokens nonce [] [] [] work counts = counts ≡ []

abbrev pub AllowedUnits : JobKind → List FieldToken → List (List ℕ) → Work → List Count → Type 0
AllowedUnits kind tokens [] work counts = counts ≡ []
AllowedUnits kind tokens (nonce ∷ nonces) work counts =
    AllowedUnit (AllowedUnits kind tokens nonces) kind tokens nonce work.aside work.doomed work.captured work counts
