-- What holds of steps, of their units, and of what they write.
use Rattle.std.specs.Prelude.{◌≡◌, ℕ, ◌+◌, ◌-◌, ◌*◌, ◌%◌, ◌^◌, ◌<◌, ◌≤◌, List, [], ◌∷◌, ◌++◌, length, true, false, None, Some, bytes_eq}
use Rattle.std.specs.List.{list_any}
use Rattle.std.specs.FinMap.{get, remove}
use Rattle.qe_base.specs.declared.maintenance.Count.{Count}
use Rattle.qe_base.specs.declared.maintenance.JobKind.{JobKind}
use Rattle.qe_base.specs.declared.maintenance.JobKind.TheVariants.{Compact, Cleanup}
use Rattle.qe_tokens.specs.declared.words.FieldToken.{FieldToken}
use Rattle.qe_esc.specs.Rows.{Rows, has}
use Rattle.qe_esc.specs.Identifiers.{id_of, row_after}
use Rattle.qe_esc.specs.Pairs.{pair_of, null_pair, base_of}
use Rattle.qe_esc.specs.declared.key.RowKind.TheVariants.{Anchor, Position}
use Rattle.qe_ecoc.specs.declared.rows.Entry.{Entry}
use Rattle.qe_protocol.specs.Counting.{IsTrue, counted}
use Rattle.qe_protocol.specs.Units.{Work, UnitsDone, units, AllowedUnits, compacted, cleaned, last_anchor, leaf_count, opened_row}

abbrev pub OfUnits : (JobKind → List FieldToken → List (List ℕ) → Work → List Count → UnitsDone → Type 0) → Type 0
OfUnits Holds = (kind : JobKind) (tokens : List FieldToken) (nonces : List (List ℕ)) (work : Work) (counts : List Count)
    → Holds kind tokens nonces work counts (units kind tokens nonces work counts)

-- one unit, and then the others, of what is left
abbrev pub opened_before : List Entry → UnitsDone → UnitsDone
opened_before rows done = record { work = done.work; mismatch = done.mismatch; opened = rows ++ done.opened; rest = done.rest }

-- a step of limit n + 1 is a step of limit 1 and a step of limit n, as long as the first unit doesn't mismatch
abbrev pub GoesOn : Type 0
GoesOn = (kind : JobKind) (tokens : List FieldToken) (nonce : List ℕ) (nonces : List (List ℕ)) (work : Work) (counts : List Count)
    → let one = units kind tokens (nonce ∷ []) work counts in
    one.mismatch ≡ None → units kind tokens (nonce ∷ nonces) work counts ≡ opened_before one.opened (units kind tokens nonces one.work one.rest)

-- the row of a mismatch stays, the first of those aside
abbrev pub IsFirst : ℕ → List Entry → Type 0
IsFirst field [] = ⊥
IsFirst field (row ∷ rows) = row.field ≡ field

abbrev pub KeepsMismatch : JobKind → List FieldToken → List (List ℕ) → Work → List Count → UnitsDone → Type 0
KeepsMismatch kind tokens nonces work counts done = (field : ℕ) → done.mismatch ≡ Some field → IsFirst field done.work.aside

-- there is a count for each row that is opened, and no other
abbrev pub CountsOpened : JobKind → List FieldToken → List (List ℕ) → Work → List Count → UnitsDone → Type 0
CountsOpened kind tokens nonces work counts done = AllowedUnits kind tokens nonces work counts → length counts ≡ length done.opened

-- an identifier is taken out
pub record TakesOut (before after : Work) (id : List ℕ) : Type 0 where
  pub rows : after.rows ≡ remove before.rows id
  pub aside : after.aside ≡ before.aside
  pub leaves : after.leaves ≡ before.leaves

-- a unit, by what is first: the first row aside is dropped, and what is doomed comes behind; without a row the first doomed identifier
-- is taken out, or else the first captured one; without any of them nothing changes
abbrev pub TakesFirst : Work → List Entry → List (List ℕ) → List (List ℕ) → Work → Type 0
TakesFirst before (row ∷ rest) doomed captured after =
    (after.aside ≡ rest) × (((more : List (List ℕ)) × (after.doomed ≡ doomed ++ more)) × (after.captured ≡ captured))
TakesFirst before [] (id ∷ rest) captured after = TakesOut before after id × ((after.doomed ≡ rest) × (after.captured ≡ captured))
TakesFirst before [] [] (id ∷ rest) after = TakesOut before after id × ((after.doomed ≡ []) × (after.captured ≡ rest))
TakesFirst before [] [] [] after = after ≡ before

-- each unit does so, of a compaction and of a cleanup, unless it mismatches
abbrev pub UnitsTake : Type 0
UnitsTake = (kind : JobKind) (tokens : List FieldToken) (nonce : List ℕ) (work : Work) (counts : List Count)
    → AllowedUnits kind tokens (nonce ∷ []) work counts → (units kind tokens (nonce ∷ []) work counts).mismatch ≡ None
    → TakesFirst work work.aside work.doomed work.captured (units kind tokens (nonce ∷ []) work counts).work

-- identifiers of the anchors behind a number, as many as were counted
pub record AreAnchors (token : List ℕ) (from hop : ℕ) (doomed : List (List ℕ)) : Type 0 where
  pub many : length doomed ≡ hop
  pub each : (i : ℕ) → 1 ≤ i → i ≤ hop → list_any (bytes_eq (id_of Anchor token ((from + i) % 2 ^ 64))) doomed ≡ true

-- a compaction writes the next anchor and dooms nothing; a cleanup writes the null anchor, and dooms the anchors that it counts
-- and the null anchor before it didn't
abbrev pub WritesRow : JobKind → Work → Count → List ℕ → Work → Type 0
WritesRow Compact before count nonce after = (after.rows ≡ compacted before.rows count nonce) × (after.doomed ≡ before.doomed)
WritesRow Cleanup before count nonce after =
    (after.rows ≡ cleaned before.rows count nonce)
    × ((more : List (List ℕ)) × ((after.doomed ≡ before.doomed ++ more) × AreAnchors count.token (null_pair before.rows count.token).0 count.hop more))

pub record HandlesRow (kind : JobKind) (tokens : List FieldToken) (before : Work) (row : Entry) (count : Count) (nonce : List ℕ) (after : Work) : Type 0 where
  pub writes : WritesRow kind before count nonce after
  pub leaves : after.leaves ≡ before.leaves + leaf_count (opened_row tokens row).leaf

-- a unit handles the first row aside by what its search found, unless it mismatches
abbrev pub UnitsWrite : Type 0
UnitsWrite = (kind : JobKind) (tokens : List FieldToken) (nonce : List ℕ) (work : Work) (row : Entry) (rest : List Entry) (count : Count)
    → work.aside ≡ row ∷ rest → (units kind tokens (nonce ∷ []) work (count ∷ [])).mismatch ≡ None
    → HandlesRow kind tokens work row count nonce (units kind tokens (nonce ∷ []) work (count ∷ [])).work

abbrev pub work_left : Work → ℕ
work_left work = length work.aside + length work.doomed + length work.captured

-- a compaction does as much as its limit says, as long as no unit mismatches
abbrev pub CompactsAll : Type 0
CompactsAll = (tokens : List FieldToken) (nonces : List (List ℕ)) (work : Work) (counts : List Count)
    → AllowedUnits Compact tokens nonces work counts → (units Compact tokens nonces work counts).mismatch ≡ None
    → work_left (units Compact tokens nonces work counts).work ≡ work_left work - length nonces

-- as long as a row is aside no identifier is taken out, and what is doomed comes behind
pub record WaitsForRows (before after : Work) : Type 0 where
  pub captured : after.captured ≡ before.captured
  pub more : List (List ℕ)
  pub doomed : after.doomed ≡ before.doomed ++ more

abbrev pub RowsGoFirst : JobKind → List FieldToken → List (List ℕ) → Work → List Count → UnitsDone → Type 0
RowsGoFirst kind tokens nonces work counts done = (done.work.aside ≡ [] → ⊥) → WaitsForRows work done.work

-- a count is true, and no other one of its token is
pub record IsOnlyCount (rows : Rows) (count : Count) : Type 0 where
  pub is : IsTrue rows count
  pub only : (other : Count) → other.token ≡ count.token → IsTrue rows other → other ≡ count

-- a search for a token has one true count, where the rows that it counts are there, and none behind them up to twice as far
abbrev pub OneTrueCount : Type 0
OneTrueCount = (rows : Rows) (count : Count) → count.hop < 2 ^ 63 → count.positions < 2 ^ 63
    → let anchor = row_after rows Anchor count.token (null_pair rows count.token).0 in
    let position = row_after rows Position count.token (base_of rows count.token count.hop) in
    ((i : ℕ) → 1 ≤ i → i ≤ count.hop → anchor i ≡ true) → ((i : ℕ) → count.hop < i → i ≤ 2 * count.hop + 1 → anchor i ≡ false)
    → ((i : ℕ) → 1 ≤ i → i ≤ count.positions → position i ≡ true)
    → ((i : ℕ) → count.positions < i → i ≤ 2 * count.positions + 1 → position i ≡ false)
    → IsOnlyCount rows count

-- what units write says what was counted, and every other row stays; without a position a compaction writes nothing
pub record WritesCounts : Type 0 where
  pub compaction : (rows : Rows) (count : Count) (nonce : List ℕ) → length nonce ≡ 16 → (count.positions ≡ 0 → ⊥)
      → let anchor = id_of Anchor count.token ((last_anchor rows count + 1) % 2 ^ 64) in
      has rows anchor ≡ false → pair_of count.token (get (compacted rows count nonce) anchor) ≡ (0, counted rows count)
  pub cleanup : (rows : Rows) (count : Count) (nonce : List ℕ) → length nonce ≡ 16
      → null_pair (cleaned rows count nonce) count.token ≡ (last_anchor rows count, counted rows count)
  pub compaction_keeps : (rows : Rows) (count : Count) (nonce id : List ℕ)
      → (id ≡ id_of Anchor count.token ((last_anchor rows count + 1) % 2 ^ 64) → ⊥) → get (compacted rows count nonce) id ≡ get rows id
  pub compaction_idle : (rows : Rows) (count : Count) (nonce : List ℕ) → count.positions ≡ 0 → compacted rows count nonce ≡ rows
  pub cleanup_keeps : (rows : Rows) (count : Count) (nonce id : List ℕ)
      → (id ≡ id_of Anchor count.token 0 → ⊥) → get (cleaned rows count nonce) id ≡ get rows id
