-- Sixteen lanes of SHA-256 (FIPS 180-4) side by side: a row has a word of each lane.
use Rattle.std.specs.Prelude.{◌≡◌, ℕ, ◌+◌, ◌*◌, ◌<◌, List, [], ◌∷◌, slice_index}
use Rattle.std.specs.List.{slice_index_or}
use Rattle.sha2.specs.Sha256.{schedule, word_at}

-- the word of a lane in a row
abbrev pub word_in : List (List ℕ) → ℕ → ℕ → ℕ
word_in rows row lane = slice_index (slice_index_or rows row []) lane

-- the hash value of a lane, whose words stand in eight rows
abbrev pub state_in : List (List ℕ) → ℕ → List ℕ
state_in rows lane =
    word_in rows 0 lane ∷ word_in rows 1 lane ∷ word_in rows 2 lane ∷ word_in rows 3 lane
    ∷ word_in rows 4 lane ∷ word_in rows 5 lane ∷ word_in rows 6 lane ∷ word_in rows 7 lane ∷ []

-- the rows have the words of a block in a lane (5.2.1)
pub record HasBlock (rows : List (List ℕ)) (lane : ℕ) (block : List ℕ) : Type 0 where
  pub words : (k : ℕ) → k < 16 → word_in rows k lane ≡ word_at block (4 * k)

-- the rows have the schedule of a block in a lane (6.2.2, step 1)
pub record HasSchedule (rows : List (List ℕ)) (lane : ℕ) (block : List ℕ) : Type 0 where
  pub words : (k : ℕ) → k < 64 → word_in rows k lane ≡ slice_index (schedule block 48) k

-- the working variables a to h of a lane after t rounds: `a` and `e` of each round stand in a row of their own, and
-- b, c, d and f, g, h are those of the rounds before (6.2.2, step 3)
abbrev pub working : List (List ℕ) → List (List ℕ) → ℕ → ℕ → List ℕ
working a e t lane =
    word_in a (t + 3) lane ∷ word_in a (t + 2) lane ∷ word_in a (t + 1) lane ∷ word_in a t lane
    ∷ word_in e (t + 3) lane ∷ word_in e (t + 2) lane ∷ word_in e (t + 1) lane ∷ word_in e t lane ∷ []
