-- Rows that are written one behind the other: those of the schedule, and those of the working variables.
use Rattle.std.proofs.Common.{◌≡◌, ◌≢◌, ℕ, ◌+◌, ◌-◌, ◌<◌, ◌≤◌, List, [], ◌∷◌, length, slice_index, slice_set, refl, sym, ap, ◌∙◌, arith, inl, inr}
use Rattle.std.proofs.lemmas.List.{get_or-set_same, get_or-set_other}
use Rattle.std.proofs.lemmas.Bool.{cases_lt}
use Rattle.sha2.specs.Sha256.{add32, temp1, temp2, small_sigma0, small_sigma1, next_word, round, rounds, round_constants, schedule}
use Rattle.sha2.proofs.Schedule256.{rounds_next, slice_index-schedule_next}
use Rattle.qe_lanes.specs.Lanes.{word_in, working}

-- a row that isn't written stays
pub word_in-set_other : (rows : List (List ℕ)) (at k lane : ℕ) (row : List ℕ) → k ≢ at → word_in (slice_set rows at row) k lane ≡ word_in rows k lane
word_in-set_other rows at k lane row ne = ap (λ (r : List ℕ). slice_index r lane) (get_or-set_other rows at k row [] ne)

-- the row that is written
pub word_in-set_same : (rows : List (List ℕ)) (at lane : ℕ) (row : List ℕ) → at < length rows → word_in (slice_set rows at row) at lane ≡ slice_index row lane
word_in-set_same rows at lane row within = ap (λ (r : List ℕ). slice_index r lane) (get_or-set_same rows at row [] within)

-- one lane more of a row that is filled
pub filled_next : (f : ℕ → ℕ) (row : List ℕ) (at word : ℕ) → at < length row → ((lane : ℕ) → lane < at → slice_index row lane ≡ f lane) → word ≡ f at
    → (lane : ℕ) → lane < at + 1 → slice_index (slice_set row at word) lane ≡ f lane
filled_next f row at word within held is lane below = elim (cases_lt lane at) [
  | inl lt ↦
      let ne : lane ≢ at = omega arith in
      get_or-set_other row at lane word 0 ne ∙ held lane lt
  | inr ge ↦
      let e : lane ≡ at = omega arith in
      rw e (get_or-set_same row at word 0 within ∙ is)
]

-- a word of the schedule from four words of the rows
abbrev pub word_after : List (List ℕ) → ℕ → ℕ → ℕ
word_after w t lane = add32 (add32 (add32 (small_sigma1 (word_in w (t - 2) lane)) (word_in w (t - 7) lane))
    (small_sigma0 (word_in w (t - 15) lane))) (word_in w (t - 16) lane)

-- one more row of the schedule
pub scheduled_next : (w : List (List ℕ)) (row bytes : List ℕ) (t lane : ℕ) → 16 ≤ t → t < 64 → length w ≡ 64
    → ((k : ℕ) → k < t → word_in w k lane ≡ slice_index (schedule bytes 48) k) → slice_index row lane ≡ word_after w t lane
    → (k : ℕ) → k < t + 1 → word_in (slice_set w t row) k lane ≡ slice_index (schedule bytes 48) k
scheduled_next w row bytes t lane low high long held is k below = elim (cases_lt k t) [
  | inl lt ↦
      let ne : k ≢ t = omega arith in
      word_in-set_other w t k lane row ne ∙ held k lt
  | inr ge ↦
      let e : k ≡ t = omega arith in
      let two = held (t - 2) (omega arith) in
      let seven = held (t - 7) (omega arith) in
      let fifteen = held (t - 15) (omega arith) in
      let sixteen = held (t - 16) (omega arith) in
      let after : word_after w t lane ≡ next_word (schedule bytes 48) t = rw (two, seven, fifteen, sixteen) refl in
      rw e (word_in-set_same w t lane row (omega arith) ∙ is ∙ after ∙ sym (slice_index-schedule_next bytes 48 t low (omega arith)))
]

-- the working variables once a round's rows are written
pub working_next : (a e : List (List ℕ)) (x y : List ℕ) (t lane : ℕ) → t < 64 → length a ≡ 68 → length e ≡ 68
    → working (slice_set a (t + 4) x) (slice_set e (t + 4) y) (t + 1) lane
    ≡ slice_index x lane ∷ word_in a (t + 3) lane ∷ word_in a (t + 2) lane ∷ word_in a (t + 1) lane
    ∷ slice_index y lane ∷ word_in e (t + 3) lane ∷ word_in e (t + 2) lane ∷ word_in e (t + 1) lane ∷ []
working_next a e x y t lane lt a_long e_long =
    let three : t + 1 + 3 ≡ t + 4 = omega arith in
    let two : t + 1 + 2 ≡ t + 3 = omega arith in
    let one : t + 1 + 1 ≡ t + 2 = omega arith in
    let n3 : t + 3 ≢ t + 4 = omega arith in
    let n2 : t + 2 ≢ t + 4 = omega arith in
    let n1 : t + 1 ≢ t + 4 = omega arith in
    rw (
      three,
      two,
      one,
      word_in-set_same a (t + 4) lane x (omega arith),
      word_in-set_other a (t + 4) (t + 3) lane x n3,
      word_in-set_other a (t + 4) (t + 2) lane x n2,
      word_in-set_other a (t + 4) (t + 1) lane x n1,
      word_in-set_same e (t + 4) lane y (omega arith),
      word_in-set_other e (t + 4) (t + 3) lane y n3,
      word_in-set_other e (t + 4) (t + 2) lane y n2,
      word_in-set_other e (t + 4) (t + 1) lane y n1,
    )
    refl

-- one more round
pub rounds_row : (a e : List (List ℕ)) (x y h ws : List ℕ) (t lane k word : ℕ) → t < 64 → length a ≡ 68 → length e ≡ 68
    → working a e t lane ≡ rounds h ws t → k ≡ slice_index round_constants t → word ≡ slice_index ws t
    → slice_index x lane ≡ add32 (temp1 (working a e t lane) k word) (temp2 (working a e t lane))
    → slice_index y lane ≡ add32 (word_in a t lane) (temp1 (working a e t lane) k word)
    → working (slice_set a (t + 4) x) (slice_set e (t + 4) y) (t + 1) lane ≡ rounds h ws (t + 1)
rounds_row a e x y h ws t lane k word lt a_long e_long held ek ew ex ey =
    let same : working (slice_set a (t + 4) x) (slice_set e (t + 4) y) (t + 1) lane ≡ round (working a e t lane) k word =
    working_next a e x y t lane lt a_long e_long
    ∙ (λ i. ex i ∷ word_in a (t + 3) lane ∷ word_in a (t + 2) lane ∷ word_in a (t + 1) lane
    ∷ ey i ∷ word_in e (t + 3) lane ∷ word_in e (t + 2) lane ∷ word_in e (t + 1) lane ∷ []) in
    same ∙ (λ i. round (held i) (ek i) (ew i)) ∙ sym (rounds_next h ws t)
