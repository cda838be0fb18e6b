-- The cover as the tree of prefixes gives it.
use Rattle.std.proofs.Common.{◌≡◌, ℕ, zero, suc, ◌+◌, ◌-◌, ◌*◌, ◌/◌, ◌<◌, ◌≤◌, ◌^◌, Bool, true, false, ◌&&◌, ℤ, pos, ◌+ℤ◌, ◌≤ℤ◌, List, [], ◌∷◌, ◌++◌, if◌then◌else◌, inl, inr, refl, sym, ap, ◌∙◌, subst, add-one, mul_assoc, mul_comm, add-mul, zero-mul, one-mul, arith}
use Rattle.std.specs.Int.Signed.{le_z, le_z_yes}
use Rattle.std.specs.List.{Contains}
use Rattle.std.specs.Prelude.{T, Result, Ok, Err, IfOk}
use Rattle.std.proofs.Math.Nat.{pow-suc, sub-zero}
use Rattle.std.proofs.lemmas.Nat.{pow_pos}
use Rattle.std.proofs.lemmas.Float.{T_from_true}
use Rattle.std.proofs.lemmas.Int.{ints}
use Rattle.std.proofs.lemmas.Bool.{both_ways, and_parts, and_from, cases_lt, cases_eq}
use Rattle.std.proofs.lemmas.List.Elements.{Contains-push, Contains-push_cases, Contains-append_left, Contains-append_right, Contains-append_cases}
use Rattle.qe_edges.specs.Rules.{Rules, bits_of, IsStored, is_stored}
use Rattle.qe_edges.specs.Prefixes.{Lists, Rises, Begins, lowest_of, IsInside, IsInCover, InInterval, is_within, is_inside, is_taken, longer, cover_below, root, cover_of, CoverIsListed}
use Rattle.qe_edges.specs.declared.edge.Edge.{Edge}
use Rattle.qe_edges.proofs.LevelLemmas.{stored-le}
use Rattle.qe_edges.proofs.BlockLemmas.{size_at, same_edge, begins_between, between_begins, shorter_front, shorter_begins, block_end}
use Rattle.qe_edges.proofs.ListLemmas.{rises_behind, one_cover_list}
use Rattle.qe_edges.proofs.StoredLemmas.{passed-stored, stored-passed}

le_passed : (a b : ℤ) → le_z a b ≡ true → a ≤ℤ b
le_passed a b passed = le_z_yes (T_from_true (le_z a b) passed)

test_passed : (test : Bool) → T test → test ≡ true
test_passed true passed = refl
test_passed false passed = absurd passed

passed_le : (a b : ℤ) → a ≤ℤ b → le_z a b ≡ true
passed_le a b less = test_passed (le_z a b) less.le

-- a prefix begins the least number of its block
begins_lowest : (rules : Rules) (e : Edge) → Begins rules e (lowest_of rules e)
begins_lowest rules e =
    let some = pow_pos (bits_of rules - e.len) in
    between_begins rules e (lowest_of rules e) (omega arith) (omega arith)

-- a block begins where the one before it ends
lowest_longer : (prefix digit size : ℕ) → (prefix * 2 + digit) * size ≡ prefix * (size * 2) + digit * size
lowest_longer prefix digit size =
    add-mul (prefix * 2) digit size ∙ ap (λ n. n + digit * size) (mul_assoc prefix 2 size ∙ ap (λ n. prefix * n) (mul_comm 2 size))

module _ (rules : Rules) (lo hi : ℤ) where
  within_at : (number : ℕ) → is_within rules lo hi number ≡ true → InInterval rules lo hi number
  within_at number passed =
      let v = rules.min +ℤ pos number in
      let last = and_parts (le_z lo v && le_z v hi) (le_z v rules.max) passed in
      let ends = and_parts (le_z lo v) (le_z v hi) last.0 in
      (le_passed lo v ends.0, le_passed v hi ends.1, le_passed v rules.max last.1)

  at_within : (number : ℕ) → InInterval rules lo hi number → is_within rules lo hi number ≡ true
  at_within number (low, high, top) =
      let v = rules.min +ℤ pos number in
      and_from (le_z lo v && le_z v hi) (le_z v rules.max) (and_from (le_z lo v) (le_z v hi) (passed_le lo v low) (passed_le v hi high))
      (passed_le v rules.max top)

  -- a number between two of the interval is one of it
  between_ends : (first x last : ℕ) → first ≤ x → x ≤ last → InInterval rules lo hi first → InInterval rules lo hi last
      → InInterval rules lo hi x
  between_ends first x last from to (low, _, _) (_, high, top) =
      (omega (arith, ints), omega (arith, ints), omega (arith, ints))

  inside_at : (e : Edge) → is_inside rules lo hi e ≡ true → IsInside rules (InInterval rules lo hi) e
  inside_at e passed x _ begins =
      let low = lowest_of rules e in
      let last = low + size_at rules e.len - 1 in
      let parts = and_parts (is_within rules lo hi low) (is_within rules lo hi last) passed in
      let range = begins_between rules e x begins in
      between_ends low x last range.0 (omega (arith, range.1)) (within_at low parts.0) (within_at last parts.1)

  at_inside : (e : Edge) → e.len ≤ bits_of rules → e.prefix < 2 ^ e.len → IsInside rules (InInterval rules lo hi) e
      → is_inside rules lo hi e ≡ true
  at_inside e short spelled inside =
      let low = lowest_of rules e in
      let last = low + size_at rules e.len - 1 in
      let some = pow_pos (bits_of rules - e.len) in
      let ends = block_end rules e short spelled in
      and_from (is_within rules lo hi low) (is_within rules lo hi last)
      (at_within low (inside low (omega arith) (begins_lowest rules e)))
      (at_within last (inside last (omega arith) (between_begins rules e last (omega arith) (omega arith))))

  -- the block of one prefix lies in that of another
  abbrev IsBelow : Edge → Edge → Type 0
  IsBelow e f = (e.len ≤ f.len) × (lowest_of rules e ≤ lowest_of rules f)
      × (lowest_of rules f < lowest_of rules e + size_at rules e.len)

  -- no shorter stored prefix whose block lies inside begins where the prefix does
  abbrev IsOpen : Edge → Type 0
  IsOpen e = (f : Edge) → IsStored rules f.len → f.len < e.len → Begins rules f (lowest_of rules e)
      → IsInside rules (InInterval rules lo hi) f → ⊥

  -- a prefix that may get so many digits more, and that no shorter one is taken for
  record IsReached (more : ℕ) (e : Edge) : Type 0 where
    pub digits : e.len + more ≡ bits_of rules
    pub spelled : e.prefix < 2 ^ e.len
    pub is_open : IsOpen e

  -- what the cover has below a prefix
  record IsCoverBelow (e : Edge) (items : List Edge) : Type 0 where
    pub members : Lists (λ f. IsInCover rules lo hi f × IsBelow e f) items
    pub order : Rises (lowest_of rules) items

  -- below a prefix only it has as few digits
  same_below : (e f : Edge) → IsBelow e f → f.len ≡ e.len → e ≡ f
  same_below e f (_, low, high) lengths =
      let begins = between_begins rules e (lowest_of rules f) low high in
      same_edge e f (sym begins ∙ ap (λ l. lowest_of rules f / size_at rules l) (sym lengths) ∙ begins_lowest rules f) (sym lengths)

  is_below : (e : Edge) → IsBelow e e
  is_below e = let some = pow_pos (bits_of rules - e.len) in (omega arith, omega arith, omega arith)

  -- a taken prefix is the cover below it
  taken_below : (more : ℕ) (e : Edge) → IsReached more e → is_taken rules lo hi e ≡ true → IsCoverBelow e (e ∷ [])
  taken_below more e reached taken =
      let parts = and_parts (is_stored rules e.len) (is_inside rules lo hi e) taken in
      let stored = passed-stored rules e.len parts.0 in
      let inside = inside_at e parts.1 in
      let short = stored-le rules e.len stored in
      let in_cover : IsInCover rules lo hi e = record {
        stored = stored;
        spelled = reached.spelled;
        inside = inside;
        shortest = λ f stored_f (less, front) inside_f.
            reached.is_open f stored_f less (shorter_begins rules f e (lowest_of rules e) (omega arith) short front (begins_lowest rules e)) inside_f;
      } in
      record {
        members = λ f. (
          λ has. elim (Contains-push_cases [] e f has) [
            | inl none ↦ absurd (omega (arith, none.1))
            | inr same ↦ subst (λ g. IsInCover rules lo hi g × IsBelow e g) same (in_cover, is_below e)
          ],
          λ (in_f, below). elim (cases_eq f.len e.len) [
            | inl lengths ↦ subst (Contains (e ∷ [])) (same_below e f below lengths) (Contains-push [] e)
            | inr other ↦
                let begins = between_begins rules e (lowest_of rules f) below.1 below.2 in
                let front = shorter_front rules e f (lowest_of rules f) below.0 (stored-le rules f.len in_f.stored) begins (begins_lowest rules f) in
                absurd (in_f.shortest e stored (omega (arith, below.0), front) inside)
          ],
        );
        order = λ i j d less within. absurd (omega (arith, within));
      }

  -- a prefix that isn't taken isn't in the cover
  passed_over : (more : ℕ) (e f : Edge) → IsReached more e → is_taken rules lo hi e ≡ false → IsInCover rules lo hi f
      → IsBelow e f → f.len ≡ e.len → ⊥
  passed_over more e f reached untaken in_f below lengths =
      let same = same_below e f below lengths in
      let in_e : IsInCover rules lo hi e = subst (IsInCover rules lo hi) (sym same) in_f in
      both_ways (is_taken rules lo hi e) untaken
      (and_from (is_stored rules e.len) (is_inside rules lo hi e) (stored-passed rules e.len in_e.stored)
      (at_inside e (stored-le rules e.len in_e.stored) in_e.spelled in_e.inside))

  -- at the last digit nothing is below it
  none_below : (e : Edge) → IsReached 0 e → is_taken rules lo hi e ≡ false → IsCoverBelow e []
  none_below e reached untaken = record {
    members = λ f. (
      λ has. absurd (omega (arith, has.1)),
      λ (in_f, below).
          let whole = reached.digits in
          let le = stored-le rules f.len in_f.stored in
          absurd (passed_over 0 e f reached untaken in_f below (omega (arith, below.0))),
    );
    order = λ i j d less within. absurd (omega (arith, within));
  }

  -- what a prefix that isn't taken leaves open, a longer one does
  longer_open : (more : ℕ) (e next : Edge) → IsReached more e → is_taken rules lo hi e ≡ false → IsBelow e next
      → next.len ≡ e.len + 1 → IsOpen next
  longer_open more e next reached untaken below length_is f stored less begins inside =
      let whole = reached.digits in
      let begins_e = between_begins rules e (lowest_of rules next) below.1 below.2 in
      let front = shorter_front rules f e (lowest_of rules next) (omega arith) (omega arith) begins begins_e in
      let begins_f = shorter_begins rules f e (lowest_of rules e) (omega arith) (omega arith) front (begins_lowest rules e) in
      elim (cases_lt f.len e.len) [
        | inl short ↦ reached.is_open f stored short begins_f inside
        | inr long ↦
            let lengths : f.len ≡ e.len = omega arith in
            let same = same_edge f e (sym begins_f ∙ ap (λ l. lowest_of rules e / size_at rules l) lengths ∙ begins_lowest rules e) lengths in
            let stored_e = subst (λ g. IsStored rules g.len) same stored in
            let inside_e = subst (IsInside rules (InInterval rules lo hi)) same inside in
            both_ways (is_taken rules lo hi e) untaken
            (and_from (is_stored rules e.len) (is_inside rules lo hi e) (stored-passed rules e.len stored_e)
            (at_inside e (omega arith) reached.spelled inside_e))
      ]

  module _ (more : ℕ) (e : Edge) (reached : IsReached (suc more) e) where
    sizes : size_at rules e.len ≡ size_at rules (e.len + 1) * 2
    sizes =
        let whole = reached.digits in
        ap (λ h. 2 ^ h) (let h : bits_of rules - e.len ≡ suc (bits_of rules - (e.len + 1)) = omega arith in h)
        ∙ pow-suc 2 (bits_of rules - (e.len + 1))

    -- where the blocks of the two longer prefixes begin
    longer_at : (digit : ℕ) → lowest_of rules (longer e digit) ≡ lowest_of rules e + digit * size_at rules (e.len + 1)
    longer_at digit =
        lowest_longer e.prefix digit (size_at rules (e.len + 1))
        ∙ ap (λ size. e.prefix * size + digit * size_at rules (e.len + 1)) (sym sizes)

    left_at : lowest_of rules (longer e 0) ≡ lowest_of rules e
    left_at = let at = longer_at 0 in let none = zero-mul (size_at rules (e.len + 1)) in omega arith

    right_at : lowest_of rules (longer e 1) ≡ lowest_of rules e + size_at rules (e.len + 1)
    right_at = let at = longer_at 1 in let one = one-mul (size_at rules (e.len + 1)) in omega arith

    left_below : IsBelow e (longer e 0)
    left_below =
        let at = left_at in
        let some = pow_pos (bits_of rules - e.len) in
        (omega arith, omega arith, omega arith)

    right_below : IsBelow e (longer e 1)
    right_below =
        let at = right_at in
        let some = pow_pos (bits_of rules - (e.len + 1)) in
        let twice = sizes in
        (omega arith, omega arith, omega arith)

    reached_longer : (digit : ℕ) → digit < 2 → IsBelow e (longer e digit) → is_taken rules lo hi e ≡ false
        → IsReached more (longer e digit)
    reached_longer digit few below untaken =
        let twice : 2 ^ (e.len + 1) ≡ 2 ^ e.len * 2 = ap (λ n. 2 ^ n) (add-one e.len) ∙ pow-suc 2 e.len in
        let spelled = reached.spelled in
        let whole = reached.digits in
        record {
          digits = omega arith;
          spelled = omega arith;
          is_open = longer_open (suc more) e (longer e digit) reached untaken below refl;
        }

    -- the cover below a prefix that isn't taken is that below the two longer ones
    both_below : (lefts rights : List Edge) → is_taken rules lo hi e ≡ false → IsCoverBelow (longer e 0) lefts
        → IsCoverBelow (longer e 1) rights → IsCoverBelow e (lefts ++ rights)
    both_below lefts rights untaken on_left on_right =
        let middle = lowest_of rules e + size_at rules (e.len + 1) in
        let left_is = left_at in
        let right_is = right_at in
        let twice = sizes in
        record {
          members = λ f. (
            λ has. elim (Contains-append_cases lefts rights f has) [
              | inl left ↦
                  let known = (on_left.members f).0 left in
                  let (long, low, high) = known.1 in
                  (known.0, (omega arith, omega arith, omega arith))
              | inr right ↦
                  let known = (on_right.members f).0 right in
                  let (long, low, high) = known.1 in
                  (known.0, (omega arith, omega arith, omega arith))
            ],
            λ (in_f, (long, low, high)). elim (cases_lt e.len f.len) [
              | inl longer_f ↦ elim (cases_lt (lowest_of rules f) middle) [
                | inl left ↦ Contains-append_left lefts rights f ((on_left.members f).1 (in_f, (omega arith, omega arith, omega arith)))
                | inr right ↦ Contains-append_right lefts rights f ((on_right.members f).1 (in_f, (omega arith, omega arith, omega arith)))
              ]
              | inr short ↦ absurd (passed_over (suc more) e f reached untaken in_f (long, low, high) (omega arith))
            ],
          );
          order = rises_behind (lowest_of rules) lefts rights on_left.order on_right.order (λ f g has_f has_g.
              let left = ((on_left.members f).0 has_f).1 in
              let right = ((on_right.members g).0 has_g).1 in
              omega (arith, left.2, right.1));
        }

  -- the prefix alone, or what is below it
  chosen : (more : ℕ) (e : Edge) → IsReached more e → (taken : Bool) → is_taken rules lo hi e ≡ taken → (items : List Edge)
      → (is_taken rules lo hi e ≡ false → IsCoverBelow e items) → IsCoverBelow e (if taken then e ∷ [] else items)
  chosen more e reached true is items below = taken_below more e reached is
  chosen more e reached false is items below = below is

  covers_below : (more : ℕ) (e : Edge) → IsReached more e → IsCoverBelow e (cover_below rules lo hi more e)
  covers_below zero e reached = chosen zero e reached (is_taken rules lo hi e) refl [] (none_below e reached)
  covers_below (suc more) e reached =
      let lefts = cover_below rules lo hi more (longer e 0) in
      let rights = cover_below rules lo hi more (longer e 1) in
      chosen (suc more) e reached (is_taken rules lo hi e) refl (lefts ++ rights) (λ untaken.
      both_below more e reached lefts rights untaken
      (covers_below more (longer e 0) (reached_longer more e reached 0 (omega arith) (left_below more e reached) untaken))
      (covers_below more (longer e 1) (reached_longer more e reached 1 (omega arith) (right_below more e reached) untaken)))

pub cover_is_listed : CoverIsListed
cover_is_listed rules lo hi =
    let start : lowest_of rules root ≡ 0 = zero-mul (2 ^ (bits_of rules - 0)) in
    let whole : size_at rules 0 ≡ 2 ^ bits_of rules = ap (λ h. 2 ^ h) (sub-zero (bits_of rules)) in
    let reached : IsReached rules lo hi (bits_of rules) root = record {
      digits = omega arith;
      spelled = omega arith;
      is_open = λ f stored less begins inside. absurd (omega arith);
    } in
    let all = covers_below rules lo hi (bits_of rules) root reached in (
      λ f. (
        λ has. ((all.members f).0 has).0,
        λ in_f.
            let ends = block_end rules f (stored-le rules f.len in_f.stored) in_f.spelled in
            let some = pow_pos (bits_of rules - f.len) in
            (all.members f).1 (in_f, (omega arith, omega arith, omega arith)),
      ),
      all.order,
    )

-- a list of the cover, in the order of its blocks, is the one that the definition gives
pub exact_cover : (rules : Rules) (lo hi : ℤ) (cover : List Edge) → Lists (IsInCover rules lo hi) cover
    → Rises (lowest_of rules) cover → cover ≡ cover_of rules lo hi
exact_cover rules lo hi cover members order =
    let listed = cover_is_listed rules lo hi in
    one_cover_list rules lo hi cover (cover_of rules lo hi) members order listed.0 listed.1

-- .. where there is one
pub exact_if_ok : {E : Type 0} (rules : Rules) (lo hi : ℤ) (result : Result (List Edge) E)
    → IfOk result (Lists (IsInCover rules lo hi)) → IfOk result (Rises (lowest_of rules))
    → IfOk result (λ cover. cover ≡ cover_of rules lo hi)
exact_if_ok rules lo hi (Ok cover) members order = exact_cover rules lo hi cover members order
exact_if_ok rules lo hi (Err fault) members order = tt
