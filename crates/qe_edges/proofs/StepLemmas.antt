-- One step of the walk over an interval.
use Rattle.std.proofs.Common.{◌≡◌, ℕ, ◌+◌, ◌-◌, ◌%◌, ◌^◌, ◌<◌, ◌≤◌, List, [], ◌∷◌, ◌++◌, get_or, inl, inr, ap, ◌∙◌, subst, arith}
use Rattle.std.specs.List.{Contains}
use Rattle.std.proofs.Math.Nat.{mul-mod_left}
use Rattle.std.proofs.lemmas.Nat.{pow_pos}
use Rattle.std.proofs.lemmas.Bool.{cases_lt}
use Rattle.std.proofs.lemmas.List.Elements.{Contains-push, Contains-push_cases, Contains-append_left, Contains-get_or}
use Rattle.std.proofs.lemmas.List.Quantifiers.{all_pairs_push}
use Rattle.qe_edges.specs.Rules.{Rules, bits_of, IsStored}
use Rattle.qe_edges.specs.Prefixes.{Begins, lowest_of, IsInside, IsCoverPrefix}
use Rattle.qe_edges.specs.Walk.{Between, IsWidestAt}
use Rattle.qe_edges.specs.declared.edge.Edge.{Edge}
use Rattle.qe_edges.proofs.LevelLemmas.{stored-le}
use Rattle.qe_edges.proofs.BlockLemmas.{size_at, begins_between, between_begins, shorter_front, shorter_begins, prefix_fits, block_end}
use Rattle.qe_edges.proofs.CoverLemmas.{cover_once}
use Rattle.qe_edges.proofs.WalkLemmas.{IsBoundary, IsWalked}

module _ (rules : Rules) (first end at : ℕ) (items : List Edge) (new : Edge) (fits : end ≤ 2 ^ bits_of rules) (less : at < end)
    (walked : IsWalked rules first end at items) (widest : IsWidestAt rules at end new) where
  begins_at : Begins rules new at
  begins_at =
      let some = pow_pos (bits_of rules - new.len) in
      let low = widest.begins in
      between_begins rules new at (omega arith) (omega arith)

  -- no shorter stored block inside the interval holds the number
  least : (f : Edge) → IsStored rules f.len → IsInside rules (Between first end) f → Begins rules f at
      → new.len ≤ f.len
  least f stored inside begins =
      elim (cases_lt f.len new.len) [
        | inl short ↦
            let size = size_at rules f.len in
            let some = pow_pos (bits_of rules - f.len) in
            let high = walked.boundary less f stored inside begins in
            let low = begins_between rules f at begins in
            let lowest : at ≡ lowest_of rules f = omega arith in
            let long = stored-le rules f.len stored in
            let ends = block_end rules f long (prefix_fits rules f at long (omega arith) begins) in
            let last = inside (at + size - 1) (omega arith) (between_begins rules f (at + size - 1) (omega arith) (omega arith)) in
            elim widest.shortest [
              | inl alone ↦ absurd (alone f.len stored short (ap (λ n. n % size) lowest ∙ mul-mod_left f.prefix size))
              | inr alone ↦ let large = alone f.len stored short in absurd (omega (arith, last.1))
            ]
        | inr long ↦ long
      ]

  pub new_in_cover : IsCoverPrefix rules (Between first end) new
  new_in_cover = record {
    stored = widest.stored;
    spelled = prefix_fits rules new at (stored-le rules new.len widest.stored) (omega arith) begins_at;
    inside = λ x small begins.
        let between = begins_between rules new x begins in
        let low = widest.begins in
        let high = widest.fits in
        let start = walked.started in
        (omega arith, omega arith);
    shortest = λ f stored (short, front) inside.
        let long = least f stored inside (shorter_begins rules f new at (omega arith)
        (stored-le rules new.len widest.stored) front begins_at) in
        omega arith;
  }

  next_boundary : IsBoundary rules first end (at + size_at rules new.len)
  next_boundary f stored inside begins =
      let next = at + size_at rules new.len in
      let some = pow_pos (bits_of rules - new.len) in
      let low = widest.begins in
      elim (cases_lt (lowest_of rules f) next) [
        | inl over ↦
            let between = begins_between rules f next begins in
            let f_before = between_begins rules f (next - 1) (omega arith) (omega arith) in
            let new_before = between_begins rules new (next - 1) (omega arith) (omega arith) in
            elim (cases_lt f.len new.len) [
              | inl short ↦
                  let short-le = stored-le rules new.len widest.stored in
                  let front = shorter_front rules f new (next - 1) (omega arith) short-le f_before new_before in
                  let long = least f stored inside (shorter_begins rules f new at (omega arith) short-le front begins_at) in
                  absurd (omega arith)
              | inr long ↦
                  let long-le = stored-le rules f.len stored in
                  let front = shorter_front rules new f (next - 1) long long-le new_before f_before in
                  let within = begins_between rules new next (shorter_begins rules new f next long long-le front begins) in
                  absurd (omega arith)
            ]
        | inr above ↦ above
      ]

  -- the walk came so far with one more prefix
  pub walk_goes_on : IsWalked rules first end (at + size_at rules new.len) (items ++ new ∷ [])
  walk_goes_on =
      let next = at + size_at rules new.len in
      let some = pow_pos (bits_of rules - new.len) in
      let low = widest.begins in
      let set = Between first end in
      record {
        started = let start = walked.started in omega arith;
        members = λ e. (
          λ has. elim (Contains-push_cases items new e has) [
            | inl old ↦ let known = (walked.members e).0 old in (known.0, let below = known.1 in omega arith)
            | inr same ↦ subst (λ f. IsCoverPrefix rules set f × (lowest_of rules f < next)) same (new_in_cover, omega arith)
          ],
          λ (in_e, below). elim (cases_lt (lowest_of rules e) at) [
            | inl old ↦ Contains-append_left items (new ∷ []) e ((walked.members e).1 (in_e, old))
            | inr from ↦
                let e_some = pow_pos (bits_of rules - e.len) in
                let e_lowest = between_begins rules e (lowest_of rules e) (omega arith) (omega arith) in
                let new_lowest = between_begins rules new (lowest_of rules e) (omega arith) (omega arith) in
                let same = cover_once rules set new e (lowest_of rules e) new_in_cover in_e new_lowest e_lowest in
                subst (Contains (items ++ new ∷ [])) same (Contains-push items new)
          ],
        );
        boundary = λ _. next_boundary;
        order = all_pairs_push (λ e f. lowest_of rules e < lowest_of rules f) items new walked.order
            (λ k d within. let known = (walked.members (get_or items k d)).0 (Contains-get_or items k d within) in omega (arith, known.1));
      }
