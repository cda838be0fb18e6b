-- The cover of a set of numbers.
use Rattle.std.proofs.Common.{◌≡◌, ◌↔◌, ℕ, ◌-◌, ◌/◌, List, [], inl, inr, sym, ap, ◌∙◌, arith}
use Rattle.std.proofs.lemmas.Nat.{pow_pos}
use Rattle.std.proofs.lemmas.Bool.{cases_order}
use Rattle.qe_edges.specs.Rules.{Rules, bits_of}
use Rattle.qe_edges.specs.Prefixes.{Lists, Begins, lowest_of, IsCoverPrefix}
use Rattle.qe_edges.specs.declared.edge.Edge.{Edge}
use Rattle.qe_edges.proofs.LevelLemmas.{stored-le}
use Rattle.qe_edges.proofs.BlockLemmas.{size_at, same_edge, between_begins, shorter_front, block_end}

-- two prefixes of a cover that begin one number are one
pub cover_once : (rules : Rules) (set : ℕ → Type 0) (e f : Edge) (x : ℕ) → IsCoverPrefix rules set e
    → IsCoverPrefix rules set f → Begins rules e x → Begins rules f x → e ≡ f
cover_once rules set e f x in_e in_f begins_e begins_f =
    elim (cases_order e.len f.len) [
      | inl lengths ↦ same_edge e f (sym begins_e ∙ ap (λ l. x / size_at rules l) lengths ∙ begins_f) lengths
      | inr (inl less) ↦ absurd (in_f.shortest e in_e.stored
          (less, shorter_front rules e f x (omega arith) (stored-le rules f.len in_f.stored) begins_e begins_f)
          in_e.inside)
      | inr (inr more) ↦ absurd (in_e.shortest f in_f.stored
          (more, shorter_front rules f e x (omega arith) (stored-le rules e.len in_e.stored) begins_f begins_e)
          in_f.inside)
    ]

-- the least number of a cover's block lies in the covered set
pub lowest_inside : (rules : Rules) (set : ℕ → Type 0) (e : Edge) → IsCoverPrefix rules set e
    → set (lowest_of rules e)
lowest_inside rules set e in_e =
    let some = pow_pos (bits_of rules - e.len) in
    let ends = block_end rules e (stored-le rules e.len in_e.stored) in_e.spelled in
    in_e.inside (lowest_of rules e) (omega arith) (between_begins rules e (lowest_of rules e) (omega arith) (omega arith))

-- sets of the same numbers have the same cover
same_cover : (rules : Rules) (P Q : ℕ → Type 0) → ((x : ℕ) → P x → Q x) → ((x : ℕ) → Q x → P x) → (e : Edge)
    → IsCoverPrefix rules P e → IsCoverPrefix rules Q e
same_cover rules P Q to from e in_e = record {
  stored = in_e.stored;
  spelled = in_e.spelled;
  inside = λ x small begins. to x (in_e.inside x small begins);
  shortest = λ f stored short inside. in_e.shortest f stored short (λ x small begins. from x (inside x small begins));
}

pub lists_same : (rules : Rules) (P Q : ℕ → Type 0) → ((x : ℕ) → Q x ↔ P x) → (items : List Edge)
    → Lists (IsCoverPrefix rules P) items → Lists (IsCoverPrefix rules Q) items
lists_same rules P Q same items listed e = (
  λ has. same_cover rules P Q (λ x. (same x).1) (λ x. (same x).0) e ((listed e).0 has),
  λ in_e. (listed e).1 (same_cover rules Q P (λ x. (same x).0) (λ x. (same x).1) e in_e),
)

-- where there is no number there is no cover
pub lists_none : (rules : Rules) (set : ℕ → Type 0) → ((x : ℕ) → set x → ⊥) → Lists (IsCoverPrefix rules set) []
lists_none rules set none e = (
  λ has. absurd (omega (arith, has.1)),
  λ in_e. absurd (none (lowest_of rules e) (lowest_inside rules set e in_e)),
)
