-- Units so far, and those to come.
use Rattle.std.proofs.Common.{◌≡◌, ℕ, List, [], ◌∷◌, ◌++◌, Option, None, Some, refl, sym, ap, ◌∙◌, subst, append_assoc}
use Rattle.std.proofs.lemmas.List.{append-nil, map-append}
use Rattle.qe_base.specs.declared.maintenance.Count.{Count}
use Rattle.qe_base.specs.declared.maintenance.JobKind.{JobKind}
use Rattle.qe_tokens.specs.declared.words.FieldToken.{FieldToken}
use Rattle.qe_ecoc.specs.declared.rows.Entry.{Entry}
use Rattle.qe_protocol.specs.Units.{Work, units, AllowedUnits}
use Rattle.qe_protocol.specs.UnitLaws.{opened_before}
use Rattle.qe_compact.specs.declared.unit.Turn.{Turn}
use Rattle.qe_compact.specs.declared.unit.Turn.TheVariants as t
use Rattle.qe_compact.specs.Turns.{fields_of, IsNoted, GoesOn, Stops, TurnIs, IsUnit, IsRun}

-- what is noted twice, one after the other
pub noted_more : (a b c s t : List Count) (u v w : List ℕ) (p q : List Entry) → IsNoted a b s u v p → IsNoted b c t v w q → IsNoted a c (s ++ t) u w (p ++ q)
noted_more a b c s t u v w p q one two = record {
  all_counts = two.all_counts ∙ ap (λ (x : List Count). x ++ t) one.all_counts ∙ append_assoc a s t;
  all_opened = two.all_opened ∙ ap (λ (x : List ℕ). x ++ fields_of q) one.all_opened ∙ append_assoc u (fields_of p) (fields_of q)
      ∙ ap (λ (x : List ℕ). u ++ x) (sym (map-append (λ (row : Entry). row.field) p q));
}

pub noted_nothing : (a : List Count) (u : List ℕ) → IsNoted a a [] u u []
noted_nothing a u = record { all_counts = sym (append-nil a); all_opened = sym (append-nil u) }

module _ (kind : JobKind) (tokens : List FieldToken) where
  pub record Going (all : List (List ℕ)) (start : Work) (counts counts_now : List Count) (opened opened_now : List ℕ) (left : List (List ℕ)) (now : Work) : Type 0 where
    pub searched : List Count
    pub rows : List Entry
    pub noted : IsNoted counts counts_now searched opened opened_now rows
    pub does : (more : List Count) → units kind tokens all start (searched ++ more) ≡ opened_before rows (units kind tokens left now more)
    pub allowed : (more : List Count) → AllowedUnits kind tokens left now more → AllowedUnits kind tokens all start (searched ++ more)

  pub starts : (all : List (List ℕ)) (start : Work) (counts : List Count) (opened : List ℕ) → Going all start counts counts opened opened all start
  starts all start counts opened = record {
    searched = [];
    rows = [];
    noted = noted_nothing counts opened;
    does = λ more. refl;
    allowed = λ more is. is;
  }

  module _ (all : List (List ℕ)) (start : Work) (counts counts_now counts_after : List Count) (opened opened_now opened_after : List ℕ)
      (nonce : List ℕ) (left : List (List ℕ)) (now after : Work) (searched : List Count) (rows : List Entry)
      (going : Going all start counts counts_now opened opened_now (nonce ∷ left) now)
      (noted : IsNoted counts_now counts_after searched opened_now opened_after rows) where
    pub goes : GoesOn kind tokens nonce now after searched rows → Going all start counts counts_after opened opened_after left after
    goes one = record {
      searched = going.searched ++ searched;
      rows = going.rows ++ rows;
      noted = noted_more counts counts_now counts_after going.searched searched opened opened_now opened_after going.rows rows going.noted noted;
      does = λ more.
          ap (units kind tokens all start) (append_assoc going.searched searched more) ∙ going.does (searched ++ more)
          ∙ ap (opened_before going.rows) (one.does left more)
          ∙ ap (λ (x : List Entry). record { work = (units kind tokens left after more).work; mismatch = (units kind tokens left after more).mismatch; opened = x; rest = (units kind tokens left after more).rest })
          (sym (append_assoc going.rows rows (units kind tokens left after more).opened));
      allowed = λ more is.
          subst (AllowedUnits kind tokens all start) (sym (append_assoc going.searched searched more))
          (going.allowed (searched ++ more) (one.allowed left more is));
    }

    pub stops : (mismatch : Option ℕ) → Stops kind tokens nonce now after searched rows mismatch
        → IsRun kind tokens all start after counts counts_after opened opened_after mismatch
    stops mismatch one = record {
      searched = going.searched ++ searched;
      rows = going.rows ++ rows;
      noted = noted_more counts counts_now counts_after going.searched searched opened opened_now opened_after going.rows rows going.noted noted;
      does = going.does searched ∙ ap (opened_before going.rows) (one.does left);
      allowed = going.allowed searched (one.allowed left);
    }

  pub ends : (all : List (List ℕ)) (start now : Work) (counts counts_now : List Count) (opened opened_now : List ℕ)
      → Going all start counts counts_now opened opened_now [] now → IsRun kind tokens all start now counts counts_now opened opened_now None
  ends all start now counts counts_now opened opened_now going = record {
    searched = going.searched ++ [];
    rows = going.rows ++ [];
    noted = noted_more counts counts_now counts_now going.searched [] opened opened_now opened_now going.rows [] going.noted (noted_nothing counts_now opened_now);
    does = going.does [];
    allowed = going.allowed [] refl;
  }

-- by what a unit answered
module _ (kind : JobKind) (tokens : List FieldToken) (all : List (List ℕ)) (start : Work) (counts counts_now counts_after : List Count) (opened opened_now opened_after : List ℕ)
    (whole : List (List ℕ)) (nonce : List ℕ) (left : List (List ℕ)) (now after : Work) (turn : Turn)
    (going : Going kind tokens all start counts counts_now opened opened_now whole now) (first : whole ≡ nonce ∷ left)
    (one : IsUnit kind tokens nonce now after counts_now counts_after opened_now opened_after turn) where
  here : Going kind tokens all start counts counts_now opened opened_now (nonce ∷ left) now
  here = subst (λ (nonces : List (List ℕ)). Going kind tokens all start counts counts_now opened opened_now nonces now) first going

  pub goes_by : turn ≡ t.On → Going kind tokens all start counts counts_after opened opened_after left after
  goes_by is =
      goes kind tokens all start counts counts_now counts_after opened opened_now opened_after nonce left now after one.searched one.rows here one.noted
      (subst (TurnIs kind tokens nonce now after one.searched one.rows) is one.turn_is)

  pub done_by : turn ≡ t.Done → IsRun kind tokens all start after counts counts_after opened opened_after None
  done_by is =
      stops kind tokens all start counts counts_now counts_after opened opened_now opened_after nonce left now after one.searched one.rows here one.noted None
      (subst (TurnIs kind tokens nonce now after one.searched one.rows) is one.turn_is)

  pub mismatch_by : (field : ℕ) → turn ≡ t.Mismatch field → IsRun kind tokens all start after counts counts_after opened opened_after (Some field)
  mismatch_by field is =
      stops kind tokens all start counts counts_now counts_after opened opened_now opened_after nonce left now after one.searched one.rows here one.noted (Some field)
      (subst (TurnIs kind tokens nonce now after one.searched one.rows) is one.turn_is)
