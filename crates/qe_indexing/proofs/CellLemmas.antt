-- Cells of a command, planned one after another.
use Rattle.std.proofs.Common.{◌≡◌, ℕ, ◌+◌, ◌<◌, List, [], ◌∷◌, ◌++◌, length, map, take, drop, get_or, refl, sym, ap, ap₂, subst, subst₂, ◌∙◌, append_assoc, append-nil, arith, length-append, take-append-drop}
use Rattle.std.specs.List.Sorted.{IsStrictlyIncreasing}
use Rattle.std.specs.Prelude.{slice_index}
use Rattle.std.proofs.lemmas.List.{map-append, take_more}
use Rattle.std.proofs.Math.ListN.{get_or-append}
use Rattle.qe_base.specs.declared.maintenance.Count.{Count}
use Rattle.qe_insert.specs.declared.insert.InsertPayload.{InsertPayload}
use Rattle.qe_value.specs.declared.value.Value.{Value}
use Rattle.qe_store.specs.Cells.{AreRising}
use Rattle.qe_store.specs.declared.stored.Cell.{Cell}
use Rattle.qe_store.specs.declared.stored.Cell.TheVariants as kept
use Rattle.qe_command.specs.declared.cells.SentCell.{SentCell}
use Rattle.qe_command.specs.declared.cells.SentCell.TheVariants as sent
use Rattle.qe_command.specs.Items.{items_of}
use Rattle.qe_command.specs.Nonces.{cell_nonces}
use Rattle.qe_protocol.specs.State.{Index}
use Rattle.qe_protocol.specs.Indexing.{stored_value, with_cell, CellDone, index_cells, AllowedCells, cell_tags, tags_of}
use Rattle.qe_indexing.specs.declared.plan.Plan.{Plan}
use Rattle.qe_indexing.specs.Plans.{planned}
use Rattle.qe_indexing.specs.Cells.{CellPlanned, cells_before, CellsGoing, CellsPlanned, ValuePlanned}
use Rattle.qe_indexing.proofs.ItemLemmas.{items_end, items_allowed}

-- an encrypted value
pub value_cell : (base : Index) (field : ℕ) (payload : InsertPayload) (nonces : List (List ℕ)) (old new : Plan) (bytes : List ℕ)
    → ValuePlanned base field payload nonces old new bytes → CellPlanned base field (sent.Payload payload) nonces old new (kept.Indexed bytes)
value_cell base field payload nonces old new bytes value = record {
  searched = value.items.searched;
  counts = value.items.counts;
  does = λ more.
      ap (stored_value payload nonces) (items_end base field _ (items_of payload) (drop 1 nonces) value.left old new value.blocks value.items more)
      ∙ ap (λ written. record { index = planned base new; cell = kept.Indexed written; rest = more }) (sym value.bytes_are);
  allowed = items_allowed base field _ (items_of payload) (drop 1 nonces) value.left old new value.blocks value.items;
}

-- a plain one
pub plain_cell : (base : Index) (field : ℕ) (value other : Value) (nonces : List (List ℕ)) (old : Plan) → other ≡ value
    → CellPlanned base field (sent.Plain value) nonces old old (kept.Plain other)
plain_cell base field value other nonces old same = record {
  searched = [];
  counts = sym (append-nil old.counts);
  does = λ more. ap (λ one. record { index = planned base old; cell = kept.Plain one; rest = more }) (sym same);
  allowed = λ more. tt;
}

module _ (base : Index) (nonces : List (List ℕ)) (old : Plan) where
  pub cells_begin : (made : List (ℕ × Cell)) → made ≡ [] → CellsGoing base [] nonces nonces old old made
  cells_begin made none = record {
    searched = [];
    counts = sym (append-nil old.counts);
    does = λ others more. ap (λ cells. cells_before cells (index_cells (planned base old) others nonces more)) (sym none);
    allowed = λ others more is. is;
  }

  pub cells_more : (cells : List (ℕ × SentCell)) (cell : ℕ × SentCell) (left : List (List ℕ)) (mid new : Plan) (made more_made : List (ℕ × Cell)) (stored : Cell)
      → CellsGoing base cells nonces left old mid made → CellPlanned base cell.0 cell.1 left mid new stored → more_made ≡ made ++ (cell.0, stored) ∷ []
      → CellsGoing base (cells ++ cell ∷ []) nonces (drop (cell_nonces cell.1) left) old new more_made
  cells_more cells cell left mid new made more_made stored before one is =
      let after : Index → List (ℕ × SentCell) → List Count → _ = λ index others more. index_cells index others (drop (cell_nonces cell.1) left) more in
      record {
        searched = before.searched ++ one.searched;
        counts = one.counts ∙ ap (λ counts. counts ++ one.searched) before.counts ∙ append_assoc old.counts before.searched one.searched;
        does = λ others more.
            ap₂ (λ all counts. index_cells (planned base old) all nonces counts) (append_assoc cells (cell ∷ []) others) (append_assoc before.searched one.searched more)
            ∙ before.does (cell ∷ others) (one.searched ++ more)
            ∙ ap (λ (done : CellDone). cells_before made (with_cell (cell.0, done.cell) (after done.index others done.rest))) (one.does more)
            ∙ ap (λ cells. record { index = (after (planned base new) others more).index; cells = cells; rest = (after (planned base new) others more).rest })
            (sym (append_assoc made ((cell.0, stored) ∷ []) (after (planned base new) others more).cells) ∙ ap (λ cells. cells ++ (after (planned base new) others more).cells) (sym is));
        allowed = λ others more allowed.
            subst₂ (λ all counts. AllowedCells (planned base old) all nonces counts) (sym (append_assoc cells (cell ∷ []) others)) (sym (append_assoc before.searched one.searched more))
            (before.allowed (cell ∷ others) (one.searched ++ more) (
              one.allowed more,
              subst (λ (done : CellDone). AllowedCells done.index others (drop (cell_nonces cell.1) left) done.rest) (sym (one.does more)) allowed,
            ));
      }

pub cells_end : (base : Index) (cells : List (ℕ × SentCell)) (nonces left : List (List ℕ)) (old new : Plan) (made : List (ℕ × Cell))
    → CellsGoing base cells nonces left old new made → CellsPlanned base cells nonces old new made
cells_end base cells nonces left old new made all = record {
  searched = all.searched;
  counts = all.counts;
  does =
      ap₂ (λ each counts. index_cells (planned base old) each nonces counts) (sym (append-nil cells)) (sym (append-nil all.searched)) ∙ all.does [] []
      ∙ ap (λ cells. record { index = planned base new; cells = cells; rest = [] }) (append-nil made);
  allowed = subst₂ (λ each counts. AllowedCells (planned base old) each nonces counts) (append-nil cells) (append-nil all.searched) (all.allowed [] [] refl);
}

-- the front of rising numbers rises
index_front : (xs ys : List ℕ) (k : ℕ) → k < length xs → slice_index (xs ++ ys) k ≡ slice_index xs k
index_front xs ys k less = get_or-append xs ys 0 k less

pub increasing_front : (xs ys : List ℕ) → IsStrictlyIncreasing (xs ++ ys) → IsStrictlyIncreasing xs
increasing_front xs ys rising k less =
    omega (arith, index_front xs ys k (omega arith), index_front xs ys (k + 1) less, rising k (omega (arith, length-append xs ys)))

pub rising_front : {C : Type 0} (xs ys : List (ℕ × C)) → AreRising (xs ++ ys) → AreRising xs
rising_front {C} xs ys rising =
    increasing_front (map (λ c. c.0) xs) (map (λ c. c.0) ys) (subst IsStrictlyIncreasing (map-append (λ (c : ℕ × C). c.0) xs ys) rising)

-- the cells so far, and the next one
pub rising_next : (all : List (ℕ × SentCell)) (place : ℕ) (cell : ℕ × SentCell) (made : List (ℕ × Cell)) (stored : Cell) → AreRising all
    → place < length all → get_or all place cell ≡ cell → map (λ c. c.0) made ≡ map (λ c. c.0) (take place all)
    → AreRising (made ++ (cell.0, stored) ∷ []) × (map (λ c. c.0) (made ++ (cell.0, stored) ∷ []) ≡ map (λ c. c.0) (take (place + 1) all))
rising_next all place cell made stored rising less is so_far =
    let more : take (place + 1) all ≡ take place all ++ cell ∷ [] =
    take_more all place cell less ∙ ap (λ one. take place all ++ one ∷ []) is in
    let fields : map (λ c. c.0) (made ++ (cell.0, stored) ∷ []) ≡ map (λ c. c.0) (take (place + 1) all) =
    map-append (λ (c : ℕ × Cell). c.0) made ((cell.0, stored) ∷ []) ∙ ap (λ front. front ++ cell.0 ∷ []) so_far
    ∙ sym (map-append (λ (c : ℕ × SentCell). c.0) (take place all) (cell ∷ [])) ∙ ap (map (λ (c : ℕ × SentCell). c.0)) (sym more) in
    let front : AreRising (take (place + 1) all) =
    rising_front (take (place + 1) all) (drop (place + 1) all) (subst AreRising (sym (take-append-drop (place + 1) all)) rising) in
    (subst IsStrictlyIncreasing (sym fields) front, fields)

-- tags of cells, one cell after another
pub tags_of-append : (xs ys : List (ℕ × Cell)) → tags_of (xs ++ ys) ≡ tags_of xs ++ tags_of ys
tags_of-append [] ys = refl
tags_of-append (x ∷ xs) ys = ap (λ tags. cell_tags x.1 ++ tags) (tags_of-append xs ys) ∙ sym (append_assoc (cell_tags x.1) (tags_of xs) (tags_of ys))

pub tags_of-more : (all : List (ℕ × Cell)) (place : ℕ) (cell : ℕ × Cell) → place < length all → get_or all place cell ≡ cell
    → tags_of (take (place + 1) all) ≡ tags_of (take place all) ++ cell_tags cell.1
tags_of-more all place cell less is =
    ap tags_of (take_more all place cell less ∙ ap (λ one. take place all ++ one ∷ []) is) ∙ tags_of-append (take place all) (cell ∷ [])
    ∙ ap (λ tags. tags_of (take place all) ++ tags) (append-nil (cell_tags cell.1))
