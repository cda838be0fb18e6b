-- The laws of layouts.
use Rattle.std.specs.Prelude.{◌≡◌, List, Option, Ok}
use Rattle.qe_document.specs.Names.{Distinct}
use Rattle.qe_value.specs.declared.value.Plain.{Plain}
use Rattle.qe_layout.specs.Layouts.{Element, Reader, Rows, arranged, IsLaid}
use Rattle.qe_layout.specs.Writing.{written, AreSpelled}

-- documents are read into slots exactly where they are laid out: each needed element once, optional ones at most once,
-- no other, in any order
pub record LayoutLaws {A : Type 0} (reads : Reader A) (rows : Rows) : Type 0 where
  pub read_is_laid : (slots : List (Option A)) (elements : List Element) → Distinct elements → arranged reads rows elements ≡ Ok slots → IsLaid reads rows slots elements
  pub laid_is_read : (slots : List (Option A)) (elements : List Element) → IsLaid reads rows slots elements → arranged reads rows elements ≡ Ok slots
  -- what is written in the table's order is read again, where each part is
  pub written_is_read : (spell : A → Plain) (slots : List (Option A)) → Distinct rows → AreSpelled reads spell rows slots → arranged reads rows (written spell rows slots) ≡ Ok slots
