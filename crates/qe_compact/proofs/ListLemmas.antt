-- Fronts of lists, rows without a token, and jobs.
use Rattle.std.proofs.Common.{◌≡◌, ℕ, zero, suc, ◌+◌, List, [], ◌∷◌, ◌++◌, length, drop, slice_get, true, false, Option, None, Some, refl, sym, ap, ◌∙◌, arith, if◌then◌else◌}
use Rattle.std.proofs.lemmas.List.{drop-drop, drop_at}
use Rattle.qe_tokens.specs.declared.words.FieldToken.{FieldToken}
use Rattle.qe_ecoc.specs.declared.rows.Entry.{Entry}
use Rattle.qe_protocol.specs.State.{Job}
use Rattle.qe_protocol.specs.Jobs.{has_token, first_missing}
use Rattle.qe_compact.specs.declared.job.Running.{Running}
use Rattle.qe_compact.specs.Parts.{job_of, running_of}

-- behind the first of two lists
pub drop_past : {A : Type 0} → (xs ys : List A) (n k : ℕ) → n ≡ length xs + k → drop n (xs ++ ys) ≡ drop k ys
drop_past xs ys n k is =
    ap (λ m. drop m (xs ++ ys)) is ∙ sym (drop-drop k (length xs) (xs ++ ys)) ∙ ap (drop k) (drop_at xs ys (length xs) refl)

pub drop_next : {A : Type 0} → (xs : List A) (i : ℕ) (x : A) → slice_get xs i ≡ Some x → drop i xs ≡ x ∷ drop (i + 1) xs
drop_next [] i x is = absurd (cc)
drop_next (y ∷ ys) zero x is = let same : y ≡ x = cc in ap (λ z. z ∷ ys) same
drop_next (y ∷ ys) (suc i) x is =
    let same : suc (i + 1) ≡ suc i + 1 = omega arith in
    drop_next ys i x is ∙ ap (λ n. x ∷ drop n (y ∷ ys)) same

pub missing_here : (tokens : List FieldToken) (rows : List Entry) (i : ℕ) (row : Entry) → slice_get rows i ≡ Some row → has_token tokens row.field ≡ false
    → first_missing tokens (drop i rows) ≡ Some row.field
missing_here tokens rows i row at none =
    ap (first_missing tokens) (drop_next rows i row at) ∙ ap (λ b. if b then first_missing tokens (drop (i + 1) rows) else Some row.field) none

pub missing_later : (tokens : List FieldToken) (rows : List Entry) (i : ℕ) (row : Entry) → slice_get rows i ≡ Some row → has_token tokens row.field ≡ true
    → first_missing tokens (drop i rows) ≡ first_missing tokens (drop (i + 1) rows)
missing_later tokens rows i row at some =
    ap (first_missing tokens) (drop_next rows i row at) ∙ ap (λ b. if b then first_missing tokens (drop (i + 1) rows) else Some row.field) some

-- where no job runs, there is none
pub no_job : (job : Option Job) → running_of job ≡ None → job ≡ None
no_job None none = refl
no_job (Some job) none = absurd (cc)

pub no_job_at : (job : Option Running) (leaves other : ℕ) → job_of job leaves ≡ None → job_of job other ≡ None
no_job_at None leaves other none = refl
no_job_at (Some job) leaves other none = absurd (cc)
