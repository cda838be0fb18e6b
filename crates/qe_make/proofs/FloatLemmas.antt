-- No line of a script has a float, so its text is known.
use Rattle.std.proofs.Common.{◌≡◌, ℕ, ℤ, pos, negsuc, List, false, refl}
use Rattle.serde_json.specs.Find.{of_integer, is_float}
use Rattle.serde_json.specs.Written.{has_float}
use Rattle.qe_make.specs.Commands.{insert, update, delete, ids_of_age, ids_of_score, begin, step, end_job}
use Rattle.qe_make.specs.Header.{age_field, score_field, header}

integer_is_whole : (z : ℤ) → is_float (of_integer z) ≡ false
integer_is_whole (pos n) = refl
integer_is_whole (negsuc n) = refl

pub insert_is_whole : (id age : ℕ) (score : ℤ) → has_float (insert id age score) ≡ false
unfolding insert
insert_is_whole id age score = rw (integer_is_whole score)

pub update_is_whole : (id age : ℕ) → has_float (update id age) ≡ false
unfolding update
update_is_whole id age = refl

pub delete_is_whole : (id : ℕ) → has_float (delete id) ≡ false
unfolding delete
delete_is_whole id = refl

pub ids_of_age_is_whole : (age : ℕ) → has_float (ids_of_age age) ≡ false
unfolding ids_of_age
ids_of_age_is_whole age = refl

pub ids_of_score_is_whole : (low high : ℤ) → has_float (ids_of_score low high) ≡ false
unfolding ids_of_score
ids_of_score_is_whole low high = rw (integer_is_whole low, integer_is_whole high)

pub begin_is_whole : (kind : List ℕ) → has_float (begin kind) ≡ false
unfolding begin
begin_is_whole kind = refl

pub step_is_whole : (job : ℕ) → has_float (step job) ≡ false
unfolding step
step_is_whole job = refl

pub end_job_is_whole : (job : ℕ) → has_float (end_job job) ≡ false
unfolding end_job
end_job_is_whole job = refl

pub header_is_whole : (seed : ℕ) → has_float (header seed) ≡ false
unfolding header age_field score_field
header_is_whole seed = refl
