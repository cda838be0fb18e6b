-- A job's number in a line is below 2^63.
use Rattle.std.proofs.Common.{◌≡◌, ℕ, ◌^◌, List, Bool, true, false, cond, None, Some, refl, subst}
use Rattle.std.specs.Prelude.{Ok, Err, codes, nat_lt, nat_le, ◌&&◌, option_and_then}
use Rattle.serde_json.specs.Data.{Members}
use Rattle.serde_json.specs.Find.{as_u64, as_number}
use Rattle.qe_filter.specs.declared.fault.PlainFault.TheVariants as f
use Rattle.qe_field.specs.declared.field.Field.{Field}
use Rattle.qe_field.specs.declared.field.FieldKind.{FieldKind}
use Rattle.qe_plain.specs.declared.command.PlainCommand.{PlainCommand}
use Rattle.qe_plain.specs.declared.command.PlainCommand.TheVariants as c
use Rattle.qe_plain.specs.declared.command.RawCommand.{RawCommand}
use Rattle.qe_plain.specs.declared.command.RawCommand.TheVariants as r
use Rattle.qe_schema.specs.Cells.{cells_of}
use Rattle.qe_schema.specs.Filters.{filter_terms}
use Rattle.qe_schema.specs.Fits.{job_fits}
use Rattle.qe_schema.specs.Indexed.{indexed}
use Rattle.qe_schema.specs.Lookup.{greatest_of}
use Rattle.qe_schema.specs.Pairs.{pairs_of}
use Rattle.qe_schema.specs.Resolve.{resolved, document_of, step_of, raise_to}
use Rattle.qe_raw.specs.declared.verb.Verb.{Verb}
use Rattle.qe_raw.specs.declared.verb.Verb.TheVariants as v
use Rattle.qe_raw.specs.Raw.{command_in}
use Rattle.qe_raw.specs.Values.{needed, needed_document, needed_whole, searched, kind_in, optional_document, field_in, limit_in, in_63_bits, whole_at, whole_of}
use Rattle.qe_field.proofs.GaveLemmas.{gave, there, found}

-- the number of the job of a raw command is small
abbrev pub raw_fits : RawCommand → Bool
raw_fits (r.Step job limit) = nat_lt job (2 ^ 63)
raw_fits (r.End job) = nat_lt job (2 ^ 63)
raw_fits (r.Abandon job) = nat_lt job (2 ^ 63)
raw_fits _ = true

in_bits : (m n : ℕ) → in_63_bits m ≡ Some n → nat_lt n (2 ^ 63) ≡ true
in_bits m n h = by_test (nat_lt m (2 ^ 63)) refl h
  where
    by_test : (b : Bool) → nat_lt m (2 ^ 63) ≡ b → cond b (Some m) None ≡ Some n → nat_lt n (2 ^ 63) ≡ true
    by_test true e made = let same : m ≡ n = cc in subst (λ k. nat_lt k (2 ^ 63) ≡ true) same e
    by_test false e made = cc

-- a whole number of a line is small
whole_small : (name : List ℕ) (ms : Members) (job : ℕ) → needed_whole name ms ≡ Ok job → nat_lt job (2 ^ 63) ≡ true
whole_small name ms job h =
    let given = gave (needed name ms) (whole_at name) job h in
    let read = found in_63_bits (option_and_then as_u64 (as_number given.value)) job (there _ (whole_of given.value) job given.then_is) in
    in_bits read.value job read.then_is

-- so is the job's number in a raw command
pub raw_small : (verb : Verb) (ms : Members) (raw : RawCommand) → command_in verb ms ≡ Ok raw → raw_fits raw ≡ true
raw_small v.Insert ms raw h =
    let doc = gave (needed_document (codes "doc") ms) _ raw h in
    let last = doc.then_is in
    let e : r.Insert doc.value ≡ raw = cc in subst (λ x. raw_fits x ≡ true) e refl
raw_small v.Find ms raw h =
    let filter = gave (searched ms) _ raw h in
    let last = filter.then_is in
    let e : r.Find filter.value false ≡ raw = cc in subst (λ x. raw_fits x ≡ true) e refl
raw_small v.Ids ms raw h =
    let filter = gave (searched ms) _ raw h in
    let last = filter.then_is in
    let e : r.Find filter.value true ≡ raw = cc in subst (λ x. raw_fits x ≡ true) e refl
raw_small v.Update ms raw h =
    let filter = gave (needed_document (codes "filter") ms) _ raw h in
    let set = gave (needed_document (codes "set") ms) _ raw filter.then_is in
    let last = set.then_is in
    let e : r.Update filter.value set.value ≡ raw = cc in subst (λ x. raw_fits x ≡ true) e refl
raw_small v.Delete ms raw h =
    let filter = gave (needed_document (codes "filter") ms) _ raw h in
    let last = filter.then_is in
    let e : r.Delete filter.value ≡ raw = cc in subst (λ x. raw_fits x ≡ true) e refl
raw_small v.Begin ms raw h =
    let kind = gave (kind_in ms) _ raw h in
    let tokens = gave (optional_document (codes "tokens") ms) _ raw kind.then_is in
    let last = tokens.then_is in
    let e : r.Begin kind.value tokens.value ≡ raw = cc in subst (λ x. raw_fits x ≡ true) e refl
raw_small v.Step ms raw h =
    let job = gave (needed_whole (codes "job") ms) _ raw h in
    let limit = gave (limit_in ms) _ raw job.then_is in
    let last = limit.then_is in
    let e : r.Step job.value limit.value ≡ raw = cc in
    subst (λ x. raw_fits x ≡ true) e (whole_small (codes "job") ms job.value job.found)
raw_small v.End ms raw h =
    let job = gave (needed_whole (codes "job") ms) _ raw h in
    let last = job.then_is in
    let e : r.End job.value ≡ raw = cc in subst (λ x. raw_fits x ≡ true) e (whole_small (codes "job") ms job.value job.found)
raw_small v.Abandon ms raw h =
    let job = gave (needed_whole (codes "job") ms) _ raw h in
    let last = job.then_is in
    let e : r.Abandon job.value ≡ raw = cc in subst (λ x. raw_fits x ≡ true) e (whole_small (codes "job") ms job.value job.found)
raw_small v.Raise ms raw h =
    let field = gave (field_in ms) _ raw h in
    let contention = gave (needed_whole (codes "contention") ms) _ raw field.then_is in
    let last = contention.then_is in
    let e : r.Raise field.value contention.value ≡ raw = cc in subst (λ x. raw_fits x ≡ true) e refl

step_fits : (job limit : ℕ) (command : PlainCommand) → nat_lt job (2 ^ 63) ≡ true → step_of job limit ≡ Ok command → job_fits command ≡ true
step_fits job limit command fit h = by_test (nat_le 1 limit && nat_le limit 65536) h
  where
    by_test : (b : Bool) → cond b (Ok (c.Step job limit)) (Err (f.BadLimit limit)) ≡ Ok command → job_fits command ≡ true
    by_test true made = let e : c.Step job limit ≡ command = cc in subst (λ x. job_fits x ≡ true) e fit
    by_test false made = cc

raise_fits : (contention : ℕ) (known : ℕ × FieldKind) (command : PlainCommand) → raise_to contention known ≡ Ok command → job_fits command ≡ true
raise_fits contention known command h = by_test (nat_le contention (greatest_of known.1)) h
  where
    by_test : (b : Bool) → cond b (Ok (c.Raise known.0 contention)) (Err (f.BadContention contention)) ≡ Ok command → job_fits command ≡ true
    by_test true made = let e : c.Raise known.0 contention ≡ command = cc in subst (λ x. job_fits x ≡ true) e refl
    by_test false made = cc

-- and in the command that is meant
pub resolved_small : (fields : List Field) (raw : RawCommand) (command : PlainCommand) → raw_fits raw ≡ true → resolved fields raw ≡ Ok command
    → job_fits command ≡ true
unfolding resolved
resolved_small fields (r.Insert doc) command fit h =
    let document = gave (document_of fields doc) _ command h in
    let last = document.then_is in
    let e : c.Insert document.value ≡ command = cc in subst (λ x. job_fits x ≡ true) e refl
resolved_small fields (r.Find filter ids) command fit h =
    let terms = gave (filter_terms fields filter) _ command h in
    let last = terms.then_is in
    let e : c.Find terms.value ids ≡ command = cc in subst (λ x. job_fits x ≡ true) e refl
resolved_small fields (r.Update filter set) command fit h =
    let terms = gave (filter_terms fields filter) _ command h in
    let cells = gave (cells_of true fields set) _ command terms.then_is in
    let last = cells.then_is in
    let e : c.Update terms.value cells.value ≡ command = cc in subst (λ x. job_fits x ≡ true) e refl
resolved_small fields (r.Delete filter) command fit h =
    let terms = gave (filter_terms fields filter) _ command h in
    let last = terms.then_is in
    let e : c.Delete terms.value ≡ command = cc in subst (λ x. job_fits x ≡ true) e refl
resolved_small fields (r.Begin kind tokens) command fit h =
    let pairs = gave (pairs_of fields tokens) _ command h in
    let last = pairs.then_is in
    let e : c.Begin kind pairs.value ≡ command = cc in subst (λ x. job_fits x ≡ true) e refl
resolved_small fields (r.Step job limit) command fit h = step_fits job limit command fit h
resolved_small fields (r.End job) command fit h = let e : c.End job ≡ command = cc in subst (λ x. job_fits x ≡ true) e fit
resolved_small fields (r.Abandon job) command fit h = let e : c.Abandon job ≡ command = cc in subst (λ x. job_fits x ≡ true) e fit
resolved_small fields (r.Raise path contention) command fit h =
    let known = gave (indexed fields path) (raise_to contention) command h in
    raise_fits contention known.value command known.then_is
