-- What is due where a payload is written.
use Rattle.std.proofs.Common.{◌≡◌, ℕ, Bool, true, false, nat_lt, List, length, refl, sym, ap, ◌∙◌, if◌then◌else◌, Option, None, Some, Result, Ok, Err}
use Rattle.qe_base.specs.Answers.{Refuses}
use Rattle.qe_value.specs.declared.fault.EncodeFault.{EncodeFault}
use Rattle.qe_value.specs.declared.fault.EncodeFault.TheVariants.{TooLong, TooDeep, ZeroInName}
use Rattle.qe_value.specs.declared.value.Plain.{Plain}
use Rattle.qe_value.specs.declared.value.Plain.TheVariants as p
use Rattle.qe_document.specs.Limits.{most_bytes, most_levels}
use Rattle.qe_document.specs.Measures.{fields_depth, zero_in_fields}
use Rattle.qe_document.specs.Spelling.{document_bytes}
use Rattle.qe_document.specs.Writing.{written_as}
use Rattle.qe_field.specs.Judgements.{unless}
use Rattle.qe_layout.specs.Layouts.{Element}
use Rattle.qe_command_written.specs.Faults.{fault_in}

pub ok_same : (due : Result (List ℕ) EncodeFault) (x y : List ℕ) → due ≡ Ok x → due ≡ Ok y → x ≡ y
ok_same due x y is also = let same : Ok x ≡ Ok y = sym is ∙ also in cc

-- where there is no refusal, the bytes are those that are due
pub written_bytes : (fields : List Element) (bytes out : List ℕ) → written_as fields bytes ≡ Ok out → out ≡ bytes
written_bytes fields bytes out is = by_tests (nat_lt most_bytes (length (document_bytes fields))) (nat_lt most_levels (fields_depth fields)) (zero_in_fields fields) is
  where
    by_tests : (long deep zero : Bool) → (if long then Err TooLong else if deep then Err TooDeep else if zero then Err ZeroInName else Ok bytes) ≡ Ok out → out ≡ bytes
    by_tests true deep zero is = absurd (cc)
    by_tests false true zero is = absurd (cc)
    by_tests false false true is = absurd (cc)
    by_tests false false false is = let same : bytes ≡ out = cc in sym same

pub value_due : (fields : List Element) (bytes out : List ℕ) → written_as fields bytes ≡ Ok out
    → unless (fault_in (written_as fields bytes)) (Ok (p.Binary 6 bytes)) ≡ Ok (p.Binary 6 out)
value_due fields bytes out is =
    let due : Result Plain EncodeFault = Ok (p.Binary 6 bytes) in
    ap (λ written. unless (fault_in written) due) is ∙ ap (λ y. Ok (p.Binary 6 y)) (sym (written_bytes fields bytes out is))

-- nothing was at fault, and this was due
pub unless_ok : {B : Type 0} (fault : Option EncodeFault) (due out : B) → unless fault (Ok due) ≡ Ok out → (fault ≡ None) × (out ≡ due)
unless_ok None due out is = (refl, let same : due ≡ out = cc in sym same)
unless_ok (Some fault) due out is = absurd (cc)

-- a refusal that is due of a part is due of the whole, where the part's fault is the whole's
pub refused_so : {B C : Type 0} (refusal part whole : Option EncodeFault) (due : B) (all : C) → ((fault : EncodeFault) → part ≡ Some fault → whole ≡ Some fault)
    → Refuses refusal (unless part (Ok due)) → Refuses refusal (unless whole (Ok all))
refused_so None part whole due all leads is = tt
refused_so (Some fault) None whole due all leads is = absurd (cc)
refused_so {B} {C} (Some fault) (Some other) whole due all leads is =
    let same : other ≡ fault = cc in
    ap (λ it. unless it (Ok all)) (leads fault (ap (λ f. Some f) same))

-- where no part has a fault, only want of memory is left
pub refused_free : {B C : Type 0} (refusal part : Option EncodeFault) (due : B) (all : C) → part ≡ None → Refuses refusal (unless part (Ok due)) → Refuses refusal (Ok all)
refused_free refusal part due all clean is = refused_so refusal part None due all (λ fault hit. sym clean ∙ hit) is
