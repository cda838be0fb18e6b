-- Items that are read one after another.
use Rattle.std.proofs.Common.{◌≡◌, List, [], ◌∷◌, ◌++◌, Result, Ok, Err, refl, ap, append_assoc, append-nil}
use Rattle.qe_base.specs.Answers.{Refuses}
use Rattle.qe_field.specs.Judgements.{ahead, bind}
use Rattle.qe_opening.specs.declared.fault.ReadFault.{ReadFault}
use Rattle.qe_opening.specs.declared.fault.ReadFault.TheVariants as r
use Rattle.qe_opening.specs.Answer.{each_of}
use Rattle.qe_opening.specs.Faults.{read_refusal}

-- a fault is passed on, want of memory too
pub refuses_on : {A B : Type 0} (fault : ReadFault) (inner : Result A ReadFault) (due : Result B ReadFault) → Refuses (read_refusal fault) inner
    → (inner ≡ Err fault → due ≡ Err fault) → Refuses (read_refusal fault) due
refuses_on (r.At field kind) inner due given on = on given
refuses_on r.NoMemory inner due given on = tt

pub ahead-nothing : {B : Type 0} (left : Result (List B) ReadFault) → ahead [] left ≡ left
ahead-nothing (Ok items) = refl
ahead-nothing (Err fault) = refl

pub ahead-all : {A B : Type 0} (read : A → Result B ReadFault) (done : List B) (left : List A) → left ≡ [] → ahead done (each_of read left) ≡ Ok done
ahead-all read done left none = rw none (ap Ok (append-nil done))

ahead-push : {B : Type 0} (done : List B) (one : B) (left : Result (List B) ReadFault)
    → ahead (done ++ one ∷ []) left ≡ ahead done (bind left (λ items. Ok (one ∷ items)))
ahead-push done one (Ok items) = ap Ok (append_assoc done (one ∷ []) items)
ahead-push done one (Err fault) = refl

-- one more item is read
pub ahead-one : {A B : Type 0} (read : A → Result B ReadFault) (done : List B) (items rest : List A) (one : A) (is : B) → items ≡ one ∷ rest
    → read one ≡ Ok is → ahead (done ++ is ∷ []) (each_of read rest) ≡ ahead done (each_of read items)
ahead-one read done items rest one is first reads = rw (first, reads) (ahead-push done is (each_of read rest))

-- the first fault is the answer
pub ahead-fault : {A B : Type 0} (read : A → Result B ReadFault) (done : List B) (items rest : List A) (one : A) (fault : ReadFault) → items ≡ one ∷ rest
    → read one ≡ Err fault → ahead done (each_of read items) ≡ Err fault
ahead-fault read done items rest one fault first refused = rw (first, refused)
