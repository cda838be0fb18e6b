-- A document that comes in pieces.
use Rattle.std.specs.Prelude.{◌≡◌, ◌≢◌, ℕ, ◌+◌, ◌≤◌, List, [], ◌++◌, length, Option, None, Some, Result, Ok, Err}
use Rattle.qe_value.specs.declared.fault.BsonFault.{BsonFault}
use Rattle.qe_value.specs.declared.fault.BsonFault.TheVariants.{At, NoMemory}
use Rattle.qe_value.specs.declared.fault.BsonKind.TheVariants.{Short}
use Rattle.qe_value.specs.declared.value.Plain.{Plain}
use Rattle.qe_document.specs.Reading.{document_at}

-- no whole document, and no fault that more bytes could not mend
abbrev pub IsShort : List ℕ → Type 0
IsShort bytes = (place : ℕ) × (document_at bytes ≡ Err (At place Short))

-- what a reader is: the bytes given of a document that isn't whole, and the fault that was answered
abbrev pub IsWaiting : List ℕ × Option BsonFault → Type 0
IsWaiting (held, None) = IsShort held
IsWaiting (held, Some fault) = Unit {0}

-- what a piece gives behind the bytes held, and the bytes held then
abbrev pub Takes : List ℕ → List ℕ → List ℕ → Result (Option (List (List ℕ × Plain) × ℕ)) BsonFault → Type 0
Takes held piece now (Ok None) = IsShort (held ++ piece) × (now ≡ held ++ piece)
Takes held piece now (Ok (Some x)) = (document_at (held ++ piece) ≡ Ok (x.0, length held + x.1)) × (x.1 ≤ length piece) × (now ≡ [])
Takes held piece now (Err (At place kind)) = (document_at (held ++ piece) ≡ Err (At place kind)) × (kind ≢ Short)
Takes held piece now (Err NoMemory) = Unit {0}

abbrev pub fault_of : {A : Type 0} → Result A BsonFault → Option BsonFault
fault_of (Ok x) = None
fault_of (Err fault) = Some fault

-- a reader takes a piece, or answers its fault again
abbrev pub Feeds : List ℕ × Option BsonFault → List ℕ × Option BsonFault → List ℕ → Result (Option (List (List ℕ × Plain) × ℕ)) BsonFault → Type 0
Feeds (held, None) now piece result = Takes held piece now.0 result × (now.1 ≡ fault_of result)
Feeds (held, Some fault) now piece result = (result ≡ Err fault) × (now ≡ (held, Some fault))

-- the fault again; else nothing is held, or a document was begun
abbrev pub Finishes : List ℕ × Option BsonFault → Result (Unit {0}) BsonFault → Type 0
Finishes (held, None) (Ok _) = held ≡ []
Finishes (held, None) (Err fault) = (held ≢ []) × (fault ≡ At (length held) Short)
Finishes (held, Some fault) result = result ≡ Err fault
