-- A stream that comes in pieces, over a whole run of a reader, and over the bytes as one.
use Rattle.std.specs.Prelude.{◌≡◌, ◌≢◌, ℕ, List, [], ◌∷◌, ◌++◌, drop, Option, None, Some, Ok, Err}
use Rattle.qe_value.specs.declared.fault.BsonFault.{BsonFault}
use Rattle.qe_value.specs.declared.fault.BsonFault.TheVariants.{At, NoMemory}
use Rattle.qe_value.specs.declared.fault.BsonKind.TheVariants.{Short}
use Rattle.qe_value.specs.declared.value.Plain.{Plain}
use Rattle.qe_document.specs.Reading.{document_at}
use Rattle.qe_bson_stream.specs.Stream.{IsShort, Feeds}

abbrev pub Fields : Type 0
Fields = List (List ℕ × Plain)

-- what a reader holds, and the fault that it answered
abbrev pub State : Type 0
State = List ℕ × Option BsonFault

-- a piece is fed, and again what each document leaves of it, until no document is whole or a fault comes
abbrev pub Feeds_piece : State → State → List ℕ → List Fields → Option BsonFault → Type 0
Feeds_piece from to piece [] None = Feeds from to piece (Ok None)
Feeds_piece from to piece [] (Some fault) = Feeds from to piece (Err fault)
Feeds_piece from to piece (document ∷ documents) stop =
    (n : ℕ) × (mid : State) × Feeds from mid piece (Ok (Some (document, n))) × Feeds_piece mid to (drop n piece) documents stop

abbrev pub Unless : Option BsonFault → Type 0 → Type 0 → Type 0
Unless None goes_on ends = goes_on
Unless (Some fault) goes_on ends = ends

-- the pieces are fed one after another, up to the first fault: the documents that come, and that fault
abbrev pub Runs : State → State → List (List ℕ) → List Fields → Option BsonFault → Type 0
Runs from to [] documents stop = (documents ≡ []) × (stop ≡ None) × (to ≡ from)
Runs from to (piece ∷ pieces) documents stop =
    (first : List Fields) × (later : List Fields) × (here : Option BsonFault) × (mid : State) × (documents ≡ first ++ later)
    × Feeds_piece from mid piece first here × Unless here (Runs mid to pieces later stop) ((later ≡ []) × (stop ≡ here) × (to ≡ mid))

-- the bytes of all pieces
abbrev pub joined : List (List ℕ) → List ℕ
joined [] = []
joined (piece ∷ pieces) = piece ++ joined pieces

-- the documents that the bytes begin with, one after another, and what is left behind them
abbrev pub Begin_with : List ℕ → List Fields → List ℕ → Type 0
Begin_with bytes [] rest = bytes ≡ rest
Begin_with bytes (document ∷ documents) rest = (n : ℕ) × (document_at bytes ≡ Ok (document, n)) × Begin_with (drop n bytes) documents rest

-- how a run ends before some bytes: they begin no whole document, and are held, or they have this fault; want of memory
-- may come anywhere
abbrev pub Ends : List ℕ → Option BsonFault → State → Type 0
Ends rest None to = IsShort rest × (to ≡ (rest, None))
Ends rest (Some (At place kind)) to = (document_at rest ≡ Err (At place kind)) × (kind ≢ Short)
Ends rest (Some NoMemory) to = Unit {0}
