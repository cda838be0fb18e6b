-- The edges of a value and the cover of an interval, as in the range index of MongoDB's Queryable Encryption
-- (libmongocrypt, edge generation and minimum cover). The order of both, and the cut with the domain, are this
-- project's own.
use Rattle.std.specs.Prelude.{◌≡◌, ℕ, zero, suc, ◌+◌, ◌-◌, ◌*◌, ◌/◌, ◌^◌, ◌<◌, ◌≤◌, ◌↔◌, Bool, ◌&&◌, nat_lt, int_le, IsTrue, if◌then◌else◌, ℤ, pos, ◌+ℤ◌, ◌≤ℤ◌, List, [], ◌∷◌, ◌++◌, map, Contains}
use Rattle.std.specs.List.{AllPairs}
use Rattle.qe_edges.specs.Rules.{Rules, offset_of, bits_of, IsStored, is_stored, stored_levels, IsDomain, InDomain}
use Rattle.qe_edges.specs.declared.edge.Edge.{Edge}

-- the list has exactly the prefixes of a set
abbrev pub Lists : (Edge → Type 0) → List Edge → Type 0
Lists set edges = (e : Edge) → Contains edges e ↔ set e

-- the list rises with a number of its prefixes
abbrev pub Rises : (Edge → ℕ) → List Edge → Type 0
Rises number edges = AllPairs (λ e f. number e < number f) edges

-- so many digits, at most 64, spell the number
abbrev pub IsSpelled : Edge → Type 0
IsSpelled e = (e.len ≤ 64) × (e.prefix < 2 ^ e.len)

-- the prefix begins the string of a number: its block is the set of these numbers
abbrev pub Begins : Rules → Edge → ℕ → Type 0
Begins rules e number = number / 2 ^ (bits_of rules - e.len) ≡ e.prefix

-- the least number of the block
abbrev pub lowest_of : Rules → Edge → ℕ
lowest_of rules e = e.prefix * 2 ^ (bits_of rules - e.len)

-- the edges of a value: its prefixes at the stored levels
abbrev pub IsEdgeOf : Rules → ℤ → Edge → Type 0
IsEdgeOf rules v e = IsStored rules e.len × Begins rules e (offset_of rules v)

-- the prefix of a number that has so many digits
abbrev pub prefix_of : Rules → ℕ → ℕ → Edge
prefix_of rules number level = record { prefix = number / 2 ^ (bits_of rules - level); len = level }

-- the edges of a value in order: its prefixes at the stored levels, shortest first
abbrev pub edges_of : Rules → ℤ → List Edge
edges_of rules v = map (prefix_of rules (offset_of rules v)) (stored_levels rules)

-- the most edges that a value has
abbrev pub most_edges : ℕ
most_edges = 65

-- the most prefixes that a cover has
abbrev pub most_of_cover : ℕ
most_of_cover = 4096

-- whether the prefix is one that a domain stores
abbrev pub is_stored_prefix : Rules → Edge → Bool
is_stored_prefix rules e = is_stored rules e.len && nat_lt e.prefix (2 ^ e.len)

-- the block of the prefix, all strings that it begins, lies inside a set of numbers
abbrev pub IsInside : Rules → (ℕ → Type 0) → Edge → Type 0
IsInside rules set e = (number : ℕ) → number < 2 ^ bits_of rules → Begins rules e number → set number

-- a shorter prefix, which begins another
abbrev pub IsShorter : Edge → Edge → Type 0
IsShorter e f = (e.len < f.len) × (f.prefix / 2 ^ (f.len - e.len) ≡ e.prefix)

-- The cover of a set of numbers: the prefixes at stored levels whose block lies inside it, and of which no shorter
-- stored prefix's block does.
pub record IsCoverPrefix (rules : Rules) (set : ℕ → Type 0) (e : Edge) : Type 0 where
  pub stored : IsStored rules e.len
  pub spelled : e.prefix < 2 ^ e.len
  pub inside : IsInside rules set e
  pub shortest : (f : Edge) → IsStored rules f.len → IsShorter f e → ¬ IsInside rules set f

-- the numbers of an interval's values, cut with the domain
abbrev pub InInterval : Rules → ℤ → ℤ → ℕ → Type 0
InInterval rules lo hi number = let v = rules.min +ℤ pos number in (lo ≤ℤ v) × (v ≤ℤ hi) × (v ≤ℤ rules.max)

-- the cover of an interval
abbrev pub IsInCover : Rules → ℤ → ℤ → Edge → Type 0
IsInCover rules lo hi = IsCoverPrefix rules (InInterval rules lo hi)

-- whether a number is one of the interval's
abbrev pub is_within : Rules → ℤ → ℤ → ℕ → Bool
is_within rules lo hi number =
    let v = rules.min +ℤ pos number in int_le lo v && int_le v hi && int_le v rules.max

-- whether the block lies inside the interval: its first number and its last do
abbrev pub is_inside : Rules → ℤ → ℤ → Edge → Bool
is_inside rules lo hi e =
    let lowest = lowest_of rules e in
    is_within rules lo hi lowest && is_within rules lo hi (lowest + 2 ^ (bits_of rules - e.len) - 1)

-- whether the prefix is stored, and its block inside the interval
abbrev pub is_taken : Rules → ℤ → ℤ → Edge → Bool
is_taken rules lo hi e = is_stored rules e.len && is_inside rules lo hi e

-- the prefix with one digit more
abbrev pub longer : Edge → ℕ → Edge
longer e digit = record { prefix = e.prefix * 2 + digit; len = e.len + 1 }

-- What an interval's cover has below a prefix that may get so many digits more, in the order of the blocks: the prefix
-- alone where it is taken, and else what it has below the two of one digit more.
abbrev pub cover_below : Rules → ℤ → ℤ → ℕ → Edge → List Edge
cover_below rules lo hi zero e = if is_taken rules lo hi e then e ∷ [] else []
cover_below rules lo hi (suc more) e = if is_taken rules lo hi e then e ∷ []
    else cover_below rules lo hi more (longer e 0) ++ cover_below rules lo hi more (longer e 1)

-- the empty prefix, which begins every string
abbrev pub root : Edge
root = record { prefix = 0; len = 0 }

-- the cover of an interval in order
abbrev pub cover_of : Rules → ℤ → ℤ → List Edge
cover_of rules lo hi = cover_below rules lo hi (bits_of rules) root

-- the prefix is an edge of the value and in the interval's cover
abbrev pub IsShared : Rules → ℤ → ℤ → ℤ → Edge → Type 0
IsShared rules v lo hi e = IsEdgeOf rules v e × IsInCover rules lo hi e

-- a value lies in an interval exactly where its edges and the interval's cover share a prefix
abbrev pub MeetInside : Type 0
MeetInside = (rules : Rules) (v lo hi : ℤ) → IsDomain rules → InDomain rules v
    → ((lo ≤ℤ v) × (v ≤ℤ hi)) ↔ ((e : Edge) × IsShared rules v lo hi e)

-- they share one prefix at most
abbrev pub MeetOnce : Type 0
MeetOnce = (rules : Rules) (v lo hi : ℤ) (e f : Edge) → IsShared rules v lo hi e → IsShared rules v lo hi f → e ≡ f

-- the members and the order make the list of edges
abbrev pub OneEdgeList : Type 0
OneEdgeList = (rules : Rules) (v : ℤ) (edges others : List Edge)
    → Lists (IsEdgeOf rules v) edges → Rises (λ e. e.len) edges
    → Lists (IsEdgeOf rules v) others → Rises (λ e. e.len) others → edges ≡ others

-- .. and that of a cover
abbrev pub OneCoverList : Type 0
OneCoverList = (rules : Rules) (lo hi : ℤ) (cover other : List Edge)
    → Lists (IsInCover rules lo hi) cover → Rises (lowest_of rules) cover
    → Lists (IsInCover rules lo hi) other → Rises (lowest_of rules) other → cover ≡ other

-- the edges in order are a value's edges, shortest first
abbrev pub EdgesAreListed : Type 0
EdgesAreListed = (rules : Rules) (v : ℤ)
    → Lists (IsEdgeOf rules v) (edges_of rules v) × Rises (λ e. e.len) (edges_of rules v)

-- .. and the cover in order is an interval's cover, its blocks one behind the other
abbrev pub CoverIsListed : Type 0
CoverIsListed = (rules : Rules) (lo hi : ℤ)
    → Lists (IsInCover rules lo hi) (cover_of rules lo hi) × Rises (lowest_of rules) (cover_of rules lo hi)

-- the test tells the stored prefixes
abbrev pub TellsPrefixes : Type 0
TellsPrefixes = (rules : Rules) (e : Edge)
    → IsTrue (is_stored_prefix rules e) ↔ (IsStored rules e.len × (e.prefix < 2 ^ e.len))
