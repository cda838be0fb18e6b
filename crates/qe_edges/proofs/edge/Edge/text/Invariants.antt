use Rattle.std.proofs.Common.{◌≡◌, ◌-◌, ◌++◌, take}
use Rattle.qe_edges.specs.Texts.{digits_of}
use Rattle.qe_edges.proofs.edge.Edge.text.Given as goal

-- the digits written and those to come are all
abbrev pub invariant-loop-place : goal.invariant-loop-place
invariant-loop-place l = take l.place l.into ++ digits_of (l.len - l.place) l.self.prefix ≡ digits_of l.len l.self.prefix
