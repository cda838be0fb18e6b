-- Covers that the payload of an interval may hold.
use Rattle.std.specs.Prelude.{◌≤◌, List, All, length}
use Rattle.qe_edges.specs.Prefixes.{most_of_cover}
use Rattle.qe_field.specs.declared.field.Field.{Field}
use Rattle.qe_plain.specs.declared.command.PlainCommand.{PlainCommand}
use Rattle.qe_plain.specs.declared.command.PlainCommand.TheVariants as p
use Rattle.qe_plain.specs.declared.command.Term.{Term}
use Rattle.qe_plain.specs.declared.command.Term.TheVariants as t
use Rattle.qe_encodes.specs.Fields.{kind_at}
use Rattle.qe_encodes.specs.Items.{cover_in}

-- a term's interval, where it is one, has a cover of at most 4,096 prefixes
abbrev pub HasShortCover : List Field → Term → Type 0
HasShortCover fields (t.Between field lo hi) = length (cover_in (kind_at fields field) lo hi) ≤ most_of_cover
HasShortCover fields _ = Unit {0}

abbrev pub HasShortCovers : List Field → PlainCommand → Type 0
HasShortCovers fields (p.Find terms ids) = All (HasShortCover fields) terms
HasShortCovers fields (p.Update terms set) = All (HasShortCover fields) terms
HasShortCovers fields (p.Delete terms) = All (HasShortCover fields) terms
HasShortCovers fields _ = Unit {0}
