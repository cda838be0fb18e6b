use Rattle.std.proofs.Common.{◌≤◌, ◌-◌, min, length, vec_capacity, sym, subst, bytes_eq, nat_eq, arith}
use Rattle.std.specs.HashMap.{get, spare}
use Rattle.qe_chains.specs.declared.nodes.Side.TheVariants.{All}
use Rattle.qe_chains.specs.Nodes.{first_of, pairs_from}
use Rattle.qe_chains.specs.Sound.{IsSound}
use Rattle.qe_chains.proofs.CallLemmas.{same_tables, pairs_short, room_is}
use Rattle.qe_chains.proofs.chains.Chains.reserve.Goals as goal

pub invariant_of-self-in_err-reserve-3 : goal.invariant_of-self-in_err-reserve-3
invariant_of-self-in_err-reserve-3 c =
    let a = c.self.inside in
    subst (λ items. IsSound items a.all a.free (get bytes_eq c.reserve-2.new.self) (get nat_eq c.reserve-3.new.self)) (sym c.reserve.ensures.items)
    (same_tables a.nodes.items a.all a.free (get bytes_eq a.tags) (get bytes_eq c.reserve-2.new.self) (get nat_eq a.docs) (get nat_eq c.reserve-3.new.self) c.self.invariant
    c.reserve-2.ensures.entries.2 c.reserve-3.ensures.entries.2)

pub invariant_of-self-2 : goal.invariant_of-self-2
invariant_of-self-2 c =
    let a = c.self.inside in
    subst (λ items. IsSound items a.all a.free (get bytes_eq c.reserve-2.new.self) (get nat_eq c.reserve-3.new.self)) (sym c.reserve.ensures.items)
    (same_tables a.nodes.items a.all a.free (get bytes_eq a.tags) (get bytes_eq c.reserve-2.new.self) (get nat_eq a.docs) (get nat_eq c.reserve-3.new.self) c.self.invariant
    c.reserve-2.ensures.entries.2 c.reserve-3.ensures.entries.2)

pub returns-clause-ok : goal.returns-clause-ok
returns-clause-ok c =
    let a = c.self.inside in
    let short = pairs_short _ _ _ _ _ c.self.invariant in
    subst (λ items. c.args.pairs ≤ min (spare c.reserve-2.new.self) (min (spare c.reserve-3.new.self) (vec_capacity c.reserve.new.self - length (pairs_from items All (first_of a.all))))) (sym c.reserve.ensures.items)
    (room_is c.args.pairs _ _ _ c.in_ok-reserve-2.ensures.ok c.in_ok-reserve-3.ensures.ok (omega (arith, short, c.in_ok-reserve.ensures.ok, c.reserve.ensures.len, a.nodes.ok.0)))
