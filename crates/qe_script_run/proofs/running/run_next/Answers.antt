use Rattle.std.proofs.Common.{◌∙◌, sym, ap, subst, Result, Ok, Err, OnOk, List}
use Rattle.std.specs.Vec.{with_items}
use Rattle.std.proofs.lemmas.List.{with_items_is}
use Rattle.qe_encodes.specs.Counted.{is_accepted}
use Rattle.qe_client.specs.Clients.{Held}
use Rattle.qe_script_run.specs.declared.ran.Ran.{Ran}
use Rattle.qe_line_run.specs.Playing.{HasPlayed}
use Rattle.qe_script_run.proofs.ReachedLemmas.{reached_more}
use Rattle.qe_script_run.proofs.running.run_next.Goals as goal

on_ok : {A B P Q : Type 0} (result : Result A B) → OnOk result P → (P → Q) → OnOk result Q
on_ok (Ok it) holds more = more holds
on_ok (Err fault) holds more = tt

pub returns : goal.returns
returns c =
    let ran = c.args.ran.now in
    let played = c.in_ok-sent.ensures in
    let as_many = played.have.clients_are.count ∙ sym c.requires.reached.clients.count ∙ sym ran.clients.ok.0 in
    let next = subst (λ (clients : List Held). HasPlayed c.args.script.now c.args.place ran.engine c.play_next.new.engine clients c.in_ok-sent.field-0)
    (sym (with_items_is ran.clients c.play_next.new.clients as_many)) played in
    let after : Ran = record {
      engine = c.play_next.new.engine;
      clients = with_items ran.clients c.play_next.new.clients;
      census = c.add.new.self;
      replies = c.push.new.self;
    } in
    on_ok c.push.result c.push.ensures.ok (λ replies.
    reached_more c.args.script.now c.args.place ran after c.in_ok-sent.field-0 c.is_accepted-accepted.result c.requires.reached next
    (c.is_accepted-accepted.ensures
    ∙ ap is_accepted (c.last_outcome.ensures ran.engine.journal next.entry (c.journal.ensures.entries ∙ next.added)))
    c.in_ok-add.ensures.ok replies)
