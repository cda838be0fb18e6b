use Rattle.std.proofs.Common.{get_or, ap, ◌∙◌}
use Rattle.qe_line_run.proofs.NextLemmas.{can_learn_next, has_played, is_next, read_next}
use Rattle.qe_line_run.proofs.playing.play_next.Goals as goal

pub play_read-requires-clause-read : goal.play_read-requires-clause-read
play_read-requires-clause-read c =
    let line = c.index-slice-place.result in
    let client = get_or c.args.clients.now line.caller c.index-clients-line.result in
    read_next c.args.script.now c.args.place c.args.engine.now c.args.clients.now line client
    (is_next c.args.script.now c.args.place c.args.engine.now c.args.clients.now line c.requires.meant c.requires.have c.requires.within
    (c.index-slice-place.is ∙ ap (λ lines. get_or lines c.args.place line) c.slice.ensures) client (ap (get_or c.args.clients.now line.caller) c.index-clients-line.is))

pub learn-requires : goal.learn-requires
learn-requires c =
    let line = c.index-slice-place.result in
    let client = get_or c.args.clients.now line.caller c.index-clients-line.result in
    let answered = c.in_ok-played.ensures in
    can_learn_next c.args.script.now c.args.place c.args.engine.now c.args.clients.now line client
    (is_next c.args.script.now c.args.place c.args.engine.now c.args.clients.now line c.requires.meant c.requires.have c.requires.within
    (c.index-slice-place.is ∙ ap (λ lines. get_or lines c.args.place line) c.slice.ensures) client (ap (get_or c.args.clients.now line.caller) c.index-clients-line.is))
    c.play_read.new.client c.play_read.new.engine c.in_ok-played.played answered c.last_outcome.result c.lesson.result
    (c.last_outcome.ensures c.args.engine.now.journal answered.entry (c.journal.ensures.entries ∙ answered.entered.added)) c.lesson.ensures

pub returns : goal.returns
returns c =
    let line = c.index-slice-place.result in
    let client = get_or c.args.clients.now line.caller c.index-clients-line.result in
    let answered = c.in_ok-played.ensures in
    has_played c.args.script.now c.args.place c.args.engine.now c.args.clients.now line client
    (is_next c.args.script.now c.args.place c.args.engine.now c.args.clients.now line c.requires.meant c.requires.have c.requires.within
    (c.index-slice-place.is ∙ ap (λ lines. get_or lines c.args.place line) c.slice.ensures) client (ap (get_or c.args.clients.now line.caller) c.index-clients-line.is))
    c.play_read.new.client c.play_read.new.engine c.in_ok-played.played answered c.last_outcome.result c.lesson.result
    (c.last_outcome.ensures c.args.engine.now.journal answered.entry (c.journal.ensures.entries ∙ answered.entered.added)) c.lesson.ensures
    c.learn.new.self c.learn.ensures
