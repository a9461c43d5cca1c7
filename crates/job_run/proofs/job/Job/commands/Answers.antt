use Rattle.std.proofs.Common.{◌≡◌, ◌<◌, ◌+◌, length, rules, get_or, drop, refl, subst, sym, ap, ◌∙◌}
use Rattle.std.proofs.lemmas.List.Elements.{All-get_or}
use Rattle.job_mount.specs.Requests.{CanBeDone}
use Rattle.job_script.specs.Tasks.{places_of}
use Rattle.job_run.specs.Sending.{adds_deeds, no_deeds, sends}
use Rattle.job_run.proofs.Filled.{fills_none, fills_more, got_grows}
use Rattle.job_run.proofs.Sent.{done-all, done-more, done-none, stops}
use Rattle.job_run.proofs.Walk.{at_place}
use Rattle.job_run.proofs.job.Job.commands.Goals as goal

pub command-requires-clause-request : goal.command-requires-clause-request
command-requires-clause-request g c =
    let commands = c.args.self.now.script.now.commands.items in
    let place = get_or c.places_of-place-items.result.now c.loop-place.place-index 0 in
    let command = c.index-command.result.now in
    let within : place < length commands = search rules in
    let is : command ≡ get_or commands place command = search rules in
    subst CanBeDone (sym is) (All-get_or CanBeDone commands place command within c.args.self.now.requests_can_be_made)

pub loop-place-init : goal.loop-place-init
loop-place-init g c =
    record {
      number = refl;
      noted = fills_none _ _;
      done = done-none c.args.self.now.script.now.commands.items c.args.client.now;
    }

pub loop-place-preserved : goal.loop-place-preserved
loop-place-preserved g c =
    let commands = c.args.self.now.script.now.commands.items in
    let old = c.args.client.now in
    let now = c.loop-place.client in
    let i = c.loop-place.place-index in
    let places = places_of old.number commands in
    let command = c.index-command.result.now in
    let number = c.loop-place.invariant.number in
    let done = c.loop-place.invariant.done in
    let sends_is = rw c.in_default.is at c.command.ensures.sent in
    let asks_is = rw c.in_default.is at c.command.ensures.asked in
    let collects_is = rw c.in_default.is at c.command.ensures.collected in
    let next = at_place (adds_deeds old.number) old.number c.number.result commands (no_deeds old) done.all c.places_of-place-items.result.now i command
    c.places_of-place-items.ensures.value c.number.ensures.is
    c.loop-place-test.true done.reached c.index-command.ensures in
    record {
      number = c.command.ensures.number ∙ number;
      noted = fills_more _ _ _ _ _ _ c.loop-place.invariant.noted c.command.ensures.noted;
      done = done-more commands old now c.command.new.client command (drop i places) (drop (i + 1) places) done next
          (got_grows _ _ _ _ c.command.ensures.noted) (sends_is ∙ ap (λ t. sends t command.action now.sent) number) asks_is collects_is;
    }

pub returns : goal.returns
returns g c = record {
  number = c.loop-place.invariant.number;
  noted = c.loop-place.invariant.noted;
  done = done-all c.args.self.now.script.now.commands.items c.args.client.now c.loop-place.client c.places_of-place-items.result.now
      c.loop-place.place-index c.number.result c.places_of-place-items.ensures.value c.number.ensures.is c.loop-place-test.false
      c.loop-place.invariant.done;
  stopped = tt;
}

pub returns-in-Err : goal.returns-in-Err
returns-in-Err g c =
    let commands = c.args.self.now.script.now.commands.items in
    let old = c.args.client.now in
    let now = c.loop-place.client in
    let i = c.loop-place.place-index in
    let places = places_of old.number commands in
    let command = c.index-command.result.now in
    let done = c.loop-place.invariant.done in
    let next = at_place (adds_deeds old.number) old.number c.number.result commands (no_deeds old) done.all c.places_of-place-items.result.now i command
    c.places_of-place-items.ensures.value c.number.ensures.is
    c.loop-place-test.true done.reached c.index-command.ensures in
    record {
      number = c.command.ensures.number ∙ c.loop-place.invariant.number;
      noted = fills_more _ _ _ _ _ _ c.loop-place.invariant.noted c.command.ensures.noted;
      done = tt;
      stopped = stops commands old now c.command.new.client command (drop i places) (drop (i + 1) places) done next
          (got_grows _ _ _ _ c.command.ensures.noted) c.in-Err.fault c.at.result c.in-Err.ensures.unsent c.in-Err.ensures.unasked
          c.in-Err.ensures.fails c.at.ensures;
    }
