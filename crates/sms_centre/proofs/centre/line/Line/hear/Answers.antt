use Rattle.std.proofs.Common.{◌≡◌, ◌^◌, ◌-◌, List, Option, None, Ok, true, false, sym, ap, ◌∙◌, subst}
use Rattle.sms_centre.specs.declared.centre.waiting.Push.{Push}
use Rattle.sms_message.specs.declared.outcome.Step.{Step}
use Rattle.sms_centre.specs.Centre.Verdicts.{stays}
use Rattle.sms_centre.specs.Inside.Lines.{left_waiting, HearsFor, LineHears}
use Rattle.sms_centre.specs.Inside.Queue.{queue_of}
use Rattle.sms_centre.specs.Centre.Value.{LineValue, WaitingValue}
use Rattle.sms_centre.proofs.Queues.{taken_queue, message_left, message_stays}
use Rattle.sms_centre.proofs.centre.line.Line.hear.Goals.{then-not-stays, else-not-stays}
use Rattle.sms_centre.proofs.centre.line.Line.hear.Goals as goal

pub invariant_of-self : goal.invariant_of-self
invariant_of-self c =
    let inside = c.self.inside in
    let left = taken_queue inside.queue c.take_out.new.queue (2 ^ 64 - 1) inside.free c.in-Some.latest.stamp c.take_out.ensures c.self.invariant.1 c.self.invariant.2 in
    (c.self.invariant.0, left.0, left.1)

pub returns : goal.returns
returns c =
    let inside = c.self.inside in
    let p : Push = c.in-Some.latest in
    let queue = queue_of inside.queue.entries in
    let v : LineValue = record { address = inside.address; queue = queue; free = inside.free; next = inside.next; latest = inside.latest } in
    let made : List WaitingValue → LineValue = λ q. record { address = inside.address; queue = q; free = inside.free; next = inside.next; latest = None } in
    let step : Step = record { outcome = c.verdict.result; packets = c.alone.result } in
    let heard = λ (after : LineValue) (is : after ≡ made (left_waiting queue p.stamp c.args.cause)).
    subst (λ (l : LineValue). LineHears c.args.now c.args.tag c.args.cause l (Ok step) after) c.self.view_is
    (subst (λ (o : Option Push). HearsFor c.args.now c.args.tag c.args.cause v o (Ok step) after) (sym c.in-Some.is) (
      sym c.is_awaited.ensures ∙ c.if-not-is_awaited.false,
      c.verdict.ensures,
      rw c.alone.ensures.items (c.in_ok-note.ensures.carries, tt),
      is,
    )) in
    elim c.if-not-stays.branch [
      | then-not-stays w ↦
          let goes : stays c.args.cause ≡ false = sym c.stays.ensures ∙ w.if-not-stays.true in
          heard c.if-not-stays.self (w.self-is ∙ ap made (message_left inside.queue w.take_out.new.queue inside.free p.stamp c.args.cause goes w.take_out.ensures c.self.invariant.2))
      | else-not-stays w ↦
          let stay : stays c.args.cause ≡ true = sym c.stays.ensures ∙ w.if-not-stays.false in
          heard c.if-not-stays.self (w.self-is ∙ ap made (message_stays queue p.stamp c.args.cause stay))
    ]
