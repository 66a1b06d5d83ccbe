use Rattle.std.proofs.Common.{◌≡◌, ℕ, ◌^◌, ◌-◌, List, Some, None, sym, ap, ◌∙◌, subst, arith}
use Rattle.lru.specs.LruCache.{LruCache}
use Rattle.sms_centre.specs.Inside.Lines.{forgetting_line}
use Rattle.sms_centre.specs.Inside.Queue.{queue_of}
use Rattle.sms_centre.specs.Centre.Value.{LineValue, WaitingValue}
use Rattle.sms_centre.proofs.Queues.{taken_queue, none_ended, it_ended}
use Rattle.sms_centre.proofs.centre.line.Line.forget.Goals as goal

pub returns-in_default : goal.returns-in_default
returns-in_default c =
    let inside = c.self.inside in
    let made : List WaitingValue → LineValue = λ q. record { address = inside.address; queue = q; free = inside.free; next = inside.next; latest = inside.latest } in
    subst (λ (l : LineValue). l ≡ forgetting_line c.args.now c.args.stamp l) c.self.view_is
    (ap made (none_ended inside.queue.entries inside.free c.args.now c.args.stamp c.self.invariant.2
    (λ m e. let no : None ≡ Some m = c.in_default.ensures ∙ e in absurd cc)))

pub returns-else-message-now : goal.returns-else-message-now
returns-else-message-now c =
    let inside = c.self.inside in
    let made : List WaitingValue → LineValue = λ q. record { address = inside.address; queue = q; free = inside.free; next = inside.next; latest = inside.latest } in
    subst (λ (l : LineValue). l ≡ forgetting_line c.args.now c.args.stamp l) c.self.view_is
    (ap made (none_ended inside.queue.entries inside.free c.args.now c.args.stamp c.self.invariant.2
    (λ m e.
    let found : Some c.in-Some.message.now ≡ Some m = c.in-Some.ensures ∙ e in
    let same : c.in-Some.message.now ≡ m = cc in
    let end : c.message.inside.ends ≡ m.ends = ap (λ (x : WaitingValue). x.ends) (c.message.view_is ∙ same) in
    omega (arith, end, c.if-message-now.false))))

pub returns-then-message-now : goal.returns-then-message-now
returns-then-message-now c =
    let inside = c.self.inside in
    let made : List WaitingValue → LineValue = λ q. record { address = inside.address; queue = q; free = inside.free; next = inside.next; latest = inside.latest } in
    let end : c.message.inside.ends ≡ c.in-Some.message.now.ends = ap (λ (x : WaitingValue). x.ends) c.message.view_is in
    subst (λ (l : LineValue). made (queue_of c.take_out.new.queue.entries) ≡ forgetting_line c.args.now c.args.stamp l) c.self.view_is
    (ap made (ap (λ (q : LruCache ℕ WaitingValue). queue_of q.entries) c.take_out.ensures
    ∙ it_ended inside.queue.entries inside.free c.args.now c.args.stamp c.in-Some.message.now c.self.invariant.2 (sym c.in-Some.ensures) (omega (arith, end, c.if-message-now.true))))

pub invariant_of-self : goal.invariant_of-self
invariant_of-self c =
    let inside = c.self.inside in
    let left = taken_queue inside.queue c.take_out.new.queue (2 ^ 64 - 1) inside.free c.args.stamp c.take_out.ensures c.self.invariant.1 c.self.invariant.2 in
    (c.self.invariant.0, left.0, left.1)
