use Rattle.std.proofs.Common.{◌≡◌, ℕ, ◌+◌, ◌-◌, ◌^◌, ◌<◌, ◌≤◌, List, [], ◌∷◌, ◌++◌, sym, ap, ◌∙◌, subst, arith, rules}
use Rattle.lru.specs.LruCache.{LruCache}
use Rattle.sms_centre.specs.Inside.Lines.{accepting_line}
use Rattle.sms_centre.specs.Inside.Queue.{queue_of, IsQueue}
use Rattle.sms_centre.specs.Centre.Value.{LineValue, WaitingValue}
use Rattle.sms_centre.proofs.Queues.{put_first, accepted_queue, accepted_messages, put_undone}
use Rattle.sms_centre.proofs.centre.line.hold.Goals as goal

pub invariant_of-line-in-Ok : goal.invariant_of-line-in-Ok
invariant_of-line-in-Ok c =
    let inside = c.line.inside in
    let k = c.message.inside.stamp in
    let own : k ≡ c.args.message.stamp = ap (λ (m : WaitingValue). m.stamp) c.message.view_is in
    let free : inside.free ≤ k = omega (arith, own, ap (λ (l : LineValue). l.free) c.line.view_is, c.requires.stamp) in
    let put = put_first inside.queue c.put.new.self inside.free k c.len-count.result c.args.message c.in_ok-put.ensures.entries c.line.invariant.2 free c.len-count.ensures.len c.len-count.ensures.fits c.line.invariant.1 in
    let queue = accepted_queue inside.queue c.put.new.self (2 ^ 64 - 1) inside.free k c.args.message put c.line.invariant.1 c.line.invariant.2 free own in
    (c.line.invariant.0, queue.0, queue.1)

pub returns-in-Ok-clause-line : goal.returns-in-Ok-clause-line
returns-in-Ok-clause-line c =
    let inside = c.line.inside in
    let m : WaitingValue = c.args.message in
    let k = c.message.inside.stamp in
    let own : k ≡ m.stamp = ap (λ (m : WaitingValue). m.stamp) c.message.view_is in
    let free : inside.free ≤ k = omega (arith, own, ap (λ (l : LineValue). l.free) c.line.view_is, c.requires.stamp) in
    let put = put_first inside.queue c.put.new.self inside.free k c.len-count.result m c.in_ok-put.ensures.entries c.line.invariant.2 free c.len-count.ensures.len c.len-count.ensures.fits c.line.invariant.1 in
    let made : List WaitingValue → ℕ → LineValue = λ q s. record { address = inside.address; queue = q; free = s + 1; next = inside.next; latest = inside.latest } in
    subst (λ (l : LineValue). made (queue_of c.put.new.self.entries) k ≡ accepting_line l m) c.line.view_is
    (ap (λ (q : List WaitingValue). made q k) (accepted_messages inside.queue c.put.new.self k m put)
    ∙ ap (λ (s : ℕ). made (queue_of inside.queue.entries ++ m ∷ []) s) own)

pub invariant_of-line-in-Err : goal.invariant_of-line-in-Err
invariant_of-line-in-Err c =
    let inside = c.line.inside in
    let k = c.message.inside.stamp in
    let own : k ≡ c.args.message.stamp = ap (λ (m : WaitingValue). m.stamp) c.message.view_is in
    let free : inside.free ≤ k = omega (arith, own, ap (λ (l : LineValue). l.free) c.line.view_is, c.requires.stamp) in
    let put = put_first inside.queue c.put.new.self inside.free k c.len-count.result c.args.message c.in_ok-put.ensures.entries c.line.invariant.2 free c.len-count.ensures.len c.len-count.ensures.fits c.line.invariant.1 in
    let same = put_undone inside.queue c.put.new.self c.take_out.new.queue k c.args.message put c.take_out.ensures in
    subst (λ (q : LruCache ℕ WaitingValue). (inside.next.value < 7) × (q.cap ≡ 2 ^ 64 - 1) × IsQueue q.entries inside.free) (sym same) c.line.invariant

pub returns-in-Err-clause-err_line : goal.returns-in-Err-clause-err_line
returns-in-Err-clause-err_line c =
    let inside = c.line.inside in
    let k = c.message.inside.stamp in
    let own : k ≡ c.args.message.stamp = ap (λ (m : WaitingValue). m.stamp) c.message.view_is in
    let free : inside.free ≤ k = omega (arith, own, ap (λ (l : LineValue). l.free) c.line.view_is, c.requires.stamp) in
    let put = put_first inside.queue c.put.new.self inside.free k c.len-count.result c.args.message c.in_ok-put.ensures.entries c.line.invariant.2 free c.len-count.ensures.len c.len-count.ensures.fits c.line.invariant.1 in
    let same = put_undone inside.queue c.put.new.self c.take_out.new.queue k c.args.message put c.take_out.ensures in
    let made : LruCache ℕ WaitingValue → LineValue = λ q. record { address = inside.address; queue = queue_of q.entries; free = inside.free; next = inside.next; latest = inside.latest } in
    ap made same ∙ c.line.view_is

pub returns-in-Ok-clause-held : goal.returns-in-Ok-clause-held
returns-in-Ok-clause-held c = search rules
