use Rattle.std.proofs.Common.{◌≡◌, ℕ, ◌^◌, ◌-◌, List, [], ◌∷◌, ◌++◌, Some, Ok, Err, nat_lt, refl, sym, ap, ◌∙◌, subst}
use Rattle.std.proofs.lemmas.Result.{err_from_is_err_and}
use Rattle.lru.specs.LruCache.{LruCache}
use Rattle.sms_message.specs.declared.outcome.Dropped.TheVariants.{Memory}
use Rattle.sms_message.specs.declared.message.Tag.{Tag}
use Rattle.sms_message.specs.declared.outcome.Step.{Step}
use Rattle.sms_message.specs.declared.outcome.Outcome.TheVariants.{Pushed}
use Rattle.sms_centre.specs.Inside.Lines.{LinePushes}
use Rattle.sms_centre.specs.Inside.Queue.{queue_of}
use Rattle.sms_centre.specs.Centre.Value.{LineValue, WaitingValue}
use Rattle.sms_centre.proofs.Pushing.{pushed_from, failed_from}
use Rattle.sms_centre.proofs.Queues.{pushed_queue, others_of, is_pushed}
use Rattle.sms_centre.proofs.centre.line.Line.push.Goals as goal

pub invariant_of-self : goal.invariant_of-self
invariant_of-self c =
    let inside = c.self.inside in
    let turned = pushed_queue inside.queue c.promote.new.self (2 ^ 64 - 1) inside.free (c.in-Some.stamp.now, c.in-Some.first.now) c.promote.ensures.entries c.self.invariant.1 c.self.invariant.2 (sym c.in-Some.ensures) in
    (c.following-self-inside.ensures.value, turned.0, turned.1)

pub returns-clause-pushes : goal.returns-clause-pushes
returns-clause-pushes c =
    let inside = c.self.inside in
    let key = c.in-Some.stamp.now in
    let m : WaitingValue = c.in-Some.first.now in
    let end = c.first.inside.ends in
    let others = others_of inside.queue.entries in
    let h = is_pushed inside.queue.entries inside.free (key, m) c.self.invariant.2 (sym c.in-Some.ensures) in
    let v : LineValue = record { address = inside.address; queue = queue_of inside.queue.entries; free = inside.free; next = inside.next; latest = inside.latest } in
    let step : Step = record { outcome = Pushed; packets = c.alone.result } in
    let made : List WaitingValue → ℕ → ℕ → LineValue = λ q s e. record {
      address = inside.address;
      queue = q;
      free = inside.free;
      next = c.following-self-inside.result;
      latest = Some (record { tag = inside.next; stamp = s; ends = e });
    } in
    let turned : queue_of c.promote.new.self.entries ≡ others ++ m ∷ [] = ap (λ (q : LruCache ℕ WaitingValue). queue_of q.entries) c.promote.ensures.entries ∙ h.after in
    let end_is : end ≡ m.ends = ap (λ (x : WaitingValue). x.ends) c.first.view_is in
    let after = made (queue_of c.promote.new.self.entries) key end in
    subst (λ (l : LineValue). LinePushes l (Ok step) after) c.self.view_is
    (pushed_from v after v.queue m others (nat_lt 1 c.len-more.result) step h.before
    (ap (nat_lt 1) (c.len-more.ensures.len ∙ h.long)) refl
    (rw c.alone.ensures.items (c.in_ok-packet.ensures.carries, tt))
    (ap (λ (q : List WaitingValue). made q key end) turned
    ∙ (ap (λ (s : ℕ). made (others ++ m ∷ []) s end) h.own
    ∙ (ap (λ (e : ℕ). made (others ++ m ∷ []) m.stamp e) end_is
    ∙ ap (λ (t : Tag). record v { queue = others ++ m ∷ []; next = t; latest = Some (record { tag = inside.next; stamp = m.stamp; ends = m.ends }) }) c.following-self-inside.ensures.is))))
