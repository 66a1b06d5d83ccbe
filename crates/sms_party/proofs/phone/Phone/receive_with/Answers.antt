use Rattle.std.proofs.Common.{ℕ, List, sym, subst, ◌∙◌}
use Rattle.sms_message.specs.Memory.{MemoryOnlyFor}
use Rattle.sms_party.specs.Phone.{PhoneValue, PhoneReceives, phone_takes_up}
use Rattle.sms_party.proofs.Passing.{sender_takes_it, receiver_takes_it, memory_for_sender, memory_for_receiver}
use Rattle.sms_party.proofs.phone.Phone.receive_with.Goals as goal

pub returns-then-flag-clause-receives : goal.returns-then-flag-clause-receives
returns-then-flag-clause-receives c =
    let old : PhoneValue = record { sender = c.self.inside.sender; receiver = c.self.inside.receiver } in
    let new : PhoneValue = record { sender = c.receive_look.new.self; receiver = c.self.inside.receiver } in
    subst (λ (v : PhoneValue). PhoneReceives c.args.now c.args.octets.now v c.receive_look.result new) c.self.view_is
    (subst (λ (l : List ℕ). PhoneReceives c.args.now l old c.receive_look.result new) c.look_at-look.ensures
    (sender_takes_it c.args.now c.look_at-look.result c.glance.result c.glance.ensures.seen old (sym c.flag.ensures ∙ c.if-flag.true) c.receive_look.new.self c.receive_look.result c.receive_look.ensures.receives))

pub returns-else-flag-clause-receives : goal.returns-else-flag-clause-receives
returns-else-flag-clause-receives c =
    let old : PhoneValue = record { sender = c.self.inside.sender; receiver = c.self.inside.receiver } in
    let new : PhoneValue = record { sender = c.self.inside.sender; receiver = c.receive_look-else-flag.new.self } in
    subst (λ (v : PhoneValue). PhoneReceives c.args.now c.args.octets.now v c.receive_look-else-flag.result new) c.self.view_is
    (subst (λ (l : List ℕ). PhoneReceives c.args.now l old c.receive_look-else-flag.result new) c.look_at-look.ensures
    (receiver_takes_it c.args.now c.look_at-look.result c.glance.result c.glance.ensures.seen old (sym c.flag.ensures ∙ c.if-flag.false) c.receive_look-else-flag.new.self c.receive_look-else-flag.result c.receive_look-else-flag.ensures.receives c.receive_look-else-flag.ensures.refused))

pub returns-then-flag-clause-memory : goal.returns-then-flag-clause-memory
returns-then-flag-clause-memory c =
    let old : PhoneValue = record { sender = c.self.inside.sender; receiver = c.self.inside.receiver } in
    let some = c.octets_are_read_as_a_message.ensures c.look_at-look.result c.glance.ensures.octets in
    subst (λ (v : PhoneValue). MemoryOnlyFor (phone_takes_up v) c.args.octets.now c.receive_look.result) c.self.view_is
    (subst (λ (l : List ℕ). MemoryOnlyFor (phone_takes_up old) l c.receive_look.result) c.look_at-look.ensures
    (memory_for_sender c.args.now c.look_at-look.result c.glance.result c.glance.ensures.seen old some (sym c.flag.ensures ∙ c.if-flag.true) c.receive_look.result c.receive_look.ensures.memory))

pub returns-else-flag-clause-memory : goal.returns-else-flag-clause-memory
returns-else-flag-clause-memory c =
    let old : PhoneValue = record { sender = c.self.inside.sender; receiver = c.self.inside.receiver } in
    let some = c.octets_are_read_as_a_message.ensures c.look_at-look.result c.glance.ensures.octets in
    subst (λ (v : PhoneValue). MemoryOnlyFor (phone_takes_up v) c.args.octets.now c.receive_look-else-flag.result) c.self.view_is
    (subst (λ (l : List ℕ). MemoryOnlyFor (phone_takes_up old) l c.receive_look-else-flag.result) c.look_at-look.ensures
    (memory_for_receiver c.args.now c.look_at-look.result c.glance.result c.glance.ensures.seen old some (sym c.flag.ensures ∙ c.if-flag.false) c.receive_look-else-flag.result c.receive_look-else-flag.ensures.memory))
