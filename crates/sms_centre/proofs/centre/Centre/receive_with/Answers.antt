use Rattle.std.proofs.Common.{◌≡◌, ◌<◌, ℕ, List, length, Some, sym, ap, subst, ◌∙◌, arith}
use Rattle.sms_field.specs.Address.Value.{AddressValue}
use Rattle.sms_field.specs.Inside.OctetLists.{octets_are}
use Rattle.sms_message.specs.Message.Glance.{IsSeenAs}
use Rattle.sms_message.specs.Message.Reading.{ReadsAs}
use Rattle.sms_message.specs.declared.outcome.Dropped.{Dropped}
use Rattle.sms_message.specs.declared.outcome.Dropped.TheVariants.{Memory}
use Rattle.sms_centre.specs.Inside.Seen.{awaited_at}
use Rattle.sms_centre.proofs.Receiving.{receives}
use Rattle.sms_centre.proofs.Later.{later_as}
use Rattle.sms_centre.proofs.Seen.{drop_receives, none_dropped, never_memory}
use Rattle.sms_centre.proofs.centre.Centre.receive_with.Goals as goal

pub returns-in-Some-clause-receives : goal.returns-in-Some-clause-receives
returns-in-Some-clause-receives c =
    let within = subst (λ (l : List AddressValue). c.args.phone < length l) (sym c.advance.ensures.phones) c.requires.phone in
    let read = c.octets_are_read_as_a_message.ensures c.args.octets.now (octets_are c.args.octets.now (λ i. omega (arith, c.type_inv.octets i))) in
    drop_receives c.args.now c.args.phone c.args.octets.now c.args.self.now c.advance.new.self c.glance.result c.advance.ensures.stands (subst (λ (l : List ℕ). IsSeenAs l c.glance.result) c.look_at-look.ensures c.glance.ensures.seen) within
    read.0 c.in-Some.why read.1 (sym c.why_dropped.ensures ∙ c.in-Some.is)

pub returns-in-Some-clause-memory : goal.returns-in-Some-clause-memory
returns-in-Some-clause-memory c e =
    let why : c.in-Some.why ≡ Memory = cc in
    absurd (never_memory (awaited_at c.args.now c.advance.new.self.lines c.args.phone) c.glance.result (sym c.why_dropped.ensures ∙ (c.in-Some.is ∙ ap (λ (w : Dropped). Some w) why)))

pub returns-in_err-message-clause-memory : goal.returns-in_err-message-clause-memory
returns-in_err-message-clause-memory c e =
    let within = subst (λ (l : List AddressValue). c.args.phone < length l) (sym c.advance.ensures.phones) c.requires.phone in
    none_dropped c.args.now c.args.phone c.args.octets.now c.args.self.now c.advance.new.self c.glance.result c.advance.ensures.stands (subst (λ (l : List ℕ). IsSeenAs l c.glance.result) c.look_at-look.ensures c.glance.ensures.seen) within
    (sym c.why_dropped.ensures ∙ c.in_default.is)

pub returns-clause-receives : goal.returns-clause-receives
returns-clause-receives c = receives c.args.now c.args.phone c.args.octets.now c.args.self.now c.advance.new.self c.take.new.self c.in_ok-message.message c.take.result c.advance.ensures.stands (subst (λ (l : List ℕ). ReadsAs l c.in_ok-message.message) c.look_at-look.ensures c.in_ok-message.ensures.read) c.take.ensures.steps

pub returns-clause-memory : goal.returns-clause-memory
returns-clause-memory c e =
    let within = subst (λ (l : List AddressValue). c.args.phone < length l) (sym c.advance.ensures.phones) c.requires.phone in
    none_dropped c.args.now c.args.phone c.args.octets.now c.args.self.now c.advance.new.self c.glance.result c.advance.ensures.stands (subst (λ (l : List ℕ). IsSeenAs l c.glance.result) c.look_at-look.ensures c.glance.ensures.seen) within
    (sym c.why_dropped.ensures ∙ c.in_default.is)

pub returns-clause-refused : goal.returns-clause-refused
returns-clause-refused c = later_as c.args.now c.args.self.now c.advance.new.self c.take.new.self c.take.result c.take.ensures.refused c.advance.ensures.later
