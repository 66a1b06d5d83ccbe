use Rattle.std.proofs.Common.{◌≡◌, List, length, Ok, refl, sym, ap, ◌∙◌, subst}
use Rattle.sms_world.specs.Ledger.{Ledger, AreAlike}
use Rattle.sms_world.specs.Noted.{sender_noted}
use Rattle.sms_world.specs.Inside.NotesValue.{ledger_in, IsCounted, facts_of}
use Rattle.sms_world.specs.World.Steps.{event_of}
use Rattle.sms_world.proofs.Alike.{same}
use Rattle.sms_world.proofs.MayCall.{may_call, either, when_typed, when_late, when_carried, when_pushed, when_ticked, when_injected}
use Rattle.sms_world.proofs.notes.Notes.note.Goals as goal

pub returns-in-Carry-clause-noted : goal.returns-in-Carry-clause-noted
returns-in-Carry-clause-noted c =
    when_carried (ledger_in c.args.self.now) (ledger_in c.bring.new.self) c.args.reject c.args.now c.args.facts.phone (facts_of c.args.facts) (Ok c.args.told) _ _
    c.mark_of-mark.result (ap event_of c.in-Carry.is) c.mark_of-mark.ensures c.bring.ensures.noted

pub returns-in-Push-clause-noted : goal.returns-in-Push-clause-noted
returns-in-Push-clause-noted c =
    when_pushed (ledger_in c.args.self.now) (ledger_in c.put_push.new.self) c.args.reject c.args.now c.args.facts.phone (facts_of c.args.facts) (Ok c.args.told) _ _
    (ap event_of c.in-Push.is) c.put_push.ensures.noted

pub returns-in-Tick-clause-noted : goal.returns-in-Tick-clause-noted
returns-in-Tick-clause-noted c =
    when_ticked (ledger_in c.args.self.now) (ledger_in c.args.self.now) c.args.reject c.args.now c.args.facts.phone (facts_of c.args.facts) (Ok c.args.told) _ _
    (ap event_of c.in-Tick.is) (same (ledger_in c.args.self.now))

pub returns-in-Inject-clause-noted : goal.returns-in-Inject-clause-noted
returns-in-Inject-clause-noted c =
    when_injected (ledger_in c.args.self.now) (ledger_in c.args.self.now) c.args.reject c.args.now c.args.facts.phone (facts_of c.args.facts) (Ok c.args.told) _ _ _
    (ap event_of c.in-Inject.is) (same (ledger_in c.args.self.now))

pub returns-in-Compose-clause-noted : goal.returns-in-Compose-clause-noted
returns-in-Compose-clause-noted c =
    let l = ledger_in c.args.self.now in
    let k = ledger_in c.call.new.self in
    let f = facts_of c.args.facts in
    let alike : IsCounted ((sender_noted l c.args.reject c.args.facts.phone c.args.facts.text (Ok c.args.told)).sender c.args.facts.phone)
    → AreAlike (sender_noted l c.args.reject c.args.facts.phone c.args.facts.text (Ok c.args.told)) k
    = λ counted. c.call.ensures.noted (may_call c.args.self.now.senders.items (length c.args.self.now.texts.items) c.args.facts.phone c.args.told counted) in
    either c.in-Compose.is
    (λ x. when_typed l k c.args.reject c.args.now c.args.facts.phone f (Ok c.args.told) alike _ _ _ _ (ap event_of x.3))
    (λ x. when_late l k c.args.reject c.args.now c.args.facts.phone f (Ok c.args.told) alike _ _ (ap event_of x.1))
