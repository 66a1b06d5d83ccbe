use Rattle.std.proofs.Common.{refl, sym, ap, subst, ◌∙◌}
use Rattle.sms_message.specs.declared.outcome.Step.{Step}
use Rattle.sms_message.specs.declared.outcome.Outcome.TheVariants.{Noted}
use Rattle.sms_party.specs.Receiver.Waits.{takes_up}
use Rattle.sms_party.proofs.Passing.{IsDropped, not_cp_dropped, note_noted, others_dropped}
use Rattle.sms_party.proofs.receiver.Receiver.pass.Goals as goal

pub returns-in-NotCp-clause-steps : goal.returns-in-NotCp-clause-steps
returns-in-NotCp-clause-steps c = λ message e. not_cp_dropped c.args.now c.args.self.now message (e ∙ c.in-NotCp.is)

pub returns-in-Note-clause-steps : goal.returns-in-Note-clause-steps
returns-in-Note-clause-steps c = λ message e.
    let step : Step = record { outcome = Noted; packets = c.no_packets.result } in
    note_noted c.args.now c.args.self.now message c.in-Note.flag c.in-Note.value (e ∙ c.in-Note.is) step refl (rw c.no_packets.ensures refl)

pub returns-in-Tiny-clause-steps : goal.returns-in-Tiny-clause-steps
returns-in-Tiny-clause-steps c = λ message e.
    others_dropped c.args.now c.args.self.now message (subst IsDropped (sym (e ∙ c.in-Tiny.is)) tt) (ap takes_up e ∙ c.requires)

pub returns-in-Data-clause-steps : goal.returns-in-Data-clause-steps
returns-in-Data-clause-steps c = λ message e.
    others_dropped c.args.now c.args.self.now message (subst IsDropped (sym (e ∙ c.in-Data.is)) tt) (ap takes_up e ∙ c.requires)
