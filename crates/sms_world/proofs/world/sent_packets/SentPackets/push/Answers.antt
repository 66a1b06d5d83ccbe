use Rattle.std.proofs.Common.{◌∷◌, [], ◌++◌, List, length, ap, ◌∙◌}
use Rattle.sms_script.specs.Transcript.Lines.{PacketValue}
use Rattle.sms_world.specs.Inside.SentPackets.{SentPacketsValue}
use Rattle.sms_world.proofs.Copied.{kept_copied, lies_copied}
use Rattle.sms_world.proofs.world.sent_packets.SentPackets.push.Goals as goal

pub invariant_of-self : goal.invariant_of-self
invariant_of-self c =
    let copied = c.in-Some.ensures.copied in
    let same = c.as_slice.ensures.value in
    lies_copied c.self.inside.octets.items c.args.octets.items c.copy_behind.new.all.items c.self.inside.packets.items c.push_reserved.new.self.items _ c.self.invariant
    copied.0 (copied.1 ∙ ap length same) (copied.2 ∙ ap (◌++◌ c.self.inside.octets.items) same) c.push_reserved.ensures.items

pub returns-in-Some-clause-items : goal.returns-in-Some-clause-items
returns-in-Some-clause-items c =
    let copied = c.in-Some.ensures.copied in
    let same = c.as_slice.ensures.value in
    kept_copied c.self.inside.octets.items c.args.octets.items c.copy_behind.new.all.items c.self.inside.packets.items c.push_reserved.new.self.items _ c.self.invariant
    copied.0 (copied.1 ∙ ap length same) c.new.ensures.items (copied.2 ∙ ap (◌++◌ c.self.inside.octets.items) same) c.push_reserved.ensures.items
    ∙ ap (λ (s : SentPacketsValue). s.items ++ record { is_up = c.args.up; phone = c.args.phone; octets = c.args.octets.items } ∷ []) c.self.view_is
