-- Each event is one act.
use Rattle.std.proofs.Common.{refl, ap, ◌∙◌}
use Rattle.sms_world.specs.Inside.Below.{Below}
use Rattle.sms_world.specs.Machine.Event.{Compose, Carry, Timeout, Push, Tick, Inject, TypesText, MovesPacket, EndsWait, HandsOver, MovesClock, SlipsIn}
use Rattle.sms_world.specs.Understood.{IsOneAct}

pub is_one_act : Below → IsOneAct
is_one_act law width (Compose phone target characters) text =
    let cut = law.cut width characters text in (
      TypesText phone target characters cut.0,
      (cut.0, text, cut.1, refl),
      λ other is. is.3 ∙ ap (TypesText phone target characters) (cut.2 is.0 is.2),
    )
is_one_act law width (Carry k) h = (MovesPacket k, refl, λ other is. is)
is_one_act law width (Timeout phone) h = (EndsWait phone, refl, λ other is. is)
is_one_act law width (Push phone) h = (HandsOver phone, refl, λ other is. is)
is_one_act law width (Tick seconds) h = (MovesClock seconds, refl, λ other is. is)
is_one_act law width (Inject place octets) h =
    let m = law.each octets h in (
      SlipsIn place m.0,
      (m.0, h, m.1, refl),
      λ other is. is.3 ∙ ap (SlipsIn place) (law.one octets m.0 is.0 h m.1 is.2),
    )
