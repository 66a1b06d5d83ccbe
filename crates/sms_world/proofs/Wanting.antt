-- Where there is no memory for an event, nothing changes.
use Rattle.std.proofs.Common.{◌≡◌, ℕ, zero, suc, ◌<◌, Bool, true, false, cond, ltb, List, [], length, Option, Some, None, is_some, inl, inr, refl, sym, ap, ◌∙◌, subst}
use Rattle.sms_join.specs.UnitsOfText.{IsText}
use Rattle.sms_party.specs.Sender.Texts.{width_of}
use Rattle.sms_party.specs.Sent.{Sent}
use Rattle.sms_world.specs.declared.world.way.Way.{Way}
use Rattle.sms_world.specs.Inside.Below.{Below}
use Rattle.sms_world.specs.Machine.{Machine}
use Rattle.sms_world.specs.Machine.Event.{Event, Compose, Carry, Timeout, Push, Tick, Inject, TypesText, MovesPacket, EndsWait, HandsOver}
use Rattle.sms_world.specs.Machine.Next.{packet}
use Rattle.sms_world.specs.Machine.Step.{Step, no_memory, takes_memory}
use Rattle.sms_world.specs.Inside.NotesValue.{IsOfText}
use Rattle.sms_world.specs.Inside.Asked.{way_at, way_at_phone, way_of_packet}
use Rattle.sms_world.specs.World.Standing.{StandsFor}
use Rattle.sms_world.specs.World.Value.{WorldValue}
use Rattle.sms_world.proofs.Factual.{phone_there, goes_so}

module _ (law : Below) (v : WorldValue) (m : Machine) (h : StandsFor v m) (way : Way) where
  at_phone : (phone : ℕ) → way_at_phone v phone ≡ Some way → ltb phone (length m.phones) ≡ true
  at_phone phone e = ap (ltb phone) (sym h.parties_stand.as_many) ∙ (phone_there v phone way e).1

  packet_is : (k : ℕ) → way_of_packet v k ≡ Some way → is_some (packet m k) ≡ true
  packet_is k e = let g = goes_so v m h k way e in ap is_some g.there

  pub want_of_memory : (event : Event) → IsOfText event → way_at v event ≡ Some way → Step m event no_memory [] m
  unfolding takes_memory
  want_of_memory (Compose phone target characters) text e =
      let c = law.cut (width_of m.senders.wide) characters text in
      (TypesText phone target characters c.0, (c.0, text, c.1, refl), inr (at_phone phone e, refl, refl, refl))
  want_of_memory (Carry k) text e = (MovesPacket k, refl, inr (packet_is k e, refl, refl, refl))
  want_of_memory (Timeout phone) text e = (EndsWait phone, refl, inr (at_phone phone e, refl, refl, refl))
  want_of_memory (Push phone) text e = (HandsOver phone, refl, inr (at_phone phone e, refl, refl, refl))
  want_of_memory (Tick seconds) text e = cc
  want_of_memory (Inject place octets) text e = cc
