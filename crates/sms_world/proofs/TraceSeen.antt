-- What an event brings is what the packet carries.
use Rattle.std.proofs.Common.{◌≡◌, ℕ, zero, suc, ◌-◌, ◌≤◌, ◌<◌, Bool, true, false, cond, List, [], ◌∷◌, length, Option, Some, None, refl, sym, ap, ◌∙◌, subst, arith}
use Rattle.std.specs.List.{slice_get}
use Rattle.std.specs.Option.{option_map}
use Rattle.sms_centre.specs.Centre.Value.{phones_of}
use Rattle.sms_message.specs.declared.message.Message.{Message}
use Rattle.sms_message.specs.Message.Carrying.{Carries}
use Rattle.sms_party.specs.Sent.{Place, Centre, Phone, Sent}
use Rattle.sms_script.specs.Transcript.Lines.{PacketValue}
use Rattle.sms_world.specs.Machine.{Machine}
use Rattle.sms_world.specs.Machine.Event.{Event, Carry}
use Rattle.sms_world.specs.Machine.Next.{packet}
use Rattle.sms_world.specs.Traces.{Seen, Brought, seen_of, brought_to, brought_of, brought_at}
use Rattle.sms_world.specs.World.Standing.{place_of, StandsFor}
use Rattle.sms_world.specs.World.Value.{WorldValue}
use Rattle.sms_world.proofs.Packets.{packet_there, packet_not_there, no_packet_0}

-- no packet of this number
pub none_brought : (v : WorldValue) (m : Machine) → StandsFor v m → (event : Event) (k : ℕ) → event ≡ Carry k → packet m k ≡ None → None ≡ brought_at m event
none_brought v m s event k e none = sym (ap (brought_at m) e ∙ ap (option_map (brought_of m.phones m.clock)) none)

pub no_packet : (v : WorldValue) (m : Machine) → StandsFor v m → (k : ℕ) → length v.packets < k → packet m k ≡ None
no_packet v m s zero l = absurd (omega (arith, l))
no_packet v m s (suc k) l = packet_not_there m v.packets k s.packets_are (past v.packets k (omega (arith, l)))
  where
    past : (xs : List PacketValue) (i : ℕ) → length xs ≤ i → slice_get xs i ≡ None
    past [] i l = refl
    past (x ∷ xs) zero l = absurd (omega (arith, l))
    past (x ∷ xs) (suc i) l = past xs i (omega (arith, l))

pub none_at : (v : WorldValue) (m : Machine) → StandsFor v m → (k : ℕ) → 0 < k → slice_get v.packets (k - 1) ≡ None → packet m k ≡ None
none_at v m s zero l e = absurd (omega (arith, l))
none_at v m s (suc k) l e =
    let at : suc k - 1 ≡ k = omega arith in packet_not_there m v.packets k s.packets_are (subst (λ i. slice_get v.packets i ≡ None) at e)

place_brought : (p : PacketValue) (seen : Seen) → brought_to (place_of p) seen ≡ record { up = p.is_up; phone = p.phone; seen = seen }
place_brought p seen = go p.is_up
  where
    go : (b : Bool) → brought_to (cond b (Centre p.phone) (Phone p.phone)) seen ≡ record { up = b; phone = p.phone; seen = seen }
    go true = refl
    go false = refl

pub some_brought : (v : WorldValue) (m : Machine) → StandsFor v m → (event : Event) (k : ℕ) → event ≡ Carry k → 0 < k → (p : PacketValue) → slice_get v.packets (k - 1) ≡ Some p
    → (seen : Seen) → ((x : Message) → Carries p.octets x → seen ≡ seen_of (phones_of v.parties.centre) v.clock x)
    → Some (record { up = p.is_up; phone = p.phone; seen = seen }) ≡ brought_at m event
some_brought v m s event zero e l p there seen h = absurd (omega (arith, l))
some_brought v m s event (suc k) e l p there seen h =
    let at : suc k - 1 ≡ k = omega arith in
    let w = packet_there m v.packets k p s.packets_are (subst (λ i. slice_get v.packets i ≡ Some p) at there) in
    let x = w.entry in
    let is : seen ≡ seen_of m.phones m.clock x.message = h x.message w.is_packet.1 ∙ (ap (λ ps. seen_of ps v.clock x.message) s.parties_stand.centre_stands.phones_are ∙ ap (λ now. seen_of m.phones now x.message) (sym s.clock_is)) in
    sym (ap (brought_at m) e ∙ (ap (option_map (brought_of m.phones m.clock)) w.is_there
    ∙ (ap (λ (to : Place). Some (brought_to to (seen_of m.phones m.clock x.message))) w.is_packet.0
    ∙ (ap (λ (y : Seen). Some (brought_to (place_of p) y)) (sym is) ∙ ap (λ (y : Brought). Some y) (place_brought p seen)))))
