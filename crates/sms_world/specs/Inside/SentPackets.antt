-- A reader may pass this by: contracts of private functions, and proofs, alone cite it.
-- Packets that were put out, and where their octets lie.
use Rattle.std.specs.Prelude.{◌≡◌, ℕ, ◌+◌, ◌≤◌, List, [], ◌∷◌, ◌++◌, length, map, take, drop, Option, Some, None}
use Rattle.std.specs.List.{AllByRecursion}
use Rattle.sms_script.specs.Transcript.Lines.{PacketValue}
use Rattle.sms_world.specs.declared.world.sent_packets.Kept.{Kept}
use Rattle.sms_world.specs.declared.world.sent_packets.Place.{Place}

-- the packets, the first first, and for how many more there is room
pub record SentPacketsValue : Type 0 where
  pub items : List PacketValue
  pub room : ℕ

-- the octets of a packet: its own list, or where that is empty those at its place among all
abbrev pub octets_among : List ℕ → ℕ → ℕ → List ℕ → List ℕ
octets_among all start size [] = take size (drop start all)
octets_among all start size (octet ∷ own) = octet ∷ own

abbrev pub packet_in : List ℕ → Kept → PacketValue
packet_in all k =
    record { is_up = k.up; phone = k.phone; octets = octets_among all k.start k.size k.own.items }

abbrev pub packets_in : List ℕ → List Kept → List PacketValue
packets_in all kept = map (packet_in all) kept

-- Each place lies within so many octets.
abbrev pub LieWithin : ℕ → List Kept → Type 0
LieWithin size kept = AllByRecursion (λ k. k.start + k.size ≤ size) kept

-- The octets were copied behind all others, to this place; or nothing has changed.
abbrev pub CopiedBehind : List ℕ → List ℕ → Option Place → List ℕ → Type 0
CopiedBehind old octets (Some place) new =
    (place.start ≡ length old) × (place.size ≡ length octets) × (new ≡ old ++ octets)
CopiedBehind old octets None new = new ≡ old
