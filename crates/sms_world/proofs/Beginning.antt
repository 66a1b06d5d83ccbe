-- The first state.
use Rattle.std.proofs.Common.{◌≡◌, ◌<◌, Bool, true, false, not, ◌&&◌, List, [], length, refl, sym, subst, arith}
use Rattle.std.specs.Prelude.{IsTrue, ◌∷◌}
use Rattle.std.specs.List.{AllByRecursion, list_any}
use Rattle.sms_field.specs.Address.Value.{AddressValue}
use Rattle.sms_field.specs.Address.Same.{same_address}
use Rattle.sms_message.specs.Address.{are_distinct}
use Rattle.sms_centre.specs.Centre.State.{new_centre}
use Rattle.sms_centre.specs.Centre.Value.{CentreValue}
use Rattle.sms_centre.specs.Centre.Calls.{StandsAlways}
use Rattle.sms_party.specs.Phone.{PhoneValue}
use Rattle.sms_script.specs.Meaning.Known.{AreDistinct}
use Rattle.sms_script.specs.declared.script.limits.Limits.{Limits}
use Rattle.sms_script.specs.Transcript.Lines.{PacketValue}
use Rattle.sms_world.specs.Machine.{start}
use Rattle.sms_world.specs.World.Value.{PartiesValue}
use Rattle.sms_world.specs.Inside.Phones.{IsNewPhone}
use Rattle.sms_world.specs.World.Standing.{ArePacketsOf, PartiesStand, StandsFor, IsWorld}
use Rattle.sms_world.proofs.AllOf.{one_of_all}

-- no two addresses are the same, in either way to say it
distinct_by : (a : AddressValue) (phones : List AddressValue) (b : Bool) → list_any (same_address a) phones ≡ b → b ≡ false → are_distinct phones ≡ true → (not b && are_distinct phones) ≡ true
distinct_by a phones true e f h = absurd cc
distinct_by a phones false e f h = h

are_all_distinct : (phones : List AddressValue) → AreDistinct phones → are_distinct phones ≡ true
are_all_distinct [] h = refl
are_all_distinct (a ∷ phones) h = distinct_by a phones (list_any (same_address a) phones) refl h.0 (are_all_distinct phones h.1)

pub distinct : (phones : List AddressValue) → AreDistinct phones → IsTrue (are_distinct phones)
distinct phones h = are_all_distinct phones h

pub parties_begin : (limits : Limits) (phones : List AddressValue) (centre : CentreValue) (made : List PhoneValue) → StandsAlways limits.held phones centre new_centre → length made ≡ length phones
    → AllByRecursion (IsNewPhone limits) made → PartiesStand (record { centre = centre; phones = made }) (start limits phones)
unfolding start
parties_begin limits phones centre made stands many new =
    record {
      centre_stands = stands 0;
      as_many = many;
      senders_stand = λ p phone e. (one_of_all (IsNewPhone limits) made p phone new e).sends p limits.wide refl;
      receivers_stand = λ p phone e. (one_of_all (IsNewPhone limits) made p phone new e).receives;
    }

pub stands_at_first : (limits : Limits) (phones : List AddressValue) (ps : PartiesValue) (packets : List PacketValue) → packets ≡ [] → PartiesStand ps (start limits phones)
    → StandsFor (record { limits = limits; clock = 0; parties = ps; packets = packets }) (start limits phones)
unfolding start
stands_at_first limits phones ps packets none stand =
    record { limits_are = refl; clock_is = refl; parties_stand = stand; packets_are = subst (λ l. ArePacketsOf l []) (sym none) tt }

pub world_begins : (limits : Limits) (phones : List AddressValue) (ps : PartiesValue) (packets : List PacketValue) → packets ≡ [] → PartiesStand ps (start limits phones)
    → IsWorld (record { limits = limits; clock = 0; parties = ps; packets = packets })
world_begins limits phones ps packets none stand =
    record {
      clock = omega arith;
      ways = subst (λ l. AllByRecursion (λ (p : PacketValue). p.phone < length ps.phones) l) (sym none) tt;
      comes = record {
        limits = limits;
        phones = phones;
        past = [];
        machine = start limits phones;
        runs = refl;
        stands = stands_at_first limits phones ps packets none stand;
      };
    }
