-- Packets, their messages, and their way.
use Rattle.std.specs.Global.{Vec}
use Rattle.std.proofs.lemmas.List.{append-nil, append_assoc}
use Rattle.std.proofs.Common.{◌≡◌, ℕ, suc, map, Bool, true, false, List, [], ◌∷◌, ◌++◌, length, Option, refl, sym, ap, ◌∙◌, subst, arith}
use Rattle.std.specs.List.{AllByRecursion}
use Rattle.sms_message.specs.declared.message.Message.{Message}
use Rattle.sms_message.specs.Does.{CarriesEach}
use Rattle.sms_message.specs.Message.{Origin}
use Rattle.sms_party.specs.Sent.{Sent, bare, messages_of}
use Rattle.sms_script.specs.Transcript.Lines.{PacketValue}
use Rattle.sms_world.specs.Machine.Next.{to_centre, to_phone}
use Rattle.sms_world.specs.Inside.Parties.{on_way}
use Rattle.sms_world.specs.World.Parties.{place_at}
use Rattle.sms_world.specs.World.Standing.{ArePacketsOf}

-- what all goes to one place
pub on_their_way : (up : Bool) (phone : ℕ) (packets : List (List ℕ)) (put : List Sent) → AllByRecursion (λ (x : Sent). x.to ≡ place_at up phone) put
    → CarriesEach packets (messages_of put) → ArePacketsOf (on_way up phone packets) put
on_their_way up phone [] [] there carried = tt
on_their_way up phone [] (x ∷ put) there carried = absurd carried
on_their_way up phone (p ∷ packets) [] there carried = absurd carried
on_their_way up phone (p ∷ packets) (x ∷ put) there carried = ((there.0, carried.0), on_their_way up phone packets put there.1 carried.1)

pub down_to : (phone : ℕ) (origin : Option Origin) (putting : Option ℕ) (packets : List (List ℕ)) (ms : List Message) → CarriesEach packets ms
    → ArePacketsOf (on_way false phone packets) (to_phone phone origin putting ms)
down_to phone origin putting [] [] c = tt
down_to phone origin putting [] (m ∷ ms) c = absurd c
down_to phone origin putting (p ∷ packets) [] c = absurd c
down_to phone origin putting (p ∷ packets) (m ∷ ms) c = ((refl, c.0), down_to phone origin putting packets ms c.1)

pub up_from : (phone : ℕ) (packets : List (List ℕ)) (ms : List Message) → CarriesEach packets ms
    → ArePacketsOf (on_way true phone packets) (to_centre phone ms)
unfolding bare
up_from phone [] [] c = tt
up_from phone [] (m ∷ ms) c = absurd c
up_from phone (p ∷ packets) [] c = absurd c
up_from phone (p ∷ packets) (m ∷ ms) c = ((refl, c.0), up_from phone packets ms c.1)

pub as_many : (packets : List (List ℕ)) (ms : List Message) → CarriesEach packets ms → length packets ≡ length ms
as_many [] [] c = refl
as_many [] (m ∷ ms) c = absurd c
as_many (p ∷ packets) [] c = absurd c
as_many (p ∷ packets) (m ∷ ms) c = ap suc (as_many packets ms c.1)

pub as_many_sent : (put : List Sent) → length (messages_of put) ≡ length put
as_many_sent [] = refl
as_many_sent (x ∷ put) = ap suc (as_many_sent put)

pub put_none : (phone : ℕ) (origin : Option Origin) (putting : Option ℕ) (ms : List Message) → ms ≡ [] → to_phone phone origin putting ms ≡ []
put_none phone origin putting [] e = refl
put_none phone origin putting (m ∷ ms) e = absurd cc

pub put_none_up : (phone : ℕ) (ms : List Message) → ms ≡ [] → to_centre phone ms ≡ []
put_none_up phone [] e = refl
put_none_up phone (m ∷ ms) e = absurd cc

-- ---- packets are kept one after another

pub kept_one : (up : Bool) (phone : ℕ) (there more : List PacketValue) (octets : Vec ℕ) (left rest : List (Vec ℕ)) (all : List PacketValue)
    → left ≡ octets ∷ rest → more ≡ there ++ record { is_up = up; phone = phone; octets = octets.items } ∷ [] → there ++ on_way up phone (map (λ (p : Vec ℕ). p.items) left) ≡ all
    → more ++ on_way up phone (map (λ (p : Vec ℕ). p.items) rest) ≡ all
kept_one up phone there more octets left rest all first pushed h =
    ap (λ (ps : List PacketValue). ps ++ on_way up phone (map (λ (p : Vec ℕ). p.items) rest)) pushed
    ∙ append_assoc there (record { is_up = up; phone = phone; octets = octets.items } ∷ []) (on_way up phone (map (λ (p : Vec ℕ). p.items) rest))
    ∙ subst (λ (ps : List (Vec ℕ)). there ++ on_way up phone (map (λ (p : Vec ℕ). p.items) ps) ≡ all) first h

pub kept_all : (up : Bool) (phone : ℕ) (there : List PacketValue) (left : List (Vec ℕ)) (all : List PacketValue)
    → length left ≡ 0 → there ++ on_way up phone (map (λ (p : Vec ℕ). p.items) left) ≡ all → there ≡ all
kept_all up phone there [] all none h = sym (append-nil there) ∙ h
kept_all up phone there (p ∷ left) all none h = absurd (let e : suc (length left) ≡ 0 = none in omega (arith, e))
