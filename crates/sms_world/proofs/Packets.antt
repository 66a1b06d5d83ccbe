-- The packets of a world, and what was put out.
use Rattle.std.proofs.Common.{◌≡◌, ℕ, zero, suc, ◌==◌, Bool, true, false, cond, List, [], ◌∷◌, ◌++◌, length, reverse, Some, None, refl, sym, ap, ◌∙◌, subst, arith}
use Rattle.std.specs.List.{slice_get}
use Rattle.std.proofs.lemmas.Bool.Decides.{nat_tests}
use Rattle.std.proofs.lemmas.List.{append-nil, append_assoc, reverse-append, length-reverse}
use Rattle.sms_party.specs.Sent.{nth, Sent}
use Rattle.sms_script.specs.Transcript.Lines.{PacketValue}
use Rattle.sms_world.specs.Machine.{Machine}
use Rattle.sms_world.specs.Machine.Next.{entered, packet}
use Rattle.sms_world.specs.World.Standing.{IsPacketOf, ArePacketsOf}
use Rattle.sms_world.specs.World.Steps.{IsOctetsOf}

-- what is entered stands after what was there
pub reverse_entered : {X : Type 0} (put sent : List X) → reverse (entered put sent) ≡ reverse sent ++ put
reverse_entered [] sent = sym (append-nil (reverse sent))
reverse_entered (x ∷ put) sent = reverse_entered put (x ∷ sent) ∙ ap (λ l. l ++ put) (reverse-append (x ∷ []) sent) ∙ append_assoc (reverse sent) (x ∷ []) put

pub packets_and_more : (packets more : List PacketValue) (sent put : List Sent) → ArePacketsOf packets sent → ArePacketsOf more put → ArePacketsOf (packets ++ more) (sent ++ put)
packets_and_more [] more [] put h k = k
packets_and_more [] more (x ∷ sent) put h k = absurd h
packets_and_more (p ∷ packets) more [] put h k = absurd h
packets_and_more (p ∷ packets) more (x ∷ sent) put h k = (h.0, packets_and_more packets more sent put h.1 k)

at_end : {X : Type 0} (xs : List X) (x : X) (n : ℕ) (b : Bool) → (n == length xs) ≡ b → slice_get (xs ++ x ∷ []) n ≡ cond b (Some x) (slice_get xs n)
at_end [] x zero true e = refl
at_end [] x zero false e = absurd (let q : true ≡ false = grind (arith, nat_tests) in cc)
at_end [] x (suc n) true e = absurd (let q : false ≡ true = grind (arith, nat_tests) in cc)
at_end [] x (suc n) false e = refl
at_end (y ∷ xs) x zero true e = absurd (let q : false ≡ true = grind (arith, nat_tests) in cc)
at_end (y ∷ xs) x zero false e = refl
at_end (y ∷ xs) x (suc n) true e = let q : (n == length xs) ≡ true = grind (arith, nat_tests) in at_end xs x n true q
at_end (y ∷ xs) x (suc n) false e = let q : (n == length xs) ≡ false = grind (arith, nat_tests) in at_end xs x n false q

-- the n-th from the oldest on
nth_is : {X : Type 0} (xs : List X) (n : ℕ) → nth xs n ≡ slice_get (reverse xs) n
nth_is [] n = refl
nth_is (x ∷ xs) n =
    let size : length (reverse xs) ≡ length xs = length-reverse xs in
    ap (λ o. cond (n == length xs) (Some x) o) (nth_is xs n)
    ∙ ap (λ k. cond (n == k) (Some x) (slice_get (reverse xs) n)) (sym size)
    ∙ sym (at_end (reverse xs) x n (n == length (reverse xs)) refl)
    ∙ ap (λ l. slice_get l n) (sym (reverse-append (x ∷ []) xs))

-- what the packet at this place carries
pub record WasPut (sent : List Sent) (n : ℕ) (p : PacketValue) : Type 0 where
  pub entry : Sent
  pub is_there : slice_get sent n ≡ Some entry
  pub is_packet : IsPacketOf p entry

was_put : (packets : List PacketValue) (sent : List Sent) (n : ℕ) (p : PacketValue) → ArePacketsOf packets sent → slice_get packets n ≡ Some p → WasPut sent n p
was_put [] sent n p h e = absurd cc
was_put (q ∷ packets) [] n p h e = absurd h
was_put (q ∷ packets) (x ∷ sent) zero p h e = let is : q ≡ p = cc in record { entry = x; is_there = refl; is_packet = subst (λ k. IsPacketOf k x) is h.0 }
was_put (q ∷ packets) (x ∷ sent) (suc n) p h e =
    let w = was_put packets sent n p h.1 e in record { entry = w.entry; is_there = w.is_there; is_packet = w.is_packet }

not_put : (packets : List PacketValue) (sent : List Sent) (n : ℕ) → ArePacketsOf packets sent → slice_get packets n ≡ None → slice_get sent n ≡ None
not_put [] [] n h e = refl
not_put [] (x ∷ sent) n h e = absurd h
not_put (q ∷ packets) [] n h e = absurd h
not_put (q ∷ packets) (x ∷ sent) zero h e = absurd cc
not_put (q ∷ packets) (x ∷ sent) (suc n) h e = not_put packets sent n h.1 e

-- the packet of a number, counted from 1
pub record IsSent (m : Machine) (k : ℕ) (p : PacketValue) : Type 0 where
  pub entry : Sent
  pub is_there : packet m k ≡ Some entry
  pub is_packet : IsPacketOf p entry

pub packet_there : (m : Machine) (packets : List PacketValue) (n : ℕ) (p : PacketValue) → ArePacketsOf packets (reverse m.sent) → slice_get packets n ≡ Some p → IsSent m (suc n) p
unfolding packet
packet_there m packets n p h e =
    let w = was_put packets (reverse m.sent) n p h e in record { entry = w.entry; is_there = nth_is m.sent n ∙ w.is_there; is_packet = w.is_packet }

pub packet_not_there : (m : Machine) (packets : List PacketValue) (n : ℕ) → ArePacketsOf packets (reverse m.sent) → slice_get packets n ≡ None → packet m (suc n) ≡ None
unfolding packet
packet_not_there m packets n h e = nth_is m.sent n ∙ not_put packets (reverse m.sent) n h e

pub no_packet_0 : (m : Machine) → packet m 0 ≡ None
unfolding packet
no_packet_0 m = refl

pub octets_there : (m : Machine) (k : ℕ) (p : PacketValue) → IsSent m k p → IsOctetsOf (packet m k) (Some p.octets)
octets_there m k p s = subst (λ o. IsOctetsOf o (Some p.octets)) (sym s.is_there) s.is_packet.1
