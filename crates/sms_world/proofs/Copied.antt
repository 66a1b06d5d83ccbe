-- Octets that are copied behind others, and the packets whose octets they are.
use Rattle.std.proofs.Common.{◌≡◌, ℕ, ◌+◌, ◌≤◌, List, [], ◌∷◌, ◌++◌, length, take, drop, refl, sym, ap, ◌∙◌, subst, arith, length-append, length-drop}
use Rattle.std.proofs.lemmas.List.{append-nil, map-append, take-append-le, drop-append-le}
use Rattle.std.proofs.Math.Seq.{drop-append_seam, take-append_seam}
use Rattle.sms_script.specs.Transcript.Lines.{PacketValue}
use Rattle.sms_world.specs.declared.world.sent_packets.Kept.{Kept}
use Rattle.sms_world.specs.Inside.SentPackets.{octets_among, packet_in, packets_in, LieWithin}

-- what is added behind leaves the octets before as they were
octets_stay : (all more : List ℕ) (start size : ℕ) (own : List ℕ) → start + size ≤ length all
    → octets_among (all ++ more) start size own ≡ octets_among all start size own
octets_stay all more start size [] h =
    ap (take size) (drop-append-le start all more (omega arith))
    ∙ take-append-le size (drop start all) more (omega (arith, length-drop start all))
octets_stay all more start size (octet ∷ own) h = refl

packets_stay : (all more : List ℕ) (kept : List Kept) → LieWithin (length all) kept → packets_in (all ++ more) kept ≡ packets_in all kept
packets_stay all more [] h = refl
packets_stay all more (k ∷ kept) h =
    ap (λ (os : List ℕ). record { is_up = k.up; phone = k.phone; octets = os } ∷ packets_in (all ++ more) kept) (octets_stay all more k.start k.size k.own.items h.0)
    ∙ ap (λ (ps : List PacketValue). packet_in all k ∷ ps) (packets_stay all more kept h.1)

lie_within_more : (size more : ℕ) (kept : List Kept) → size ≤ more → LieWithin size kept → LieWithin more kept
lie_within_more size more [] le h = tt
lie_within_more size more (k ∷ kept) le h = (let p = h.0 in omega arith, lie_within_more size more kept le h.1)

lie_with_one : (size : ℕ) (kept : List Kept) (k : Kept) → LieWithin size kept → k.start + k.size ≤ size → LieWithin size (kept ++ k ∷ [])
lie_with_one size [] k h le = (le, tt)
lie_with_one size (j ∷ kept) k h le = (h.0, lie_with_one size kept k h.1 le)

-- those that were copied behind are found there
octets_found : (all octets own : List ℕ) (start size : ℕ) → start ≡ length all → size ≡ length octets → own ≡ []
    → octets_among (all ++ octets) start size own ≡ octets
octets_found all octets own start size at as_many none =
    subst (λ (o : List ℕ). octets_among (all ++ octets) start size o ≡ octets) (sym none)
    (ap (λ n. take size (drop n (all ++ octets))) at
    ∙ ap (take size) (drop-append_seam all octets)
    ∙ ap (λ n. take n octets) as_many
    ∙ ap (take (length octets)) (sym (append-nil octets))
    ∙ take-append_seam octets [])

-- a packet of which the octets are copied, behind all others
pub kept_copied : (all octets new : List ℕ) (kept more : List Kept) (k : Kept) → LieWithin (length all) kept → k.start ≡ length all → k.size ≡ length octets → k.own.items ≡ []
    → new ≡ all ++ octets → more ≡ kept ++ k ∷ [] → packets_in new more ≡ packets_in all kept ++ record { is_up = k.up; phone = k.phone; octets = octets } ∷ []
kept_copied all octets new kept more k h at as_many none copied put =
    ap (λ (os : List ℕ). packets_in os more) copied
    ∙ ap (packets_in (all ++ octets)) put
    ∙ map-append (packet_in (all ++ octets)) kept (k ∷ [])
    ∙ ap (λ (ps : List PacketValue). ps ++ packet_in (all ++ octets) k ∷ []) (packets_stay all octets kept h)
    ∙ ap (λ (os : List ℕ). packets_in all kept ++ record { is_up = k.up; phone = k.phone; octets = os } ∷ []) (octets_found all octets k.own.items k.start k.size at as_many none)

pub lies_copied : (all octets new : List ℕ) (kept more : List Kept) (k : Kept) → LieWithin (length all) kept → k.start ≡ length all → k.size ≡ length octets
    → new ≡ all ++ octets → more ≡ kept ++ k ∷ [] → LieWithin (length new) more
lies_copied all octets new kept more k h at as_many copied put =
    let long : length new ≡ length all + length octets = ap length copied ∙ length-append all octets in
    subst (LieWithin (length new)) (sym put)
    (lie_with_one (length new) kept k (lie_within_more (length all) (length new) kept (omega arith) h) (omega arith))
