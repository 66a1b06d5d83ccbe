-- The lines of packets, one by one.
use Rattle.std.proofs.Common.{◌≡◌, ℕ, ◌+◌, ◌<◌, ◌≤◌, List, [], ◌∷◌, ◌++◌, length, drop, get_or, codes, decimal, if◌then◌else◌, Bool, true, false, Some, None, sym, ap, ◌∙◌, append_assoc, append-nil, add-one, drop-cons, arith, rules, suc, inl, inr, ◌⊎◌}
use Rattle.std.specs.List.{slice_get}
use Rattle.std.proofs.lemmas.List.{drop_all}
use Rattle.std.proofs.Math.Seq.{drop-append_seam}
use Rattle.std.proofs.lemmas.Option.{slice_get_within, slice_get_cases, get_or_from_slice_get}
use Rattle.sms_script.specs.Meaning.Known.{name_of}
use Rattle.sms_script.specs.Transcript.{packet_lines}
use Rattle.sms_script.specs.Transcript.Appended.{◌⊕◌}
use Rattle.sms_script.specs.Transcript.Lines.{PacketValue, packet_line, sent_line, octets_text, line_end}

-- the element that is there, and what follows it
pub drop-there : {A : Type 0} (xs : List A) (i : ℕ) (x : A) → slice_get xs i ≡ Some x → drop i xs ≡ x ∷ drop (i + 1) xs
drop-there xs i x e =
    rw add-one (drop-cons xs i x (slice_get_within xs i x e) ∙ ap (λ y. y ∷ drop (suc i) xs) (get_or_from_slice_get xs i x x e))

-- where a place is below the length there is an element
pub not_none : {A : Type 0} (xs : List A) (i : ℕ) → i < length xs → slice_get xs i ≡ None → ⊥
not_none {A} xs i h e = by_cases (slice_get_cases xs i).1
  where
    by_cases : ((x : A) × (i < length xs) × (slice_get xs i ≡ Some x) × (get_or xs i x ≡ x)) ⊎ ((length xs ≤ i) × (slice_get xs i ≡ None)) → ⊥
    by_cases (inl t) = let k : Some t.0 ≡ None = sym t.2 ∙ e in cc k
    by_cases (inr t) = let past = t.0 in omega (arith, past, h)

-- one packet more was written
pub packet_lines-more : (brief : Bool) (names : List (List ℕ)) (i : ℕ) (packets : List PacketValue) (packet : PacketValue) (out new all : List ℕ) → slice_get packets i ≡ Some packet
    → new ≡ out ++ packet_line brief (i + 1) (name_of names packet.phone) packet
    → out ++ packet_lines brief names (i + 1) (drop i packets) ≡ all → new ++ packet_lines brief names (i + 1 + 1) (drop (i + 1) packets) ≡ all
packet_lines-more brief names i packets packet out new all there e k = rw (e, append_assoc) (rw (drop-there packets i packet there) at k)

pub packet_lines-end : (brief : Bool) (names : List (List ℕ)) (i : ℕ) (packets : List PacketValue) (out all : List ℕ) → length packets ≤ i
    → out ++ packet_lines brief names (i + 1) (drop i packets) ≡ all → out ≡ all
packet_lines-end brief names i packets out all h k = sym (append-nil out) ∙ (rw (drop_all i packets h) at k)

-- the packets that were put out after those that were there
pub packets_after : (old put all : List PacketValue) (n : ℕ) → all ≡ old ++ put → n ≡ length old → drop n all ≡ put
packets_after old put all n e h = rw (e, h) (drop-append_seam old put)

-- the parts of a packet's line, one after another
pub packet_line-is : (brief : Bool) (number : ℕ) (name : List ℕ) (packet : PacketValue) (out : List ℕ)
    → out ++ 35 ∷ [] ++ decimal number ++ 32 ∷ [] ++ (if packet.is_up then name ⊕ codes ">centre" else codes "centre>" ⊕ name) ++ 32 ∷ [] ++ octets_text brief packet.octets ++ line_end
    ≡ out ++ packet_line brief number name packet
packet_line-is brief number name packet out = by_way packet.is_up
  where
    by_way : (up : Bool) → out ++ 35 ∷ [] ++ decimal number ++ 32 ∷ [] ++ (if up then name ⊕ codes ">centre" else codes "centre>" ⊕ name) ++ 32 ∷ [] ++ octets_text brief packet.octets ++ line_end
        ≡ out ++ (if up then codes "#" ⊕ decimal number ⊕ codes " " ⊕ name ⊕ codes ">centre " ⊕ octets_text brief packet.octets ⊕ line_end else codes "#" ⊕ decimal number ⊕ codes " centre>" ⊕ name ⊕ codes " " ⊕ octets_text brief packet.octets ⊕ line_end)
    by_way true = search (rules, append_assoc)
    by_way false = search (rules, append_assoc)

-- the parts of the line of a text that was typed, one after another
pub sent_line-is : (name : List ℕ) (number : ℕ) (word out : List ℕ)
    → out ++ codes "sent " ++ name ++ 32 ∷ [] ++ decimal number ++ 32 ∷ [] ++ word ++ line_end ≡ out ++ sent_line name number word
sent_line-is name number word out = search (rules, append_assoc)
