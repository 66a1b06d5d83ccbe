-- A reader may pass this by: lemmas, for the proofs of this crate and of those above it.
--
-- Lists of octets, put together and cut.
use Rattle.std.proofs.Common.{ℕ, ◌<◌, List, [], ◌∷◌, ◌++◌, get_or}
use Rattle.std.proofs.lemmas.List.Elements.{All-from_get_or, recursion_from_All}
use Rattle.sms_text.specs.Octets.{IsOctets}

pub octets-append : (xs ys : List ℕ) → IsOctets xs → IsOctets ys → IsOctets (xs ++ ys)
octets-append [] ys p q = q
octets-append (x ∷ xs) ys p q = (p.0, octets-append xs ys p.1 q)

pub octets_back : (xs ys : List ℕ) → IsOctets (xs ++ ys) → IsOctets ys
octets_back [] ys p = p
octets_back (x ∷ xs) ys p = octets_back xs ys p.1

pub octets_front : (xs ys : List ℕ) → IsOctets (xs ++ ys) → IsOctets xs
octets_front [] ys p = tt
octets_front (x ∷ xs) ys p = (p.0, octets_front xs ys p.1)

pub octets_are : (input : List ℕ) → ((i : ℕ) → get_or input i 0 < 256) → IsOctets input
octets_are input h =
    recursion_from_All (λ octet. octet < 256) input
    (All-from_get_or (λ octet. octet < 256) input 0 (λ i lt. h i))
