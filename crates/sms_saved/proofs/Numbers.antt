-- Numbers and octets.
use Rattle.std.proofs.Common.{◌≡◌, ℕ, ◌^◌, ◌<◌, ◌≤◌, false, ltb, List, [], ◌∷◌, ◌++◌, length, take, drop, Ok, refl, sym, ap, subst, ◌∙◌, arith}
use Rattle.std.specs.Int.{Width, w16, w64, byte_len, from_be_bytes, to_be_bytes}
use Rattle.std.proofs.lemmas.Bool.{ltb-false, le-ltb}
use Rattle.std.proofs.lemmas.List.{take_at, drop_at, take-append-drop, length-append, length-take}
use Rattle.std.proofs.lemmas.Nat.{be_bytes_2, be_bytes_8, from_be_bytes-to_be_bytes_2, from_be_bytes-to_be_bytes_8}
use Rattle.sms_saved.specs.declared.fault.StateFault.TheVariants.{Short}
use Rattle.sms_saved.specs.Spelling.{octet, two, eight}
use Rattle.sms_saved.specs.Reading.Fields.{octet_at, number_at, octets_at}
use Rattle.sms_saved.proofs.TakenFields.{IsBytes, IsBytes-drop, IsBytes-take, IsBytes-rest, guard_ok, ok_is, Takes, Reads}

octet_takes : (bytes : List ℕ) (x : ℕ × List ℕ) → IsBytes bytes → octet_at bytes ≡ Ok x → Takes bytes (octet x.0) x.1 × (x.0 < 2 ^ 8)
octet_takes [] x fits e = absurd cc
octet_takes (n ∷ rest) x fits e =
    subst (λ (y : ℕ × List ℕ). Takes (n ∷ rest) (octet y.0) y.1 × (y.0 < 2 ^ 8)) (ok_is (n, rest) x e) (record { parts = refl; rest_fits = IsBytes-rest n rest fits }, fits 0)

pub reads_octet : Reads octet_at octet (λ n. n < 2 ^ 8)
reads_octet = record { takes = octet_takes; again = λ x rest lt. refl }

record IsWide (w : Width) (limit : ℕ) : Type 0 where
  pub len : (n : ℕ) → length (to_be_bytes w n) ≡ byte_len w
  pub back : (bytes : List ℕ) → length bytes ≡ byte_len w → IsBytes bytes → to_be_bytes w (from_be_bytes w bytes) ≡ bytes
  pub again : (n : ℕ) → n < limit → from_be_bytes w (to_be_bytes w n) ≡ n
  pub below : (bytes : List ℕ) → IsBytes bytes → from_be_bytes w bytes < limit

wide16 : IsWide w16 (2 ^ 16)
wide16 = record {
  len = λ n. refl;
  back = λ bytes len fits. be_bytes_2 bytes _ len fits refl;
  again = λ n lt. from_be_bytes-to_be_bytes_2 n lt;
  below = λ bytes fits. omega (arith, fits 0, fits 1);
}

wide64 : IsWide w64 (2 ^ 64)
wide64 = record {
  len = λ n. refl;
  back = λ bytes len fits. be_bytes_8 bytes _ len fits refl;
  again = λ n lt. from_be_bytes-to_be_bytes_8 n lt;
  below = λ bytes fits. omega (arith, fits 0, fits 1, fits 2, fits 3, fits 4, fits 5, fits 6, fits 7);
}

number_takes : (w : Width) (limit : ℕ) (wide : IsWide w limit) (bytes : List ℕ) (x : ℕ × List ℕ) → IsBytes bytes → number_at w bytes ≡ Ok x → Takes bytes (to_be_bytes w x.0) x.1 × (x.0 < limit)
number_takes w limit wide bytes x fits e =
    let g = guard_ok (ltb (length bytes) (byte_len w)) (record { left = length bytes; why = Short }) (Ok (from_be_bytes w (take (byte_len w) bytes), drop (byte_len w) bytes)) x e in
    let long : byte_len w ≤ length bytes = ltb-false _ _ g.0 in
    let len : length (take (byte_len w) bytes) ≡ byte_len w = omega (arith, length-take (byte_len w) bytes) in
    let front_fits = IsBytes-take (byte_len w) bytes fits in
    let front : to_be_bytes w (from_be_bytes w (take (byte_len w) bytes)) ≡ take (byte_len w) bytes = wide.back (take (byte_len w) bytes) len front_fits in
    let made : ℕ × List ℕ = (from_be_bytes w (take (byte_len w) bytes), drop (byte_len w) bytes) in
    let parts : bytes ≡ to_be_bytes w (from_be_bytes w (take (byte_len w) bytes)) ++ drop (byte_len w) bytes = sym (take-append-drop (byte_len w) bytes) ∙ ap (λ (t : List ℕ). t ++ drop (byte_len w) bytes) (sym front) in
    subst (λ (y : ℕ × List ℕ). Takes bytes (to_be_bytes w y.0) y.1 × (y.0 < limit)) (ok_is made x g.1) (record { parts = parts; rest_fits = IsBytes-drop (byte_len w) bytes fits }, wide.below (take (byte_len w) bytes) front_fits)

number_again : (w : Width) (limit : ℕ) (wide : IsWide w limit) (n : ℕ) (rest : List ℕ) → n < limit → number_at w (to_be_bytes w n ++ rest) ≡ Ok (n, rest)
number_again w limit wide n rest lt =
    let len = wide.len n in
    let long : ltb (length (to_be_bytes w n ++ rest)) (byte_len w) ≡ false = le-ltb _ _ (omega (arith, length-append (to_be_bytes w n) rest)) in
    rw (long, take_at (to_be_bytes w n) rest (byte_len w) len, drop_at (to_be_bytes w n) rest (byte_len w) len, wide.again n lt) refl

reads_number : (w : Width) (limit : ℕ) (wide : IsWide w limit) → Reads (number_at w) (to_be_bytes w) (λ n. n < limit)
reads_number w limit wide = record { takes = number_takes w limit wide; again = number_again w limit wide }

pub reads_two : Reads (number_at w16) two (λ n. n < 2 ^ 16)
unfolding two
reads_two = reads_number w16 (2 ^ 16) wide16

pub reads_eight : Reads (number_at w64) eight (λ n. n < 2 ^ 64)
unfolding eight
reads_eight = reads_number w64 (2 ^ 64) wide64

-- ---- so many octets

octets_take : (n : ℕ) (bytes : List ℕ) (x : List ℕ × List ℕ) → IsBytes bytes → octets_at n bytes ≡ Ok x → Takes bytes x.0 x.1 × (length x.0 ≡ n)
octets_take n bytes x fits e =
    let g = guard_ok (ltb (length bytes) n) (record { left = length bytes; why = Short }) (Ok (take n bytes, drop n bytes)) x e in
    let long : n ≤ length bytes = ltb-false _ _ g.0 in
    let len : length (take n bytes) ≡ n = omega (arith, length-take n bytes) in
    let made : List ℕ × List ℕ = (take n bytes, drop n bytes) in
    subst (λ (y : List ℕ × List ℕ). Takes bytes y.0 y.1 × (length y.0 ≡ n)) (ok_is made x g.1) (record { parts = sym (take-append-drop n bytes); rest_fits = IsBytes-drop n bytes fits }, len)

octets_again : (n : ℕ) (octets rest : List ℕ) → length octets ≡ n → octets_at n (octets ++ rest) ≡ Ok (octets, rest)
octets_again n octets rest len =
    let long : ltb (length (octets ++ rest)) n ≡ false = le-ltb _ _ (omega (arith, length-append octets rest)) in
    rw (long, take_at octets rest n len, drop_at octets rest n len) refl

pub reads_octets : (n : ℕ) → Reads (octets_at n) (λ octets. octets) (λ octets. length octets ≡ n)
reads_octets n = record { takes = octets_take n; again = octets_again n }
