-- Octets that were read into room, and characters of digits.
use Rattle.std.proofs.Common.{◌≡◌, ℕ, ◌+◌, ◌-◌, ◌<◌, ◌≤◌, Bool, true, false, List, [], ◌++◌, length, take, Result, Ok, Err, refl, sym, ap, ◌∙◌, arith, take-take}
use Rattle.std.proofs.lemmas.Bool.{false≢true, agree_below_at}
use Rattle.std.proofs.lemmas.List.{length-take}
use Rattle.std.proofs.lemmas.Slice.{take-put_mid}
use borrow.Rule.Slice.PartMut.{put_mid}
use Rattle.sms_page.specs.Hexadecimal.{Reads}
use Rattle.sms_page.specs.Plain.{is_plain}

is_ok : Result ℕ ℕ → Bool
is_ok (Ok n) = true
is_ok (Err n) = false

number : Result ℕ ℕ → ℕ
number (Ok n) = n
number (Err n) = n

-- octets that stand in front of a list are no more than it has
front_fits : (octets room : List ℕ) → take (length octets) room ≡ octets → length octets ≤ length room
front_fits octets room front = let size = ap length front in omega (arith, size, length-take (length octets) room)

pub got : (read : Result (List ℕ) ℕ) (count : ℕ) (room : List ℕ) → Reads read (Ok count) room → (count ≤ length room) × (read ≡ Ok (take count room))
unfolding number is_ok
got (Ok octets) count room is =
    let same : count ≡ length octets = ap number is.0 in
    (omega (arith, same, front_fits octets room is.1), ap Ok (sym is.1 ∙ ap (λ (n : ℕ). take n room) (sym same)))
got (Err place) count room is = absurd (false≢true (sym (ap is_ok is)))

pub lost : (read : Result (List ℕ) ℕ) (place : ℕ) (room : List ℕ) → Reads read (Err place) room → read ≡ Err place
unfolding is_ok number
lost (Ok octets) place room is = absurd (false≢true (ap is_ok is.0))
lost (Err own) place room is = ap Err (sym (ap number is))

-- what is read into the front of room is read into the room
pub front_reads : (read : Result (List ℕ) ℕ) (answer : Result ℕ ℕ) (room front : List ℕ) (n : ℕ) → n ≡ length front → n ≤ length room
    → Reads read answer front → Reads read answer (put_mid 0 n room front)
front_reads (Ok octets) answer room front n size fits is =
    let few = front_fits octets front is.1 in
    let whole : take n (put_mid 0 n room front) ≡ front = take-put_mid 0 n room front n (omega (arith, size)) (omega (arith, fits)) in
    (is.0, sym (take-take (length octets) n (put_mid 0 n room front) (omega (arith, size, few))) ∙ ap (take (length octets)) whole ∙ is.1)
front_reads (Err place) answer room front n size fits is = is

-- a digit stands in JSON as it is
pub digit_plain : (n : ℕ) → n < 10 → is_plain 34 (48 + n) ≡ true
digit_plain n small = agree_below_at (λ (d : ℕ). is_plain 34 (48 + d)) (λ _. true) 10 n refl small
