-- Numbers, digit by digit.
use Rattle.std.proofs.Common.{◌≡◌, ℕ, ◌+◌, ◌-◌, ◌*◌, ◌^◌, ◌<◌, ◌≤◌, List, length, drop, get_or, Bool, true, false, ◌&&◌, nat_le, Some, None, refl, arith, add-one, drop-cons, cond}
use Rattle.std.proofs.Math.Nat.{pow-suc, pow-le-pow_right}
use Rattle.sms_script.specs.Words.Numbers.{is_digit, are_digits, value_after, value, number}

pub value-more : (word : List ℕ) (i v : ℕ) → i < length word → value_after v (drop i word) ≡ value_after (10 * v + (get_or word i 0 - 48)) (drop (i + 1) word)
value-more word i v h = rw (add-one, drop-cons word i 0) refl

pub digits-more : (word : List ℕ) (i : ℕ) → i < length word → is_digit (get_or word i 0) ≡ true → are_digits (drop i word) ≡ are_digits (drop (i + 1) word)
digits-more word i h e = rw (drop-cons word i 0, e, add-one) refl

pub no_digits : (word : List ℕ) (i : ℕ) → i < length word → is_digit (get_or word i 0) ≡ false → are_digits (drop i word) ≡ false
no_digits word i h e = rw (drop-cons word i 0, e) refl

-- a word that has another character is no number
pub no_number : (low high : ℕ) (word : List ℕ) → are_digits word ≡ false → number low high word ≡ None
no_number low high word e = rw e (by_test (nat_le 1 (length word) && nat_le (length word) 10))
  where
    by_test : (b : Bool) → cond ((b && false) && (nat_le low (value word) && nat_le (value word) high)) (Some (value word)) None ≡ None
    by_test true = refl
    by_test false = refl

pub small_number : (v i : ℕ) → v < 10 ^ i → i < 10 → 10 * v + 9 < 10 ^ 10
small_number v i h k =
    let p : 10 ^ i ≤ 10 ^ 9 = pow-le-pow_right {n = 10} (omega arith) {i = i} {j = 9} (omega arith) in
    omega (arith, p)

pub small_more : (v d i : ℕ) → v < 10 ^ i → d ≤ 9 → 10 * v + d < 10 ^ (i + 1)
small_more v d i h k = rw (add-one, pow-suc) (omega arith)
