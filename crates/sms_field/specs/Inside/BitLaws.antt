-- A reader may pass this by: lemmas, for the proofs of this crate and of those above it.
--
-- An octet that is the sum of what its bits add has these bits.
use Rattle.std.proofs.Common.{◌≡◌, ℕ, ◌+◌, ◌*◌, ◌/◌, ◌%◌, ◌^◌, ◌<◌, ◌≤◌, ◌==◌, Bool, true, false, refl, arith}
use Rattle.sms_field.specs.Bit.{bit, weight}

pub record AreBits (a b c d e f g h : Bool) (octet : ℕ) : Type 0 where
  pub bit_0 : bit 0 octet ≡ a
  pub bit_1 : bit 1 octet ≡ b
  pub bit_2 : bit 2 octet ≡ c
  pub bit_3 : bit 3 octet ≡ d
  pub bit_4 : bit 4 octet ≡ e
  pub bit_5 : bit 5 octet ≡ f
  pub bit_6 : bit 6 octet ≡ g
  pub bit_7 : bit 7 octet ≡ h
  pub small : octet < 256

-- 1 for a bit that is set
abbrev one : Bool → ℕ
one true = 1
one false = 0

one_most : (x : Bool) → one x ≤ 1
one_most true = omega arith
one_most false = omega arith

weighs : (k : ℕ) (x : Bool) → weight k x ≡ 2 ^ k * one x
weighs k true = omega arith
weighs k false = omega arith

is_set : (x : Bool) (n : ℕ) → n ≡ one x → (n == 1) ≡ x
is_set true n e = rw e refl
is_set false n e = rw e refl

sum_has : (a b c d e f g h : Bool) (octet : ℕ) → octet ≡ one a + 2 * one b + 4 * one c + 8 * one d + 16 * one e + 32 * one f + 64 * one g + 128 * one h → AreBits a b c d e f g h octet
sum_has a b c d e f g h octet sum = record {
  bit_0 = is_set a (octet / 1 % 2) (omega (arith, sum, one_most a, one_most b, one_most c, one_most d, one_most e, one_most f, one_most g, one_most h));
  bit_1 = is_set b (octet / 2 % 2) (omega (arith, sum, one_most a, one_most b, one_most c, one_most d, one_most e, one_most f, one_most g, one_most h));
  bit_2 = is_set c (octet / 4 % 2) (omega (arith, sum, one_most a, one_most b, one_most c, one_most d, one_most e, one_most f, one_most g, one_most h));
  bit_3 = is_set d (octet / 8 % 2) (omega (arith, sum, one_most a, one_most b, one_most c, one_most d, one_most e, one_most f, one_most g, one_most h));
  bit_4 = is_set e (octet / 16 % 2) (omega (arith, sum, one_most a, one_most b, one_most c, one_most d, one_most e, one_most f, one_most g, one_most h));
  bit_5 = is_set f (octet / 32 % 2) (omega (arith, sum, one_most a, one_most b, one_most c, one_most d, one_most e, one_most f, one_most g, one_most h));
  bit_6 = is_set g (octet / 64 % 2) (omega (arith, sum, one_most a, one_most b, one_most c, one_most d, one_most e, one_most f, one_most g, one_most h));
  bit_7 = is_set h (octet / 128 % 2) (omega (arith, sum, one_most a, one_most b, one_most c, one_most d, one_most e, one_most f, one_most g, one_most h));
  small = omega (arith, sum, one_most a, one_most b, one_most c, one_most d, one_most e, one_most f, one_most g, one_most h);
}

pub summed_bits : (a b c d e f g h : Bool) (octet : ℕ) → octet ≡ weight 0 a + weight 1 b + weight 2 c + weight 3 d + weight 4 e + weight 5 f + weight 6 g + weight 7 h → AreBits a b c d e f g h octet
summed_bits a b c d e f g h octet sum = sum_has a b c d e f g h octet (omega (arith, sum, weighs 0 a, weighs 1 b, weighs 2 c, weighs 3 d, weighs 4 e, weighs 5 f, weighs 6 g, weighs 7 h))
