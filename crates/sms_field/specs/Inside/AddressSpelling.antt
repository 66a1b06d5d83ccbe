-- A reader may pass this by: lemmas, for the proofs of this crate and of those above it.
--
-- An address that is written is read.
use Rattle.std.proofs.Common.{◌≡◌, ℕ, ◌+◌, ◌*◌, ◌/◌, ◌%◌, ◌≤◌, Bool, true, false, eqb, List, [], ◌∷◌, Ok, refl, sym, arith}
use Rattle.std.specs.Prelude.{◌==◌}
use Rattle.std.proofs.lemmas.Bool.{le-leb, eqb-true, eqb-false}
use Rattle.std.proofs.lemmas.List.{append-nil}
use Rattle.sms_text.specs.Octets.{IsOctets}
use Rattle.sms_field.specs.Address.Faults.{too_long}
use Rattle.sms_field.specs.declared.symbols.Symbols.{Symbols}
use Rattle.sms_field.specs.declared.symbols.Symbols.TheVariants.{Digits, Name}
use Rattle.sms_field.specs.Address.Value.{AddressValue, HasSpelling, AreSymbolsOf, alphanumeric}
use Rattle.sms_field.specs.Address.DigitOctets.{digit_octets}
use Rattle.sms_field.specs.Address.NameOctets.{name_octets}
use Rattle.sms_field.specs.Address.{up_to, symbols_by, symbols_length, symbols_octets, address, address_octets}
use Rattle.sms_field.specs.Inside.DigitLaws.{digits_again, digits_are_octets}
use Rattle.sms_field.specs.Inside.NameSpelling.{name_again, name_octets_are}

length_fits : (kind : ℕ) (symbols : Symbols) → AreSymbolsOf kind symbols → symbols_length symbols ≤ 20
length_fits kind (Digits values) fits = fits.1.few
length_fits kind (Name septets) fits = omega (arith, fits.1.few)

count_again : (count : ℕ) → count ≤ 20 → up_to 20 too_long count ≡ Ok count
count_again count le = rw (le-leb count 20 le) refl

named_as : (kind : ℕ) (named : Bool) (symbols : Symbols) (rest : List ℕ) → eqb kind 5 ≡ named → AreSymbolsOf kind symbols → (symbols_by named (symbols_length symbols)).reads symbols (symbols_octets symbols) rest
unfolding symbols_by
named_as kind true (Digits values) rest is fits = absurd (fits.0 (eqb-true kind 5 is))
named_as kind false (Digits values) rest is fits = record { choice = values; front = digit_octets values; back = []; parts = sym (append-nil (digit_octets values)); of_first = digits_again values rest fits.1.each; of_second = (refl, refl) }
named_as kind true (Name septets) rest is fits = record { choice = septets; front = name_octets septets; back = []; parts = sym (append-nil (name_octets septets)); of_first = name_again septets rest fits.1; of_second = (refl, refl) }
named_as kind false (Name septets) rest is fits = absurd (eqb-false kind 5 is fits.0)

symbols_again : (kind : ℕ) (symbols : Symbols) (rest : List ℕ) → AreSymbolsOf kind symbols → (symbols_by (kind == alphanumeric) (symbols_length symbols)).reads symbols (symbols_octets symbols) rest
symbols_again kind symbols rest fits = named_as kind (eqb kind 5) symbols rest refl fits

symbols_are_octets : (kind : ℕ) (symbols : Symbols) → AreSymbolsOf kind symbols → IsOctets (symbols_octets symbols)
symbols_are_octets kind (Digits values) fits = digits_are_octets values fits.1.each
symbols_are_octets kind (Name septets) fits = name_octets_are septets

pub address_again : (n : AddressValue) (rest : List ℕ) → HasSpelling n → address.reads n (address_octets n) rest
unfolding address address_octets
address_again n rest fits =
    let octet : ℕ = 128 + 16 * n.kind + n.plan in
    let kind : octet / 16 % 8 ≡ n.kind = omega (arith, fits.kind, fits.plan) in
    let plan : octet % 16 ≡ n.plan = omega (arith, fits.plan) in
    record {
      choice = symbols_length n.symbols;
      front = symbols_length n.symbols ∷ [];
      back = octet ∷ symbols_octets n.symbols;
      parts = refl;
      of_first = (symbols_length n.symbols, refl, count_again (symbols_length n.symbols) (length_fits n.kind n.symbols fits.symbols));
      of_second = record {
        choice = octet;
        front = octet ∷ [];
        back = symbols_octets n.symbols;
        parts = refl;
        of_first = refl;
        of_second = record {
          choice = n.symbols;
          front = symbols_octets n.symbols;
          back = [];
          parts = sym (append-nil (symbols_octets n.symbols));
          of_first = rw kind (symbols_again n.kind n.symbols rest fits.symbols);
          of_second = (rw (kind, plan) refl, refl);
        };
      };
    }

pub address_are_octets : (n : AddressValue) → HasSpelling n → IsOctets (address_octets n)
unfolding address_octets
address_are_octets n fits = (omega (arith, length_fits n.kind n.symbols fits.symbols), (omega (arith, fits.kind, fits.plan), symbols_are_octets n.kind n.symbols fits.symbols))
