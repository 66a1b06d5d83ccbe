use Rattle.std.proofs.Common.{◌≡◌, ◌∷◌, ◌++◌, [], Bool, List, ℕ, Option, None, Some, length, refl, ◌∙◌, append_assoc, arith}
use Rattle.std.specs.Prelude.{is_some}
use Rattle.sms_text.specs.Inside.Utf16Laws.{length-octets_high_first}
use Rattle.sms_field.specs.declared.coding.Alphabet.{Alphabet}
use Rattle.sms_field.specs.declared.coding.Alphabet.TheVariants.{Gsm7, EightBit, Ucs2, Compressed}
use Rattle.sms_tpdu.specs.Submit.Flags.{submit_octet}
use Rattle.sms_tpdu.specs.Submit.Front.{front_flags}
use Rattle.sms_tpdu.specs.UserData.{FitsAlphabet, header_octets}
use Rattle.sms_tpdu.specs.UserData.Lent.{place_header, units_body, user_after, HasRoom}
use Rattle.sms_tpdu.specs.declared.user_data.concat.Concat.{Concat}
use Rattle.sms_tpdu.specs.declared.user_data.lent.UnitsView.{UnitsView}
use Rattle.sms_tpdu.specs.declared.user_data.lent.UnitsView.TheVariants as lent
use Rattle.sms_tpdu.proofs.submit.front.SubmitFront.write_with_in.Goals as goal

-- user data that go with an alphabet have room
has_room : (alphabet : Alphabet) (place : Option Concat) (units : UnitsView) → FitsAlphabet alphabet (user_after place (units_body units)) → HasRoom (length (header_octets (place_header place))) units
has_room Gsm7 place (lent.Gsm septets) fits = fits.1
has_room Gsm7 place (lent.Ucs2 units) fits = absurd fits.1
has_room EightBit place (lent.Gsm septets) fits = absurd fits.1
has_room EightBit place (lent.Ucs2 units) fits = omega (arith, fits.1.0, length-octets_high_first units.now)
has_room Ucs2 place (lent.Gsm septets) fits = absurd fits.1
has_room Ucs2 place (lent.Ucs2 units) fits = omega (arith, fits.1.0, length-octets_high_first units.now)
has_room Compressed place (lent.Gsm septets) fits = absurd fits.1
has_room Compressed place (lent.Ucs2 units) fits = omega (arith, fits.1.0, length-octets_high_first units.now)

placed : (place : Option Concat) → is_some place ≡ is_some (place_header place)
placed None = refl
placed (Some place) = refl

joined : (octet : Bool → ℕ) (there wanted : Bool) (reference pid dcs : ℕ) (target period written begun front out : List ℕ) → there ≡ wanted → begun ≡ [] → front ≡ begun ++ (octet there ∷ reference ∷ (target ++ (pid ∷ dcs ∷ period))) → out ≡ front ++ written
    → out ≡ octet wanted ∷ reference ∷ (target ++ (pid ∷ dcs ∷ (period ++ written)))
joined octet there wanted reference pid dcs target period written begun front out same none before all = rw (all, before, none, same) (simp append_assoc)

pub room_for_units-requires : goal.room_for_units-requires
room_for_units-requires c = has_room _ c.args.place c.args.units c.requires.fits

pub put_lent-requires-clause-room : goal.put_lent-requires-clause-room
put_lent-requires-clause-room c = has_room _ c.args.place c.args.units c.requires.fits

pub returns : goal.returns
returns c =
    let user = c.in_ok-put_lent.ensures in
    let front = c.put.ensures.spelled in
    record {
      submittable = record {
        validity = front.validity;
        reference = front.reference;
        target = front.target;
        pid = front.pid;
        dcs = front.dcs;
        user = c.requires.fits;
      };
      written = user.0;
      user = user.1;
      parts = joined (λ (b : Bool). submit_octet (front_flags c.args.self.now b)) _ _ _ _ _ _ _ _ _ _ _ (c.is_some.ensures ∙ placed c.args.place) (c.reserve.ensures.items ∙ c.clear.ensures.items) c.in_ok-put.ensures.octets user.2;
    }
