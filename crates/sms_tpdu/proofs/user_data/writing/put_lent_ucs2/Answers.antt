use Rattle.std.proofs.Common.{◌≡◌, ◌+◌, ◌*◌, ◌++◌, ◌∷◌, ℕ, List, length, refl, ap, ◌∙◌, append_assoc, arith}
use Rattle.sms_text.specs.Utf16.{octets_high_first}
use Rattle.sms_text.specs.Inside.Utf16Laws.{length-octets_high_first}
use Rattle.sms_tpdu.specs.UserData.{header_octets}
use Rattle.sms_tpdu.specs.UserData.Lent.{place_header}
use Rattle.sms_tpdu.proofs.user_data.writing.put_lent_ucs2.Goals as goal

appended : (old header octets : List ℕ) (count : ℕ) → (old ++ (count ∷ header)) ++ octets ≡ old ++ (count ∷ (header ++ octets))
appended old header octets count = simp append_assoc

pub returns : goal.returns
returns c =
    let header : List ℕ = header_octets (place_header c.args.place) in
    let octets : List ℕ = octets_high_first c.args.units.now in
    let count : ℕ = c.octets_of_place.result + 2 * length c.args.units.now in
    let is : count ≡ length header + length octets = omega (arith, c.octets_of_place.ensures, length-octets_high_first c.args.units.now) in (
      count ∷ (header ++ octets),
      record {
        written = octets;
        spells_body = refl;
        parts = ap (λ (n : ℕ). n ∷ (header ++ octets)) is;
      },
      c.in_ok-put_units.ensures.ok ∙ ap (λ (l : List ℕ). l ++ octets) c.in_ok-put_count.ensures ∙ appended c.args.out.now.items header octets count,
    )
