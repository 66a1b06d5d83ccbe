-- What a segment's submission tells the receiver: its place, and its units.
use Rattle.std.proofs.Common.{◌≡◌, ℕ, ◌+◌, ◌*◌, ◌/◌, ◌%◌, ◌<◌, ◌≤◌, true, false, eqb, leb, List, [], ◌∷◌, refl, ap, ◌∙◌, subst, arith, Some, None}
use Rattle.std.proofs.lemmas.Bool.{eq-eqb, ne_eqb, le-leb}
use Rattle.sms_text.specs.Utf16.{units_high_first, octets_high_first}
use Rattle.sms_field.specs.Coding.{alphabet_at}
use Rattle.sms_tpdu.specs.UserData.Elements.{element_octets}
use Rattle.sms_tpdu.specs.UserData.Concatenation.{element_for}
use Rattle.sms_tpdu.specs.declared.user_data.concat.Concat.{Concat}
use Rattle.sms_tpdu.specs.declared.user_data.concat.Width.{Width}
use Rattle.sms_tpdu.specs.declared.user_data.concat.Width.TheVariants.{Eight, Sixteen}
use Rattle.sms_join.specs.declared.units.Units.{Units}
use Rattle.sms_join.specs.declared.units.Units.TheVariants.{Gsm, Ucs2}
use Rattle.sms_join.specs.Segments.User.{dcs_of, body_of, header_of}
use Rattle.sms_tpdu.specs.UserData.ConcatenationFound.{concat_of_header, in_order}
use Rattle.sms_join.specs.BodyUnits.{units_of_body}

in_order_is : (c : Concat) → 0 < c.sequence → c.sequence ≤ c.maximum → in_order c ≡ Some c
in_order_is c f l =
    let one : leb 1 c.sequence ≡ true = le-leb 1 c.sequence (omega arith) in
    let two : leb c.sequence c.maximum ≡ true = le-leb c.sequence c.maximum l in
    rw (one, two) refl

told : (w : Width) (r m s : ℕ) → 0 < s → s ≤ m
    → concat_of_header (Some (element_octets (element_for w r m s))) ≡ Some (record { width = w; reference = r; maximum = m; sequence = s })
told Eight r m s f l =
    in_order_is (record { width = Eight; reference = r; maximum = m; sequence = s }) f l
told Sixteen r m s f l =
    let again : 256 * (r / 256) + r % 256 ≡ r = omega arith in
    subst (λ (v : ℕ). concat_of_header (Some (element_octets (element_for Sixteen r m s))) ≡ Some (record { width = Sixteen; reference = v; maximum = m; sequence = s })) again
    (in_order_is (record { width = Sixteen; reference = 256 * (r / 256) + r % 256; maximum = m; sequence = s }) f l)

pub told_among : (w : Width) (r m s : ℕ) → 1 < m → 0 < s → s ≤ m
    → concat_of_header (header_of w r m s) ≡ Some (record { width = w; reference = r; maximum = m; sequence = s })
told_among w r m s o f l =
    let e : eqb m 1 ≡ false = ne_eqb m 1 (λ g. omega arith) in
    rw e (told w r m s f l)

pub told_alone : (w : Width) (r m s : ℕ) → m ≡ 1 → concat_of_header (header_of w r m s) ≡ None
told_alone w r m s o = let e : eqb m 1 ≡ true = eq-eqb m 1 o in rw e refl

again_units : (units : List ℕ) → units_high_first (octets_high_first units) ≡ units
unfolding octets_high_first units_high_first
again_units [] = refl
again_units (unit ∷ others) =
    let one : 256 * (unit / 256) + unit % 256 ≡ unit = omega arith in
    ap (λ (n : ℕ). n ∷ units_high_first (octets_high_first others)) one ∙ ap (λ (l : List ℕ). unit ∷ l) (again_units others)

pub units_told : (u : Units) → units_of_body (alphabet_at (dcs_of u)) (body_of u) ≡ Some u
unfolding alphabet_at
units_told (Gsm septets) = refl
units_told (Ucs2 units) = ap (λ (l : List ℕ). Some (Ucs2 l)) (again_units units)
