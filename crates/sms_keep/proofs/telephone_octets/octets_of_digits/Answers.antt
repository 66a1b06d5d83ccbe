use Rattle.std.proofs.Common.{◌≡◌, ℕ, ◌+◌, ◌-◌, List, length, take, refl, sym, ap, subst, ◌∙◌, arith}
use Rattle.sms_field.specs.Address.{address_octets}
use Rattle.sms_field.specs.Address.Padded.{padded}
use Rattle.sms_field.specs.declared.symbols.Symbols.TheVariants.{Digits}
use Rattle.sms_keep.proofs.TelephonesWritten.{AreSmall, room_small, even_written, odd_written}
use Rattle.sms_keep.proofs.telephone_octets.octets_of_digits.Goals.{then-count-eq1, else-count-eq1}
use Rattle.sms_keep.proofs.telephone_octets.octets_of_digits.Goals as goal

pub in_pairs-octets-requires : goal.in_pairs-octets-requires
in_pairs-octets-requires c = room_small c.as_room.result.now c.args.digits.now c.as_room.ensures.value (subst AreSmall c.as_slice-values.ensures.value c.as_slice-values.ensures.each)

pub returns : goal.returns
returns c =
    let kind : ℕ = c.args.type_of_number in
    let plan : ℕ = c.args.plan in
    let values : List ℕ = c.as_slice-values.result.now in
    let room : List ℕ = c.as_room.result.now in
    let pairs : List ℕ = c.in_pairs-octets.result in
    let count : ℕ = 2 + c.div_ceil.result in
    let same : values ≡ c.args.digits.now = c.as_slice-values.ensures.value in
    let in_room : room ≡ padded 20 values = c.as_room.ensures.value ∙ ap (padded 20) (sym same) in
    let own = ap (λ (l : List ℕ). address_octets (record { kind = kind; plan = plan; symbols = Digits l })) same in
    elim c.if-count-eq1.branch [
      | then-count-eq1 w ↦
          c.in_room.ensures
          ∙ ap (λ (l : List ℕ). take count l) w.octets-is
          ∙ odd_written kind plan count _ _ (length values - 1) values room pairs (omega (arith, w.if-count-eq1.true)) in_room c.in_pairs-octets.ensures (omega (arith, c.div_ceil.ensures)) refl (omega (arith, w.if-count-eq1.true)) refl
          ∙ own
      | else-count-eq1 w ↦
          c.in_room.ensures
          ∙ ap (λ (l : List ℕ). take count l) w.octets-is
          ∙ even_written kind plan count values room pairs (omega (arith, w.if-count-eq1.false)) in_room c.in_pairs-octets.ensures (omega (arith, c.div_ceil.ensures))
          ∙ own
    ]
