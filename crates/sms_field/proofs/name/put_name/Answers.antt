use Rattle.std.proofs.Common.{◌≡◌, ◌∙◌, ◌++◌, ◌∷◌, [], ℕ, List, ap, refl, append_assoc}
use Rattle.sms_text.specs.Bits.{PackedPlain}
use Rattle.sms_text.specs.Octets.{IsOctets}
use Rattle.sms_field.specs.Address.NameOctets.{name_octets}
use Rattle.sms_field.specs.Inside.NameSpelling.{only_name_octets}
use Rattle.sms_field.proofs.name.put_name.Goals as goal

after_two : (name old two items packed : List ℕ) (first second : ℕ) → PackedPlain 0 name packed → IsOctets packed → two ≡ (old ++ first ∷ []) ++ second ∷ [] → items ≡ two ++ packed → items ≡ old ++ first ∷ second ∷ name_octets name
after_two name old two items packed first second plain octets begun e =
    let same : packed ≡ name_octets name = only_name_octets name packed octets plain in
    e ∙ ap (λ (l : List ℕ). l ++ packed) begun ∙ ap (λ (l : List ℕ). ((old ++ first ∷ []) ++ second ∷ []) ++ l) same ∙ simp append_assoc

pub returns-clause-ok : goal.returns-clause-ok
returns-clause-ok c =
    let added = c.in_ok-pack_into.ensures.ok in
    let plain : PackedPlain 0 c.args.name.now added.0 = rw c.as_slice-septets.ensures.value at added.1 in
    after_two c.args.name.now c.args.out.now.items c.push_reserved-2.new.self.items c.pack_into.new.octets.items added.0 c.args.first c.args.second plain added.2 (rw (c.push_reserved-2.ensures.items, c.push_reserved.ensures.items, c.in_ok-reserve.ensures.items) refl) added.3
