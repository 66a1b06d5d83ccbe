use Rattle.std.proofs.Common.{◌≡◌, ◌∷◌, ℕ, List, length, subst, rules}
use Rattle.sms_field.specs.Inside.OctetLists.{octets_are}
use Rattle.sms_tpdu.specs.UserData.Header.{IsHeader, SpellsHeader}
use Rattle.sms_tpdu.proofs.user_data.header.HeaderUnit.write.Goals as goal

pub returns : goal.returns
returns c = let kept = c.as_slice-octets.result.now in
    let is : IsHeader kept = search (octets_are, rules) in
    let written : c.extend_from_slice.new.self.items ≡ length kept ∷ kept = search rules in
    subst (λ (l : List ℕ). SpellsHeader l c.extend_from_slice.new.self.items) c.as_slice-octets.ensures.value (is, written)
