use Rattle.std.proofs.Common.{◌≡◌, ◌+◌, ◌++◌, ◌∷◌, [], ℕ, List, length, Option, refl, ap, subst, append_assoc}
use Rattle.sms_field.specs.declared.coding.Alphabet.TheVariants.{Gsm7}
use Rattle.sms_tpdu.specs.UserData.Lengths.{length_of_header}
use Rattle.sms_tpdu.specs.UserData.{header_octets, SpellsBody, SpellsUserData}
use Rattle.sms_tpdu.specs.declared.user_data.body.Body.TheVariants as body
use Rattle.sms_tpdu.proofs.user_data.writing.put_user_data.Goals as goal

septets_spelled : (header : Option (List ℕ)) (septets packed : List ℕ) (taken count : ℕ) → taken ≡ length (header_octets header) → count ≡ length_of_header Gsm7 (length (header_octets header)) + length septets → SpellsBody taken (body.Septets septets) packed
    → SpellsUserData (record { header = header; body = body.Septets septets }) (count ∷ (header_octets header ++ packed))
septets_spelled header septets packed taken count taken_is count_is spelled = record {
  written = packed;
  spells_body = subst (λ (n : ℕ). SpellsBody n (body.Septets septets) packed) taken_is spelled;
  parts = ap (λ (n : ℕ). n ∷ (header_octets header ++ packed)) count_is;
}

appended : (old header packed : List ℕ) (count : ℕ) → ((old ++ (count ∷ [])) ++ header) ++ packed ≡ old ++ (count ∷ (header ++ packed))
appended old header packed count = simp append_assoc

pub returns-in_ok-put_septets-in-Septets : goal.returns-in_ok-put_septets-in-Septets
returns-in_ok-put_septets-in-Septets c =
    let header = header_octets c.args.user.now.header in
    let added = c.in_ok-put_septets-in-Septets.ensures in
    let packed : List ℕ = added.0 in
    let count : ℕ = c.length_of_septets.result in
    let count_is : count ≡ length_of_header Gsm7 (length header) + length c.in-Septets.septets = rw (c.length_of_septets.ensures, c.octets_taken-taken.ensures.is, c.as_slice-septets.ensures.same) refl in
    let spelled = rw c.as_slice-septets.ensures.same at added.1 in
    let user : SpellsUserData c.args.user.now (count ∷ (header ++ packed)) = rw c.in-Septets.is (septets_spelled c.args.user.now.header c.in-Septets.septets packed c.octets_taken-taken.result count c.octets_taken-taken.ensures.is count_is spelled) in
    let e : c.put_septets.new.out.items ≡ c.args.out.now.items ++ (count ∷ (header ++ packed)) = rw (added.2, c.in_ok-put_header-in-Septets.ensures, c.in_ok-push-in-Septets.ensures.items) (appended c.args.out.now.items header packed count) in
    (count ∷ (header ++ packed), user, e)
