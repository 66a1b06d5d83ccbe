-- A reader may pass this by: lemmas, for the proofs of this crate and of those above it.
--
-- An SMS-COMMAND is a lawful field, and what is written is read back.
use Rattle.std.proofs.Common.{◌≡◌, ℕ, ◌≤◌, true, false, leb, List, [], ◌∷◌, length, Ok, refl, lit<, arith}
use Rattle.std.proofs.lemmas.Bool.{le-leb}
use Rattle.sms_text.specs.Octets.{IsOctets}
use Rattle.sms_field.specs.Inside.BitLaws.{AreBits, summed_bits}
use Rattle.sms_field.specs.Inside.ChainReading.{chained, ended}
use Rattle.sms_field.specs.Field.{IsLawful, up_to}
use Rattle.sms_field.specs.Address.{address, address_octets}
use Rattle.sms_field.specs.declared.fault.FieldFault.TheVariants as fields
use Rattle.sms_field.specs.Inside.ChainLaws.{chain_lawful}
use Rattle.sms_field.specs.Inside.OctetLists.{octets-append}
use Rattle.sms_field.specs.Inside.SingleLaws.{always_lawful, octet_self, octet_lawful, octet_by_self, octet_by_lawful, octets_of_self, octets_of_lawful, map_reason_lawful, apart_else, apart_then}
use Rattle.sms_field.specs.Inside.AddressLaws.{address_self, address_lawful}
use Rattle.sms_field.specs.Inside.AddressSpelling.{address_again, address_are_octets}
use Rattle.sms_tpdu.specs.UnitLaws.{AreUnitLaws, laws_by}
use Rattle.sms_tpdu.specs.Fault.{unit_fault}
use Rattle.sms_tpdu.specs.Inside.FaultLaws.{fault_apart}
use Rattle.sms_tpdu.specs.Command.Flags.{command_flags, command_octet}
use Rattle.sms_tpdu.specs.Command.{CommandValue, IsCommand, command, flags_in, command_octets, SpellsCommand}
use Rattle.sms_tpdu.specs.declared.command.flags.CommandFlags.{CommandFlags}
use Rattle.sms_tpdu.specs.declared.fault.UnitFault.TheVariants.{Short, WrongType, DataTooLong}

command_lawful : IsLawful Short command
unfolding command
command_lawful =
    chain_lawful _ _ Short (octet_by_self Short command_flags) (octet_by_lawful Short command_flags (2, lit< tt, _, refl) (λ o. apart_then Short _ _ WrongType (λ e. cc))) (λ flags _ _ _.
    chain_lawful _ _ Short (octet_self Short) (octet_lawful Short) (λ reference _ _ _.
    chain_lawful _ _ Short (octet_self Short) (octet_lawful Short) (λ pid _ _ _.
    chain_lawful _ _ Short (octet_self Short) (octet_lawful Short) (λ kind _ _ _.
    chain_lawful _ _ Short (octet_self Short) (octet_lawful Short) (λ message _ _ _.
    chain_lawful _ _ Short address_self (map_reason_lawful fields.Short unit_fault fault_apart address address_lawful) (λ target _ _ _.
    chain_lawful _ _ Short (octet_by_self Short (up_to 157 DataTooLong)) (octet_by_lawful Short (up_to 157 DataTooLong) (0, lit< tt, 0, refl) (λ o. apart_else Short (leb o 157) o DataTooLong (λ e. cc))) (λ count _ _ _.
    chain_lawful _ _ Short (octets_of_self Short count) (octets_of_lawful Short count) (λ octets _ _ _.
    always_lawful Short _))))))))

-- ---- what is written

flags_bits : (f : CommandFlags) → AreBits false true false false false f.report f.header false (command_octet f)
flags_bits f = summed_bits false true false false false f.report f.header false (command_octet f) (omega arith)

flags_again : (f : CommandFlags) → command_flags (command_octet f) ≡ Ok f
flags_again f =
    let bits = flags_bits f in
    rw (bits.bit_0, bits.bit_1, bits.bit_5, bits.bit_6) refl

few_octets : (n : ℕ) → n ≤ 157 → up_to 157 DataTooLong n ≡ Ok n
few_octets n h = rw (le-leb n 157 h) refl

command_again : (c : CommandValue) (rest : List ℕ) → IsCommand c → command.reads c (command_octets c) rest
unfolding command
command_again c rest fits =
    chained _ _ (flags_in c) c (command_octet (flags_in c) ∷ []) _ rest (command_octet (flags_in c), refl, flags_again (flags_in c)) (
    chained _ _ c.reference c (c.reference ∷ []) _ rest refl (
    chained _ _ c.pid c (c.pid ∷ []) _ rest refl (
    chained _ _ c.kind c (c.kind ∷ []) _ rest refl (
    chained _ _ c.message c (c.message ∷ []) _ rest refl (
    chained _ _ c.target c (address_octets c.target) _ rest (address_again c.target _ fits.target) (
    chained _ _ (length c.octets) c (length c.octets ∷ []) _ rest (length c.octets, refl, few_octets (length c.octets) fits.few) (
    ended _ _ c.octets c c.octets rest (refl, refl)
    (refl, refl))))))))

command_are_octets : (c : CommandValue) → IsCommand c → IsOctets (command_octets c)
command_are_octets c fits =
    let counted : IsOctets (length c.octets ∷ c.octets) = (omega (arith, fits.few), fits.octets) in
    ((flags_bits (flags_in c)).small, (fits.reference, (fits.pid, (fits.kind, (fits.message, octets-append (address_octets c.target) _ (address_are_octets c.target fits.target) counted)))))

pub command_laws : AreUnitLaws Short command SpellsCommand (λ _ _. Unit {0})
command_laws = laws_by Short command IsCommand command_octets command_lawful command_are_octets command_again
