-- A reader may pass this by: lemmas, for the proofs of this crate and of those above it.
--
-- A CP message is a lawful field, and what is written is read back.
use Rattle.std.proofs.Common.{◌≡◌, ℕ, ◌+◌, ◌*◌, ◌/◌, ◌%◌, ◌<◌, ◌==◌, Bool, true, false, cond, List, [], ◌∷◌, length, Ok, Err, refl, ap, lit<, arith}
use Rattle.std.proofs.lemmas.Bool.{ne_eqb}
use Rattle.sms_text.specs.Octets.{IsOctets}
use Rattle.sms_field.specs.Bit.{bit}
use Rattle.sms_field.specs.Field.{octet, octet_by, IsLawful}
use Rattle.sms_field.specs.Inside.ChainReading.{chained, ended}
use Rattle.sms_field.specs.Inside.ChainLaws.{chain_lawful, chain_self_contained}
use Rattle.sms_field.specs.Inside.SingleLaws.{always_self, always_lawful, octet_self, octet_lawful, octet_by_self, octet_by_lawful, octets_of_self, octets_of_lawful}
use Rattle.sms_tpdu.specs.UnitLaws.{AreUnitLaws, laws_by}
use Rattle.sms_relay.specs.Transaction.{transaction, transaction_octet, IsTransaction, SpellsTransaction}
use Rattle.sms_relay.specs.Cp.Kind.{cp_kind, kind_octet}
use Rattle.sms_relay.specs.Cp.Value.{CpValue, IsCpBody, IsCpMessage}
use Rattle.sms_relay.specs.Cp.{cp_body, cp_message, kind_of, cp_body_octets, cp_octets, SpellsCp}
use Rattle.sms_relay.specs.declared.cp.CpBody.{CpBody}
use Rattle.sms_relay.specs.declared.cp.CpBody.TheVariants as body
use Rattle.sms_relay.specs.declared.cp_kind.CpKind.{CpKind}
use Rattle.sms_relay.specs.declared.cp_kind.CpKind.TheVariants as kind
use Rattle.sms_relay.specs.declared.fault.RelayFault.{RelayFault}
use Rattle.sms_relay.specs.declared.fault.RelayFault.TheVariants.{Short, NotSms, BadTransaction, UnknownType}
use Rattle.sms_relay.specs.declared.transaction.Transaction.{Transaction}
use Rattle.sms_field.specs.Field.{IsSelfContained}

transaction_apart_by : (a b : Bool) (t : Transaction) → cond a (cond b (Err BadTransaction) (Ok t)) (Err NotSms) ≡ Err Short → ⊥
transaction_apart_by true true t e = cc
transaction_apart_by true false t e = cc
transaction_apart_by false b t e = cc

transaction_apart : (o : ℕ) → transaction o ≡ Err Short → ⊥
transaction_apart o e = transaction_apart_by (o % 16 == 9) (o / 16 % 8 == 7) _ e

kind_apart_by : (a b c : Bool) → cond a (Ok kind.Data) (cond b (Ok kind.Ack) (cond c (Ok kind.Error) (Err UnknownType))) ≡ Err Short → ⊥
kind_apart_by true b c e = cc
kind_apart_by false true c e = cc
kind_apart_by false false true e = cc
kind_apart_by false false false e = cc

kind_apart : (o : ℕ) → cp_kind o ≡ Err Short → ⊥
kind_apart o e = kind_apart_by (o == 1) (o == 4) (o == 16) e

cp_body_self : (k : CpKind) → IsSelfContained (cp_body k)
unfolding cp_body
cp_body_self kind.Data = chain_self_contained _ _ (octet_self Short) (λ count. chain_self_contained _ _ (octets_of_self Short count) (λ octets. always_self RelayFault _))
cp_body_self kind.Ack = always_self RelayFault _
cp_body_self kind.Error = chain_self_contained _ _ (octet_self Short) (λ cause. always_self RelayFault _)

cp_body_lawful : (k : CpKind) → IsLawful Short (cp_body k)
unfolding cp_body
cp_body_lawful kind.Data = chain_lawful _ _ Short (octet_self Short) (octet_lawful Short) (λ count _ _ _. chain_lawful _ _ Short (octets_of_self Short count) (octets_of_lawful Short count) (λ octets _ _ _. always_lawful Short _))
cp_body_lawful kind.Ack = always_lawful Short _
cp_body_lawful kind.Error = chain_lawful _ _ Short (octet_self Short) (octet_lawful Short) (λ cause _ _ _. always_lawful Short _)

cp_lawful : IsLawful Short cp_message
unfolding cp_message
cp_lawful =
    chain_lawful _ _ Short (octet_by_self Short transaction) (octet_by_lawful Short transaction (9, lit< tt, _, refl) transaction_apart) (λ named _ _ _.
    chain_lawful _ _ Short (octet_by_self Short cp_kind) (octet_by_lawful Short cp_kind (1, lit< tt, _, refl) kind_apart) (λ k _ _ _.
    chain_lawful _ _ Short (cp_body_self k) (cp_body_lawful k) (λ content _ _ _.
    always_lawful Short _)))

-- ---- what is written

record IsTransactionOctet (t : Transaction) (octet : ℕ) : Type 0 where
  again : transaction octet ≡ Ok t
  small : octet < 256

-- what a number whose low half is 9 says
says : (octet value : ℕ) (flag : Bool) → octet % 16 ≡ 9 → octet / 16 % 8 ≡ value → bit 7 octet ≡ flag → value < 7 → transaction octet ≡ Ok (record { flag = flag; value = value })
says octet value flag low high top fits = rw (low, high, top, ne_eqb value 7 (λ e. absurd (omega (arith, e)))) refl

transaction_again : (flag : Bool) (value : ℕ) → value < 7 → let t : Transaction = record { flag = flag; value = value } in IsTransactionOctet t (transaction_octet t)
transaction_again true value fits =
    let octet : ℕ = 128 + 16 * value + 9 in
    let top : octet / 128 % 2 ≡ 1 = omega arith in
    record { again = says octet value true (omega arith) (omega arith) (ap (λ (n : ℕ). n == 1) top) fits; small = omega arith }
transaction_again false value fits =
    let octet : ℕ = 0 + 16 * value + 9 in
    let top : octet / 128 % 2 ≡ 0 = omega arith in
    record { again = says octet value false (omega arith) (omega arith) (ap (λ (n : ℕ). n == 1) top) fits; small = omega arith }

kind_again : (k : CpKind) → cp_kind (kind_octet k) ≡ Ok k
kind_again kind.Data = refl
kind_again kind.Ack = refl
kind_again kind.Error = refl

cp_body_again : (b : CpBody) (rest : List ℕ) → IsCpBody b → (cp_body (kind_of b)).reads b (cp_body_octets b) rest
unfolding cp_body
cp_body_again (body.Transfer octets) rest fits =
    chained _ _ (length octets) (body.Transfer octets) (length octets ∷ []) octets rest refl (
    ended _ _ octets (body.Transfer octets) octets rest (refl, refl)
    (refl, refl))
cp_body_again body.Ack rest fits = (refl, refl)
cp_body_again (body.Fail cause) rest fits = ended _ _ cause (body.Fail cause) (cause ∷ []) rest refl (refl, refl)

cp_again : (m : CpValue) (rest : List ℕ) → IsCpMessage m → cp_message.reads m (cp_octets m) rest
unfolding cp_message
cp_again m rest fits =
    let t : Transaction = record { flag = m.flag; value = m.value } in
    let k = kind_of m.body in
    chained _ _ t m (transaction_octet t ∷ []) _ rest (transaction_octet t, refl, (transaction_again m.flag m.value fits.value).again) (
    chained _ _ k m (kind_octet k ∷ []) _ rest (kind_octet k, refl, kind_again k) (
    ended _ _ m.body m (cp_body_octets m.body) rest (cp_body_again m.body rest fits.body)
    (refl, refl)))

kind_small : (k : CpKind) → kind_octet k < 256
kind_small kind.Data = lit< tt
kind_small kind.Ack = lit< tt
kind_small kind.Error = lit< tt

cp_body_are_octets : (b : CpBody) → IsCpBody b → IsOctets (cp_body_octets b)
cp_body_are_octets (body.Transfer octets) fits = (omega (arith, fits.0), fits.1)
cp_body_are_octets body.Ack fits = tt
cp_body_are_octets (body.Fail cause) fits = (fits, tt)

-- ---- as a unit

cp_are_octets : (m : CpValue) → IsCpMessage m → IsOctets (cp_octets m)
cp_are_octets m fits = ((transaction_again m.flag m.value fits.value).small, (kind_small (kind_of m.body), cp_body_are_octets m.body fits.body))

pub cp_laws : AreUnitLaws Short cp_message SpellsCp (λ _ _. Unit {0})
cp_laws = laws_by Short cp_message IsCpMessage cp_octets cp_lawful cp_are_octets cp_again

transaction_lawful : IsLawful Short (octet_by Short transaction)
transaction_lawful = octet_by_lawful Short transaction (9, lit< tt, _, refl) transaction_apart

transaction_is : (t : Transaction) → IsTransaction t → IsTransactionOctet t (transaction_octet t)
transaction_is t fits = transaction_again t.flag t.value fits

pub transaction_laws : AreUnitLaws Short (octet_by Short transaction) SpellsTransaction (λ _ _. Unit {0})
transaction_laws =
    laws_by Short (octet_by Short transaction) IsTransaction (λ t. transaction_octet t ∷ []) transaction_lawful
    (λ t fits. ((transaction_is t fits).small, tt))
    (λ t rest fits. (transaction_octet t, refl, (transaction_is t fits).again))
