-- A reader may pass this by: lemmas, for the proofs of this crate and of those above it.
--
-- Septets one an octet are a lawful field, and what is written is read back.
use Rattle.std.proofs.Common.{◌≡◌, ℕ, zero, suc, ◌+◌, ◌-◌, ◌<◌, ◌≤◌, Bool, true, false, cond, leb, ltb, List, [], ◌∷◌, ◌++◌, length, take, drop, get_or, Option, Some, None, is_some, Result, Ok, Err, refl, sym, ap, subst, ◌∙◌, arith, lit<, length-append}
use Rattle.std.proofs.lemmas.Bool.{lt-leb, le-leb, lt-ltb, ltb-true, ltb-false, leb-true}
use Rattle.std.proofs.Common.{◌⊎◌, inl, inr, IfOk}
use Rattle.std.proofs.lemmas.List.{append-nil}
use Rattle.sms_field.specs.Reading.Spot.{Spot}
use Rattle.sms_field.specs.Reading.Answer.{SeesAs}
use Rattle.sms_field.specs.declared.refusal.Fault.{Fault}
use Rattle.sms_text.specs.Bits.{AreSeptets}
use Rattle.sms_text.specs.Octets.{IsOctets}
use Rattle.sms_field.specs.Field.{Outcome, found, refused, Field, IsLawful, IsSelfContained, read_then, always, octet_by, octets_of, up_to}
use Rattle.sms_field.specs.declared.coding.Alphabet.TheVariants.{Gsm7}
use Rattle.sms_field.specs.Inside.OctetLists.{octets_front}
use Rattle.sms_field.specs.Inside.ChainReading.{chained, ended}
use Rattle.sms_field.specs.Inside.ChainLaws.{chain_lawful, chain_self_contained}
use Rattle.sms_field.specs.Inside.SingleLaws.{always_self, always_lawful, octet_by_self, octet_by_lawful, octets_of_self, octets_of_lawful, apart_else}
use Rattle.sms_tpdu.specs.UserData.Lengths.{length_of_header}
use Rattle.sms_tpdu.specs.UserData.{header_octets, BodyFits, FitsAlphabet, has_header}
use Rattle.sms_tpdu.specs.UserData.Singles.{each_septet, singles_for, singles_header, singles_of, singles_in, single_octets}
use Rattle.sms_tpdu.specs.declared.user_data.data_fault.DataFault.{DataFault}
use Rattle.sms_tpdu.specs.declared.user_data.data_fault.DataFault.TheVariants.{Short, DataTooLong, HeaderTooLong, BadSeptet}
use Rattle.sms_tpdu.specs.declared.user_data.body.Body.{Body}
use Rattle.sms_tpdu.specs.declared.user_data.body.Body.TheVariants as body
use Rattle.sms_tpdu.specs.declared.user_data.UserData.{UserData}

abbrev a_septet : Field ℕ DataFault
a_septet = octet_by Short (up_to 127 BadSeptet)

a_septet_self : IsSelfContained a_septet
a_septet_self = octet_by_self Short (up_to 127 BadSeptet)

a_septet_lawful : IsLawful Short a_septet
a_septet_lawful = octet_by_lawful Short (up_to 127 BadSeptet) (0, lit< tt, 0, refl) (λ o. apart_else Short (leb o 127) o BadSeptet (λ e. cc))

pub each_self : (n : ℕ) → IsSelfContained (each_septet n)
unfolding each_septet
each_self zero = always_self DataFault _
each_self (suc n) =
    chain_self_contained _ _ a_septet_self (λ septet.
    chain_self_contained _ _ (each_self n) (λ others.
    always_self DataFault _))

pub each_lawful : (n : ℕ) → IsLawful Short (each_septet n)
unfolding each_septet
each_lawful zero = always_lawful Short _
each_lawful (suc n) =
    chain_lawful _ _ Short a_septet_self a_septet_lawful (λ septet _ _ _.
    chain_lawful _ _ Short (each_self n) (each_lawful n) (λ others _ _ _.
    always_lawful Short _))

-- ---- the plain reader

-- where each of the first is a septet, they are read as octets are
pub good : (n at : ℕ) (input : List ℕ) → ((k : ℕ) → k < n → get_or input k 0 < 128) → (each_septet n).read at input ≡ (octets_of Short n).read at input
unfolding each_septet
good zero at input are = rw (lt-leb (suc (length input)) 0 (omega arith)) (ap (λ (n : ℕ). found [] n input) (omega arith))
good (suc n) at [] are = rw (lt-ltb 0 (suc n) (omega arith)) (ap (λ (n : ℕ). refused n Short) (omega arith))
good (suc n) at (x ∷ xs) are =
    let small : leb x 127 ≡ true = le-leb x 127 (omega (arith, are 0)) in
    let rest = good n (at + 1) xs (λ (k : ℕ) (lt : k < n). are (suc k) (omega (arith, lt))) in
    rw small (ap (λ (o : Outcome (List ℕ) DataFault). read_then o (λ others. always (x ∷ others))) rest ∙ go (ltb (length xs) n) refl)
  where
    go : (b : Bool) → ltb (length xs) n ≡ b → read_then ((octets_of Short n).read (at + 1) xs) (λ others. always (x ∷ others)) ≡ (octets_of Short (suc n)).read at (x ∷ xs)
    go true e = rw (e, lt-ltb (length (x ∷ xs)) (suc n) (omega (arith, ltb-true (length xs) n e))) (ap (λ (n : ℕ). refused n Short) (omega arith))
    go false e = rw (e, lt-leb (suc (length (x ∷ xs))) (suc n) (omega (arith, ltb-false (length xs) n e))) (ap (λ (m : ℕ). found (x ∷ take n xs) m (drop n xs)) (omega arith))

-- the first that is none
pub bad : (n i at : ℕ) (input : List ℕ) → i < n → i < length input → ((k : ℕ) → k < i → get_or input k 0 < 128) → 128 ≤ get_or input i 0 → (each_septet n).read at input ≡ refused (at + i) BadSeptet
unfolding each_septet
bad zero i at input lt there are is = absurd (omega arith)
bad (suc n) i at [] lt there are is = absurd (omega arith)
bad (suc n) zero at (x ∷ xs) lt there are is =
    rw (lt-leb x 127 (omega (arith, is))) (ap (λ (n : ℕ). refused n BadSeptet) (omega arith))
bad (suc n) (suc i) at (x ∷ xs) lt there are is =
    let small : leb x 127 ≡ true = le-leb x 127 (omega (arith, are 0 (omega arith))) in
    let rest = bad n i (at + 1) xs (omega (arith, lt)) (omega (arith, there)) (λ (k : ℕ) (below : k < i). are (suc k) (omega (arith, below))) is in
    rw (small, rest) (ap (λ (n : ℕ). refused n BadSeptet) (omega arith))

-- ---- against octets that were counted

same_found : (v w : List ℕ) (p q : ℕ) (l r : List ℕ) (o : Outcome (List ℕ) DataFault) → o ≡ found v p l → o ≡ found w q r → (w ≡ v) × (q ≡ p)
same_found v w p q l r o e f = let h : found v p l ≡ found w q r = sym e ∙ f in (cc, cc)

-- octets that are there are found, and the place after them is
pub octets_there : (n at : ℕ) (input v : List ℕ) (place : ℕ) (left : List ℕ) → n ≤ length input → (octets_of {W = DataFault} Short n).read at input ≡ found v place left → (v ≡ take n input) × (place ≡ at + n)
octets_there n at input v place left enough e =
    same_found (take n input) v (at + n) place (drop n input) left ((octets_of {W = DataFault} Short n).read at input) (rw (lt-leb (suc (length input)) n (omega (arith, enough))) refl) e

pub enough_there : (n at : ℕ) (input v : List ℕ) (place : ℕ) (left : List ℕ) → (octets_of {W = DataFault} Short n).read at input ≡ found v place left → n ≤ length input
enough_there n at input v place left e = go (ltb (length input) n) refl e
  where
    go : (b : Bool) → ltb (length input) n ≡ b → cond b (refused (at + length input) Short) (found (take n input) (at + n) (drop n input)) ≡ found v place left → n ≤ length input
    go true is f = absurd cc
    go false is f = ltb-false (length input) n is

past_end : (input : List ℕ) (k : ℕ) → length input ≤ k → get_or input k 0 < 128
past_end [] k le = omega arith
past_end (x ∷ xs) zero le = absurd (omega arith)
past_end (x ∷ xs) (suc k) le = past_end xs k (omega (arith, le))

pub all_good : (input : List ℕ) (count good : ℕ) → ((k : ℕ) → k < good → get_or input k 0 < 128) → ((count ≤ good) ⊎ (length input ≤ good)) → (k : ℕ) → k < count → get_or input k 0 < 128
all_good input count good are (inl le) k lt = are k (omega (arith, le, lt))
all_good input count good are (inr le) k lt = go (leb (suc k) good) refl
  where
    go : (b : Bool) → leb (suc k) good ≡ b → get_or input k 0 < 128
    go true e = are k (ltb-true k good e)
    go false e = past_end input k (omega (arith, le, ltb-false k good e))

are_first : (n : ℕ) (input : List ℕ) → ((k : ℕ) → k < n → get_or input k 0 < 128) → AreSeptets (take n input)
are_first zero input are = tt
are_first (suc n) [] are = tt
are_first (suc n) (x ∷ xs) are = (are 0 (omega arith), are_first n xs (λ (k : ℕ) (lt : k < n). are (suc k) (omega (arith, lt))))

-- a reader of counted octets, where each of them is a septet
pub sees_good : {X : Type 0} (view : X → List ℕ) (n : ℕ) (here next : Spot) (result : Result X (Fault DataFault)) → ((k : ℕ) → k < n → get_or here.rest k 0 < 128) → SeesAs view (octets_of Short n) here result next → SeesAs view (each_septet n) here result next
sees_good view n here next (Ok x) are e = good n here.place here.rest are ∙ e
sees_good view n here next (Err fault) are e = good n here.place here.rest are ∙ e

pub found_good : {X : Type 0} (view : X → List ℕ) (n : ℕ) (here next : Spot) (result : Result X (Fault DataFault)) → ((k : ℕ) → k < n → get_or here.rest k 0 < 128) → SeesAs view (octets_of Short n) here result next → IfOk result (λ x. AreSeptets (view x))
found_good view n here next (Ok x) are e =
    let there : n ≤ length here.rest = enough_there n here.place here.rest (view x) next.place next.rest e in
    subst AreSeptets (sym (octets_there n here.place here.rest (view x) next.place next.rest there e).0) (are_first n here.rest are)
found_good view n here next (Err fault) are e = tt

-- ---- what they read

pub each_reads : (n : ℕ) (v octets rest : List ℕ) → (each_septet n).reads v octets rest → (octets ≡ v) × (length v ≡ n) × AreSeptets v
unfolding each_septet
each_reads zero v octets rest r = (r.1 ∙ sym r.0, ap length r.0, subst AreSeptets (sym r.0) tt)
each_reads (suc n) v octets rest r =
    let o : ℕ = r.of_first.0 in
    let second = r.of_second in
    let others = each_reads n second.choice second.front (second.back ++ rest) second.of_first in
    let last = second.of_second in
    let tail : r.back ≡ second.choice = second.parts ∙ ap (λ (l : List ℕ). second.front ++ l) last.1 ∙ append-nil second.front ∙ others.0 in
    let is : v ≡ r.choice ∷ second.choice = last.0 in
    let small = septet_is o r.choice r.of_first.2 in
    let whole : octets ≡ o ∷ second.choice = r.parts ∙ ap (λ (l : List ℕ). l ++ r.back) r.of_first.1 ∙ ap (λ (l : List ℕ). o ∷ l) tail in
    (whole ∙ ap (λ (m : ℕ). m ∷ second.choice) (sym small.0) ∙ sym is, ap length is ∙ omega (arith, others.1), subst AreSeptets (sym is) (small.1, others.2))
  where
    septet_is : (o c : ℕ) → up_to 127 BadSeptet o ≡ Ok c → (c ≡ o) × (c < 128)
    septet_is o c e = go (leb o 127) refl e
      where
        ok : ℕ → Result ℕ DataFault
        ok n = Ok n

        go : (b : Bool) → leb o 127 ≡ b → cond b (Ok o) (Err BadSeptet) ≡ Ok c → (c ≡ o) × (c < 128)
        go true is f = let same : c ≡ o = cc in (same, omega (arith, leb-true o 127 is, same))
        go false is f = absurd cc

pub each_read : (v rest : List ℕ) → AreSeptets v → (each_septet (length v)).reads v v rest
unfolding each_septet
each_read [] rest are = (refl, refl)
each_read (x ∷ v) rest are =
    chained _ _ x (x ∷ v) (x ∷ []) v rest (x, refl, rw (le-leb x 127 (omega (arith, are.0))) refl) (
    ended _ _ v (x ∷ v) v rest (each_read v rest are.1) (refl, refl))

-- ---- user data of so many octets

abbrev ok : ℕ → Result ℕ DataFault
ok n = Ok n

pub singles_total : (n total : ℕ) → singles_for true n ≡ Ok total → (total ≡ n) × (1 ≤ n) × (n ≤ 159)
singles_total n total e = go (leb n 159) (leb 1 n) refl refl e
  where
    go : (a b : Bool) → leb n 159 ≡ a → leb 1 n ≡ b → cond a (cond b (Ok n) (Err HeaderTooLong)) (Err DataTooLong) ≡ Ok total → (total ≡ n) × (1 ≤ n) × (n ≤ 159)
    go true true p q f = (cc, leb-true 1 n q, leb-true n 159 p)
    go true false p q f = absurd cc
    go false b p q f = absurd cc

shortest : (total : ℕ) → 1 ≤ total → total ≤ 159 → singles_header total 0 ≡ Ok 0
shortest total some few = rw (le-leb (0 + 1) total (omega arith), le-leb (length_of_header Gsm7 (0 + 1) + (total - (0 + 1))) 160 (omega arith)) refl

header_apart : (a b : Bool) (o : ℕ) → cond a (cond b (Ok o) (Err DataTooLong)) (Err HeaderTooLong) ≡ Err Short → ⊥
header_apart true true o e = cc
header_apart true false o e = cc
header_apart false b o e = cc

pub singles_lawful : (with_header : Bool) (n total : ℕ) → singles_for with_header n ≡ Ok total → IsLawful Short (singles_of with_header total)
unfolding singles_of
singles_lawful false n total is =
    chain_lawful _ _ Short (each_self total) (each_lawful total) (λ septets _ _ _.
    always_lawful Short _)
singles_lawful true n total is =
    let h = singles_total n total is in
    chain_lawful _ _ Short (octet_by_self Short (singles_header total)) (octet_by_lawful Short (singles_header total) (0, lit< tt, 0, shortest total (omega (arith, h.0, h.1)) (omega (arith, h.0, h.2))) (λ o. header_apart (leb (o + 1) total) (leb (length_of_header Gsm7 (o + 1) + (total - (o + 1))) 160) o)) (λ size _ _ _.
    chain_lawful _ _ Short (octets_of_self Short size) (octets_of_lawful Short size) (λ header _ _ _.
    chain_lawful _ _ Short (each_self (total - (size + 1))) (each_lawful (total - (size + 1))) (λ septets _ _ _.
    always_lawful Short _)))

-- ---- what is written is read, and what is read is what is written

pub total_is : (with_header : Bool) (n : ℕ) → n ≤ 159 → 1 ≤ n → singles_for with_header n ≡ Ok n
total_is false n few some = rw (le-leb n 160 (omega arith)) refl
total_is true n few some = rw (le-leb n 159 few, le-leb 1 n some) refl

singles_again : (header : Option (List ℕ)) (s rest : List ℕ) → length_of_header Gsm7 (length (header_octets header)) + length s ≤ 160 → AreSeptets s
    → (singles_for (is_some header) (length (header_octets header ++ s)) ≡ Ok (length (header_octets header ++ s)))
    × (singles_of (is_some header) (length (header_octets header ++ s))).reads (singles_in header s) (header_octets header ++ s) rest
unfolding singles_of
singles_again None s rest few are = (
  rw (le-leb (length s) 160 (omega (arith, few))) refl,
  ended _ _ s (singles_in None s) s rest (each_read s rest are) (refl, refl),
)
singles_again (Some header) s rest few are =
    let size : ℕ = length header in
    let total : ℕ = suc (length (header ++ s)) in
    let sum : length (header ++ s) ≡ size + length s = length-append header s in
    let next : suc size ≡ size + 1 = omega arith in
    let left : total - (size + 1) ≡ length s = omega (arith, sum) in
    let fits : length_of_header Gsm7 (size + 1) + (total - (size + 1)) ≤ 160 = omega (arith, sum, few) in
    let user : UserData = singles_in (Some header) s in
    let septets : (each_septet (total - (size + 1))).reads s s rest = subst (λ (n : ℕ). (each_septet n).reads s s rest) (sym left) (each_read s rest are) in (
      rw (le-leb total 159 (omega (arith, sum, few)), le-leb 1 total (omega arith)) refl,
      chained _ _ size user (size ∷ []) (header ++ s) rest (size, refl, rw (le-leb (size + 1) total (omega (arith, sum)), le-leb (length_of_header Gsm7 (size + 1) + (total - (size + 1))) 160 fits) refl) (
          chained _ _ header user header s rest (refl, refl) (
          ended _ _ s user s rest septets (refl, refl))),
    )

pub singles_come_back : (user : UserData) (rest : List ℕ) → FitsAlphabet Gsm7 user
    → (singles_for (has_header user) (length (single_octets user)) ≡ Ok (length (single_octets user)))
    × (singles_of (has_header user) (length (single_octets user))).reads user (single_octets user) rest
singles_come_back user rest fits = go user.body refl fits.1
  where
    go : (b : Body) → user.body ≡ b → BodyFits Gsm7 (length (header_octets user.header)) b
        → (singles_for (has_header user) (length (single_octets user)) ≡ Ok (length (single_octets user))) × (singles_of (has_header user) (length (single_octets user))).reads user (single_octets user) rest
    go (body.Octets o) is f = absurd f
    go (body.Septets s) is f =
        let user_is : singles_in user.header s ≡ user = ap (λ (b : Body). let u : UserData = record { header = user.header; body = b } in u) (sym is) in
        subst (λ (u : UserData). (singles_for (has_header u) (length (single_octets u)) ≡ Ok (length (single_octets u))) × (singles_of (has_header u) (length (single_octets u))).reads u (single_octets u) rest) user_is (singles_again user.header s rest f.0 f.1)

pub header_is : (total o size : ℕ) → singles_header total o ≡ Ok size → (size ≡ o) × (o + 1 ≤ total) × (length_of_header Gsm7 (o + 1) + (total - (o + 1)) ≤ 160)
header_is total o size e = go (leb (o + 1) total) (leb (length_of_header Gsm7 (o + 1) + (total - (o + 1))) 160) refl refl e
  where
    go : (a b : Bool) → leb (o + 1) total ≡ a → leb (length_of_header Gsm7 (o + 1) + (total - (o + 1))) 160 ≡ b → cond a (cond b (Ok o) (Err DataTooLong)) (Err HeaderTooLong) ≡ Ok size
        → (size ≡ o) × (o + 1 ≤ total) × (length_of_header Gsm7 (o + 1) + (total - (o + 1)) ≤ 160)
    go true true p q f = (cc, leb-true (o + 1) total p, leb-true (length_of_header Gsm7 (o + 1) + (total - (o + 1))) 160 q)
    go true false p q f = absurd cc
    go false b p q f = absurd cc

few_singles : (total : ℕ) → singles_for false total ≡ Ok total → total ≤ 160
few_singles total e = go (leb total 160) refl e
  where
    go : (a : Bool) → leb total 160 ≡ a → cond a (Ok total) (Err DataTooLong) ≡ Ok total → total ≤ 160
    go true p f = leb-true total 160 p
    go false p f = absurd cc

-- what octets are read as
abbrev IsWrittenAs : ℕ → UserData → List ℕ → Type 0
IsWrittenAs total user octets = (octets ≡ single_octets user) × (length octets ≡ total) × FitsAlphabet Gsm7 user

pub singles_are_written : (with_header : Bool) (total : ℕ) (user : UserData) (octets rest : List ℕ) → IsOctets octets → singles_for with_header total ≡ Ok total → (singles_of with_header total).reads user octets rest → IsWrittenAs total user octets
unfolding singles_of
singles_are_written false total user octets rest fits told r =
    let s = each_reads total r.choice r.front (r.back ++ rest) r.of_first in
    let whole : octets ≡ r.choice = r.parts ∙ ap (λ (l : List ℕ). r.front ++ l) r.of_second.1 ∙ append-nil r.front ∙ s.0 in
    subst (λ (u : UserData). IsWrittenAs total u octets) (sym r.of_second.0) (
      whole,
      ap length whole ∙ s.1,
      (tt, (omega (arith, s.1, few_singles total told), s.2)),
    )
singles_are_written true total user octets rest fits told r =
    let o : ℕ = r.of_first.0 in
    let second = r.of_second in
    let third = second.of_second in
    let h = header_is total o r.choice r.of_first.2 in
    let s = each_reads (total - (r.choice + 1)) third.choice third.front (third.back ++ rest) third.of_first in
    let header : List ℕ = second.choice in
    let size : length header ≡ r.choice = second.of_first.1 in
    let tail : second.back ≡ third.choice = third.parts ∙ ap (λ (l : List ℕ). third.front ++ l) third.of_second.1 ∙ append-nil third.front ∙ s.0 in
    let back : r.back ≡ header ++ third.choice = second.parts ∙ ap (λ (l : List ℕ). l ++ second.back) second.of_first.0 ∙ ap (λ (l : List ℕ). header ++ l) tail in
    let first : o ≡ length header = omega (arith, size, h.0) in
    let whole : octets ≡ length header ∷ (header ++ third.choice) = r.parts ∙ ap (λ (l : List ℕ). l ++ r.back) r.of_first.1 ∙ ap (λ (l : List ℕ). o ∷ l) back ∙ ap (λ (n : ℕ). n ∷ (header ++ third.choice)) first in
    let are : IsOctets (length header ∷ (header ++ third.choice)) = subst IsOctets whole fits in
    subst (λ (u : UserData). IsWrittenAs total u octets) (sym third.of_second.0) (
      whole,
      ap length whole ∙ omega (arith, length-append header third.choice, s.1, size, h.0, h.1),
      ((are.0, octets_front header third.choice are.1), (omega (arith, s.1, size, h.0, h.1, h.2), s.2)),
    )
