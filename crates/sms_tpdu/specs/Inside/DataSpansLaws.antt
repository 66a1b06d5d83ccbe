-- A reader may pass this by: lemmas, for the proofs of this crate and of those above it.
--
-- Data at the end of what was read lie where their spans say.
use Rattle.std.proofs.Common.{◌≡◌, ℕ, ◌+◌, ◌-◌, Bool, true, false, cond, leb, List, [], ◌∷◌, ◌++◌, length, take, drop, Option, Some, None, refl, sym, ap, ◌∙◌, append_assoc, arith, length-append}
use Rattle.std.proofs.lemmas.Bool.{leb-true}
use Rattle.std.proofs.lemmas.List.{take-append-drop, length-take-le}
use Rattle.sms_field.specs.Reading.Lies.{octets_at}
use Rattle.sms_field.specs.Inside.Lies.{part_at}
use Rattle.sms_tpdu.specs.UserData.Spans.{HeaderLies, span_of}
use Rattle.sms_tpdu.specs.DataSpans.{header_in, DataLie, DataLieIf, header_before, data_before, data_before_if}
use Rattle.sms_tpdu.specs.declared.report.parts.ReportData.{ReportData}

-- the octets end with a part
abbrev pub EndsWith : List ℕ → List ℕ → Type 0
EndsWith octets part = (front : List ℕ) × (octets ≡ front ++ part)

-- what ends the back ends all
pub after : (front back octets part : List ℕ) → octets ≡ front ++ back → EndsWith back part → EndsWith octets part
after front back octets part parts e = (front ++ e.0, parts ∙ ap (λ (l : List ℕ). front ++ l) e.1 ∙ sym (append_assoc front e.0 part))

part_lies : (front part back input : List ℕ) (offset size : ℕ) → input ≡ front ++ (part ++ back) → offset ≡ length front → size ≡ length part → octets_at input (span_of offset size) ≡ part
part_lies front part back input offset size whole at is = ap (λ (l : List ℕ). octets_at l (span_of offset size)) whole ∙ part_at front part back (span_of offset size) at is

header_lies : (headed : Bool) (octets front rest input : List ℕ) (used : ℕ) → input ≡ front ++ (octets ++ rest) → used ≡ length front + length octets → HeaderLies (header_in headed octets) input (header_before used headed octets)
header_lies false octets front rest input used whole sum = tt
header_lies true [] front rest input used whole sum = tt
header_lies true (size ∷ others) front rest input used whole sum = go (leb size (length others)) refl
  where
    go : (b : Bool) → leb size (length others) ≡ b → HeaderLies (cond b (Some (take size others)) None) input (cond b (Some (span_of (used - length others) size)) None)
    go false is = tt
    go true is =
        let parts : input ≡ (front ++ (size ∷ [])) ++ (take size others ++ (drop size others ++ rest)) = whole ∙ ap (λ (l : List ℕ). front ++ (size ∷ (l ++ rest))) (sym (take-append-drop size others)) ∙ ap (λ (l : List ℕ). front ++ (size ∷ l)) (append_assoc (take size others) (drop size others) rest) ∙ sym (append_assoc front (size ∷ []) (take size others ++ (drop size others ++ rest))) in
        part_lies (front ++ (size ∷ [])) (take size others) (drop size others ++ rest) input (used - length others) size parts (omega (arith, sum, length-append front (size ∷ []))) (sym (length-take-le size others (leb-true _ _ is)))

pub data_lie : (headed : Bool) (part octets rest input : List ℕ) (used : ℕ) → input ≡ octets ++ rest → used ≡ length octets → EndsWith octets part → DataLie headed part input used (data_before used headed part)
data_lie headed part octets rest input used parts is e =
    let whole : input ≡ e.0 ++ (part ++ rest) = parts ∙ ap (λ (l : List ℕ). l ++ rest) e.1 ∙ append_assoc e.0 part rest in
    let sum : used ≡ length e.0 + length part = omega (arith, is, ap length e.1, length-append e.0 part) in
    record {
      lie = part_lies e.0 part rest input (used - length part) (length part) whole (omega (arith, sum)) refl;
      ends = omega (arith, sum);
      header = header_lies headed part e.0 rest input used whole sum;
    }

-- the data end what was read, where they are there
abbrev pub DataEnd : Option ReportData → List ℕ → Type 0
DataEnd None octets = Unit {0}
DataEnd (Some user) octets = EndsWith octets user.octets

pub after_data : (user : Option ReportData) (front back octets : List ℕ) → octets ≡ front ++ back → DataEnd user back → DataEnd user octets
after_data None front back octets parts e = tt
after_data (Some user) front back octets parts e = after front back octets user.octets parts e

pub data_lie_if : (headed : Bool) (user : Option ReportData) (octets rest input : List ℕ) (used : ℕ) → input ≡ octets ++ rest → used ≡ length octets → DataEnd user octets → DataLieIf headed user input used (data_before_if used headed user)
data_lie_if headed None octets rest input used parts is e = tt
data_lie_if headed (Some user) octets rest input used parts is e = data_lie headed user.octets octets rest input used parts is e
