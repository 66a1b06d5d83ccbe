-- A reader may pass this by: lemmas, for the proofs of this crate and of those above it.
--
-- An indicator is a lawful field, and what is written is read back.
use Rattle.std.proofs.Common.{◌≡◌, ℕ, ◌+◌, ◌<◌, Bool, true, false, List, [], ◌∷◌, ◌++◌, refl, sym, ap, subst, ◌∙◌, arith, inl, inr, lit<}
use Rattle.sms_text.specs.Octets.{IsOctets}
use Rattle.sms_field.specs.Bit.{bit}
use Rattle.sms_field.specs.Inside.BitLaws.{summed_bits}
use Rattle.sms_field.specs.Field.{Outcome, found, refused, HasReading, CanContinue, IsAnswer, IsSelfContained, IsLawful}
use Rattle.sms_field.specs.Inside.ChainLaws.{chain_lawful, chain_self_contained}
use Rattle.sms_field.specs.Inside.SingleLaws.{always_self, always_lawful, octet_self, octet_lawful}
use Rattle.sms_tpdu.specs.Report.ParameterIndicator.{AreFurther, further_at, further, indicated, indicator, indicator_octet}
use Rattle.sms_field.specs.Inside.ChainReading.{chained, ended}
use Rattle.sms_tpdu.specs.declared.report.indicator.Indicator.{Indicator}
use Rattle.sms_tpdu.specs.declared.fault.UnitFault.{UnitFault}
use Rattle.sms_tpdu.specs.declared.fault.UnitFault.TheVariants.{Short}

-- ---- the octets that follow the first

further_self : {W : Type 0} (short : W) (more : Bool) → IsSelfContained (further short more)
further_self short more value octets rest other p = p

further_starts : {W : Type 0} (short : W) (more : Bool) → CanContinue (further short more) []
further_starts short false = record { more = []; are_octets = tt; reading = record { value = tt; octets = []; rest = []; parts = refl; read = refl } }
further_starts short true = record { more = 0 ∷ []; are_octets = (lit< tt, tt); reading = record { value = tt; octets = 0 ∷ []; rest = []; parts = refl; read = refl } }

none_of_nothing : (octets rest : List ℕ) → [] ≡ octets ++ rest → AreFurther true octets → ⊥
none_of_nothing [] rest e p = p
none_of_nothing (o ∷ octets) rest e p = absurd cc

-- after an octet the others are read
record AfterFirst (octet : ℕ) (xs octets rest : List ℕ) : Type 0 where
  others : List ℕ
  whole : octets ≡ octet ∷ others
  split : xs ≡ others ++ rest
  are : AreFurther (bit 7 octet) others

after_first : (octet : ℕ) (xs octets rest : List ℕ) → octet ∷ xs ≡ octets ++ rest → AreFurther true octets → AfterFirst octet xs octets rest
after_first octet xs [] rest e p = absurd p
after_first octet xs (o ∷ others) rest e p =
    let same : o ≡ octet = cc in
    record { others = others; whole = ap (λ (n : ℕ). n ∷ others) same; split = cc; are = subst (λ (n : ℕ). AreFurther (bit 7 n) others) same p }

module _ {W : Type 0} (short : W) (octet : ℕ) where
  inner : (xs : List ℕ) → HasReading (further short true) (octet ∷ xs) → HasReading (further short (bit 7 octet)) xs
  inner xs r =
      let h = after_first octet xs r.octets r.rest r.parts r.read in
      record { value = tt; octets = h.others; rest = r.rest; parts = h.split; read = h.are }

  outer : (xs : List ℕ) → HasReading (further short (bit 7 octet)) xs → HasReading (further short true) (octet ∷ xs)
  outer xs r = record { value = tt; octets = octet ∷ r.octets; rest = r.rest; parts = ap (λ (l : List ℕ). octet ∷ l) r.parts; read = r.read }

  inner_goes_on : (front : List ℕ) → CanContinue (further short true) (octet ∷ front) → CanContinue (further short (bit 7 octet)) front
  inner_goes_on front c = record { more = c.more; are_octets = c.are_octets; reading = inner (front ++ c.more) c.reading }

  outer_goes_on : (front : List ℕ) → CanContinue (further short (bit 7 octet)) front → CanContinue (further short true) (octet ∷ front)
  outer_goes_on front c = record { more = c.more; are_octets = c.are_octets; reading = outer (front ++ c.more) c.reading }

  after_first_answers : (at : ℕ) (xs : List ℕ) (o : Outcome (Unit {0}) W) → IsAnswer short (further short (bit 7 octet)) (at + 1) xs o → IsAnswer short (further short true) at (octet ∷ xs) o
  after_first_answers at xs (found v after rest) h = record {
    octets = octet ∷ h.octets;
    parts = ap (λ (l : List ℕ). octet ∷ l) h.parts;
    after_is = omega (arith, h.after_is);
    read = h.read;
    only = λ other others left e p.
        let b = after_first octet xs others left e p in
        let one = h.only other b.others left b.split b.are in
        (one.0, b.whole ∙ ap (λ (l : List ℕ). octet ∷ l) one.1);
  }
  after_first_answers at xs (refused place why) (inl h) = inl (record {
    why_is = h.why_is;
    place_is = omega (arith, h.place_is);
    none = λ r. h.none (inner xs r);
    some = outer_goes_on xs h.some;
  })
  after_first_answers at xs (refused place why) (inr h) = inr (record {
    front = octet ∷ h.front;
    octet = h.octet;
    rest = h.rest;
    parts = ap (λ (l : List ℕ). octet ∷ l) h.parts;
    place_is = omega (arith, h.place_is);
    before = outer_goes_on h.front h.before;
    none_after = λ c. h.none_after (inner_goes_on (h.front ++ (h.octet ∷ [])) c);
    reason = h.reason;
  })

further_answers : {W : Type 0} (short : W) (more : Bool) (at : ℕ) (input : List ℕ) → IsOctets input → IsAnswer short (further short more) at input (further_at short more at input)
further_answers short false at input fits = record { octets = []; parts = refl; after_is = omega arith; read = refl; only = λ other others left e p. (refl, p) }
further_answers short true at [] fits = inl (record {
  why_is = refl;
  place_is = omega arith;
  none = λ r. none_of_nothing r.octets r.rest r.parts r.read;
  some = further_starts short true;
})
further_answers short true at (octet ∷ rest) fits = after_first_answers short octet at rest (further_at short (bit 7 octet) (at + 1) rest) (further_answers short (bit 7 octet) (at + 1) rest fits.1)

further_lawful : {W : Type 0} (short : W) (more : Bool) → IsLawful short (further short more)
further_lawful short more = record { starts = further_starts short more; answers = further_answers short more; never_short = λ front octet r. r }

-- ---- the whole indicator

pub indicator_self : IsSelfContained indicator
unfolding indicator
indicator_self =
    chain_self_contained _ _ (octet_self Short) (λ first.
    chain_self_contained _ _ (further_self Short (bit 7 first)) (λ skipped.
    always_self UnitFault _))

pub indicator_lawful : IsLawful Short indicator
unfolding indicator
indicator_lawful =
    chain_lawful _ _ Short (octet_self Short) (octet_lawful Short) (λ first _ _ _.
    chain_lawful _ _ Short (further_self Short (bit 7 first)) (further_lawful Short (bit 7 first)) (λ skipped _ _ _.
    always_lawful Short _))

-- ---- what is written

pub record IsIndicatorOctet (there : Indicator) (octet : ℕ) : Type 0 where
  pub again : there ≡ indicated octet
  pub alone : bit 7 octet ≡ false
  pub small : octet < 256

pub indicator_is : (there : Indicator) → IsIndicatorOctet there (indicator_octet there)
indicator_is there =
    let bits = summed_bits there.pid there.dcs there.user false false false false false (indicator_octet there) (omega arith) in
    record { again = rw (bits.bit_0, bits.bit_1, bits.bit_2) refl; alone = bits.bit_7; small = bits.small }

pub indicator_again : (there : Indicator) (rest : List ℕ) → indicator.reads there (indicator_octet there ∷ []) rest
unfolding indicator
indicator_again there rest =
    let h = indicator_is there in
    let alone : AreFurther (bit 7 (indicator_octet there)) [] = subst (λ (b : Bool). AreFurther b []) (sym h.alone) refl in
    chained _ _ (indicator_octet there) _ (indicator_octet there ∷ []) [] rest refl (
    ended _ _ tt _ [] rest alone
    (h.again, refl))
