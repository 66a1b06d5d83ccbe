-- A reader may pass this by: lemmas, for the proofs of this crate and of those above it.
--
-- Reasons that a chain never has; and where a reason of the first octet alone is given.
use Rattle.std.proofs.Common.{◌≡◌, ⊎_elim, ℕ, Bool, true, false, cond, List, [], ◌∷◌, ◌++◌, Result, Ok, Err, refl, sym, ap, subst, ◌∙◌}
use Rattle.std.specs.Prelude.{nat_le}
use Rattle.sms_field.specs.Field.{Field, HasReading, CanContinue, ◌>>=◌, always, octet, octet_by, octets_of, map_reason, up_to}
use Rattle.sms_field.specs.Field.Mapped.{mapped}
use Rattle.sms_field.specs.Field.Optional.{part_if, tagged}
use Rattle.sms_field.specs.Reading.{IsRefused}
use Rattle.sms_field.specs.Reading.Reasons.{Never, StartsAs}
use Rattle.sms_field.specs.declared.refusal.Refusal.TheVariants.{At}

-- ---- a reason that a field never has

pub never_chain : {A B W : Type 0} (why : W) (first : Field A W) (second : A → Field B W) → Never why first → ((a : A) → Never why (second a)) → Never why (first >>= second)
never_chain why first second n m = λ front octet h. ⊎_elim (λ r. n front octet r.reason) (λ r. m r.reading.value r.reading.rest octet r.reason) h

pub never_by : {V W : Type 0} (why short : W) (meaning : ℕ → Result V W) → ((o : ℕ) → meaning o ≡ Err why → ⊥) → Never why (octet_by short meaning)
never_by why short meaning n = λ front octet h. n octet h

pub never_octet : {W : Type 0} (why short : W) → Never why (octet short)
never_octet why short = λ front octet h. h

pub never_octets : {W : Type 0} (why short : W) (n : ℕ) → Never why (octets_of short n)
never_octets why short n = λ front octet h. h

pub never_always : {V W : Type 0} (why : W) (v : V) → Never why (always {V = V} {W = W} v)
never_always why v = λ front octet h. h

pub never_map_reason : {V W X : Type 0} (why : X) (name : W → X) (f : Field V W) → ((w : W) → why ≡ name w → ⊥) → Never why (map_reason name f)
never_map_reason why name f n = λ front octet h. n h.0 h.2

pub never_mapped : {V X W : Type 0} (why : W) (make : V → X) (f : Field V W) → Never why f → Never why (mapped make f)
never_mapped why make f n = n

pub never_part : {V W : Type 0} (why : W) (there : Bool) (part : Field V W) → Never why part → Never why (part_if there part)
never_part why false part n = λ front octet h. h
never_part why true part n = never_chain why _ _ n (λ value. λ front octet h. h)

never_after_tag : {V W : Type 0} (why : W) (tag : ℕ) (f : Field V W) → Never why f → (front : List ℕ) (octet : ℕ) → (tagged tag f).reason front octet why → ⊥
never_after_tag why tag f n [] octet h = h
never_after_tag why tag f n (first ∷ front) octet h = n front octet h

pub never_tagged : {V W : Type 0} (why : W) (tag : ℕ) (f : Field V W) → Never why f → Never why (tagged tag f)
never_tagged why tag f n = never_after_tag why tag f n

up_to_by : {W : Type 0} (why other : W) (b : Bool) (o : ℕ) → (other ≡ why → ⊥) → cond b (Ok o) (Err why) ≡ Err other → ⊥
up_to_by why other true o n e = cc
up_to_by why other false o n e = n cc

-- a limit is given as its own reason alone
pub up_to_apart : {W : Type 0} (why other : W) (limit o : ℕ) → (other ≡ why → ⊥) → up_to limit why o ≡ Err other → ⊥
up_to_apart why other limit o n e = up_to_by why other (nat_le o limit) o n e

-- ---- the first octet

record IsMeant {A W : Type 0} (meaning : ℕ → Result A W) (octet : ℕ) : Type 0 where
  choice : A
  is : meaning octet ≡ Ok choice

-- what is read has a first octet with a meaning
first_meant : {A B W : Type 0} (short : W) (meaning : ℕ → Result A W) (second : A → Field B W) (octet : ℕ) (input : List ℕ)
    → HasReading (octet_by short meaning >>= second) (octet ∷ input) → IsMeant meaning octet
first_meant short meaning second octet input r =
    let b = r.read in
    let e : octet ∷ input ≡ b.of_first.0 ∷ (b.back ++ r.rest) = r.parts ∙ ap (λ (l : List ℕ). l ++ r.rest) (b.parts ∙ ap (λ (l : List ℕ). l ++ b.back) b.of_first.1) in
    let same : octet ≡ b.of_first.0 = cc in
    record { choice = b.choice; is = ap meaning same ∙ b.of_first.2 }

-- a first octet that is refused is not read
pub starts_apart : {A B W : Type 0} (short why : W) (meaning : ℕ → Result A W) (second : A → Field B W) (input : List ℕ) → StartsAs meaning why input → ¬ HasReading (octet_by short meaning >>= second) input
starts_apart short why meaning second [] s = λ r. s
starts_apart short why meaning second (o ∷ input) s = λ r.
    let m = first_meant short meaning second o input r in
    let e : Err why ≡ Ok m.choice = sym s ∙ m.is in
    absurd cc

continued_meant : {A B W : Type 0} (short : W) (meaning : ℕ → Result A W) (second : A → Field B W) (octet : ℕ) (input : List ℕ) → CanContinue (octet_by short meaning >>= second) (octet ∷ input) → IsMeant meaning octet
continued_meant short meaning second octet input v = first_meant short meaning second octet (input ++ v.more) v.reading

none_continues : {A B W : Type 0} (short why : W) (meaning : ℕ → Result A W) (second : A → Field B W) (input : List ℕ) → StartsAs meaning why input → ¬ CanContinue (octet_by short meaning >>= second) input
none_continues short why meaning second [] s = λ v. s
none_continues short why meaning second (o ∷ input) s = λ v.
    let m = continued_meant short meaning second o input v in
    let e : Err why ≡ Ok m.choice = sym s ∙ m.is in
    absurd cc

-- a reason that only the first octet has
starts_at : {A B W : Type 0} (short why : W) (meaning : ℕ → Result A W) (second : A → Field B W) (front : List ℕ) (octet : ℕ) (rest : List ℕ) → ((a : A) → Never why (second a))
    → CanContinue (octet_by short meaning >>= second) front → (octet_by short meaning >>= second).reason front octet why → StartsAs meaning why (front ++ octet ∷ rest)
starts_at short why meaning second [] octet rest never before because =
    ⊎_elim {C = StartsAs meaning why (octet ∷ rest)} (λ r. r.reason) (λ r. absurd (never r.reading.value r.reading.rest octet r.reason)) because
starts_at short why meaning second (o ∷ front) octet rest never before because =
    let m = continued_meant short meaning second o front before in
    ⊎_elim {C = StartsAs meaning why (o ∷ (front ++ octet ∷ rest))}
    (λ r. absurd (r.none (record { value = m.choice; octets = o ∷ []; rest = front; parts = refl; read = (o, refl, m.is) })))
    (λ r. absurd (never r.reading.value r.reading.rest octet r.reason)) because

pub starts_as : {A B W : Type 0} (short why : W) (meaning : ℕ → Result A W) (second : A → Field B W) (input : List ℕ) (place : ℕ) → (why ≡ short → ⊥) → ((a : A) → Never why (second a))
    → IsRefused (octet_by short meaning >>= second) short input (At place why) → StartsAs meaning why input
starts_as short why meaning second input place apart never h =
    let b = h.1 apart in
    subst (StartsAs meaning why) (sym b.parts) (starts_at short why meaning second b.front b.octet b.rest never b.before b.reason)

-- where the first octet has no meaning, that is the reason
no_other_at : {A B W : Type 0} (short why other : W) (meaning : ℕ → Result A W) (second : A → Field B W) (front : List ℕ) (octet : ℕ) (rest : List ℕ) → StartsAs meaning why (front ++ octet ∷ rest) → (other ≡ why → ⊥)
    → CanContinue (octet_by short meaning >>= second) front → (octet_by short meaning >>= second).reason front octet other → ⊥
no_other_at short why other meaning second [] octet rest s n before because =
    ⊎_elim {C = ⊥} (λ r. n (let e : Err other ≡ Err why = sym r.reason ∙ s in cc))
    (λ r. let h = r.reading in let e : [] ≡ h.read.0 ∷ h.rest = h.parts ∙ ap (λ (l : List ℕ). l ++ h.rest) h.read.1 in absurd cc) because
no_other_at short why other meaning second (o ∷ front) octet rest s n before because =
    let m = continued_meant short meaning second o front before in
    let e : Err why ≡ Ok m.choice = sym s ∙ m.is in
    absurd cc

pub no_other : {A B W : Type 0} (short why other : W) (meaning : ℕ → Result A W) (second : A → Field B W) (input : List ℕ) (place : ℕ) → (other ≡ why → ⊥)
    → IsRefused (octet_by short meaning >>= second) short input (At place other) → ¬ StartsAs meaning why input
no_other short why other meaning second input place n h = λ s.
    let named : other ≡ short → ⊥ = λ is. none_continues short why meaning second input s (h.0 is).some in
    let b = h.1 named in
    no_other_at short why other meaning second b.front b.octet b.rest (subst (StartsAs meaning why) b.parts s) n b.before b.reason
