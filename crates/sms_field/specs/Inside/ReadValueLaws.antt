-- A reader may pass this by: lemmas, for the proofs of this crate and of those above it.
--
-- What is known of the values of chains and single fields.
use Rattle.std.proofs.Common.{ℕ, Bool, true, false, List, ◌++◌, Option, Some, None, sym, subst}
use Rattle.std.specs.Prelude.{IfSome}
use Rattle.sms_text.specs.Octets.{IsOctets}
use Rattle.sms_field.specs.Inside.OctetLists.{octets_back, octets_front}
use Rattle.sms_field.specs.Field.{Field, ◌>>=◌, always, octets_of, map_reason}
use Rattle.sms_field.specs.Field.Mapped.{mapped}
use Rattle.sms_field.specs.Field.Optional.{part_if, tagged}
use Rattle.sms_field.specs.Reading.{Reads}
use Rattle.sms_field.specs.Reading.Values.{Has, Any, AreOptionalOctets}

pub has_chain : {A B W : Type 0} (Q : A → Type 0) (P : B → Type 0) (first : Field A W) (second : A → Field B W) → Has Q first → ((a : A) → Q a → Has P (second a)) → Has P (first >>= second)
has_chain Q P first second n m = λ v octets rest are r.
    let parts : IsOctets (r.front ++ r.back) = subst IsOctets r.parts are in
    m r.choice (n r.choice r.front (r.back ++ rest) (octets_front r.front r.back parts) r.of_first) v r.back rest (octets_back r.front r.back parts) r.of_second

pub has_any : {V W : Type 0} (f : Field V W) → Has Any f
has_any f = λ v octets rest are r. tt

pub has_always : {V : Type 0} (W : Type 0) (P : V → Type 0) (v : V) → P v → Has P (always {V = V} {W = W} v)
has_always W P v h = λ other octets rest are r. subst P (sym r.0) h

pub has_octets : {W : Type 0} (short : W) (n : ℕ) → Has IsOctets (octets_of short n)
has_octets short n = λ v octets rest are r. subst IsOctets r.0 are

pub has_map_reason : {V W X : Type 0} (P : V → Type 0) (name : W → X) (f : Field V W) → Has P f → Has P (map_reason name f)
has_map_reason P name f h = h

pub has_mapped : {V X W : Type 0} (Q : V → Type 0) (P : X → Type 0) (make : V → X) (f : Field V W) → Has Q f → ((v : V) → Q v → P (make v)) → Has P (mapped make f)
has_mapped Q P make f n m = λ v octets rest are r. subst P (sym r.2) (m r.0 (n r.0 octets rest are r.1))

pub has_part : {V W : Type 0} (P : V → Type 0) (there : Bool) (part : Field V W) → Has P part → Has (λ (o : Option V). IfSome o P) (part_if there part)
has_part {V} {W} P false part h = has_always W (λ (o : Option V). IfSome o P) None tt
has_part {V} {W} P true part h = has_chain P (λ (o : Option V). IfSome o P) _ _ h (λ value p. has_always W (λ (o : Option V). IfSome o P) (Some value) p)

has_tagged_by : {W : Type 0} (tag : ℕ) (f : Field (List ℕ) W) → Has IsOctets f → (o : Option (List ℕ)) (octets rest : List ℕ) → IsOctets octets → (tagged tag f).reads o octets rest → AreOptionalOctets o
has_tagged_by tag f n None octets rest are r = tt
has_tagged_by tag f n (Some v) octets rest are r = n v r.0 rest (subst IsOctets r.1 are).1 r.2

pub has_tagged : {W : Type 0} (tag : ℕ) (f : Field (List ℕ) W) → Has IsOctets f → Has AreOptionalOctets (tagged tag f)
has_tagged tag f n = has_tagged_by tag f n

-- so what is read from an input of octets has the property
pub read_has : {V W : Type 0} (P : V → Type 0) (f : Field V W) → Has P f → (value : V) (input : List ℕ) (used : ℕ) → IsOctets input → Reads f value input used → P value
read_has P f h value input used are r = h value r.octets r.rest (octets_front r.octets r.rest (subst IsOctets r.parts are)) r.read
