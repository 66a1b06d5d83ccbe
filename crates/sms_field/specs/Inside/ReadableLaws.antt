-- A reader may pass this by: lemmas, for the proofs of this crate and of those above it.
--
-- What has a reading and what has none.
use Rattle.std.proofs.Common.{◌≡◌, ◌⊎◌, inl, inr, ⊎_elim, ℕ, List, [], ◌∷◌, ◌++◌, length, refl, sym, ◌∙◌, subst}
use Rattle.std.proofs.lemmas.List.{append_assoc}
use Rattle.sms_text.specs.Octets.{IsOctets}
use Rattle.sms_field.specs.Inside.OctetLists.{octets_back}
use Rattle.sms_field.specs.Field.{Field, Outcome, found, refused, HasReading, IsFault, IsAnswer, IsLawful}
use Rattle.sms_field.specs.Reading.{Reads}
use Rattle.sms_field.specs.Reading.Readable.{IsDecided, IsUnread}

-- what is read is a reading
pub reading_of : {V W : Type 0} (f : Field V W) (input : List ℕ) (v : V) (used : ℕ) → Reads f v input used → HasReading f input
reading_of f input v used r = record { value = v; octets = r.octets; rest = r.rest; parts = r.parts; read = r.read }

pub read_as : {V W : Type 0} (f : Field V W) (input : List ℕ) (r : HasReading f input) → Reads f r.value input (length r.octets)
read_as f input r = record { octets = r.octets; rest = r.rest; parts = r.parts; used_is = refl; read = r.read }

-- an input with a fault has no reading
pub fault_unread : {V W : Type 0} (f : Field V W) (at : ℕ) (input : List ℕ) (place : ℕ) (why : W) → IsOctets input → IsFault f at input place why → ¬ HasReading f input
fault_unread f at input place why are b = λ r.
    let whole : (b.front ++ b.octet ∷ []) ++ b.rest ≡ input = append_assoc b.front (b.octet ∷ []) b.rest ∙ sym b.parts in
    b.none_after (record {
      more = b.rest;
      are_octets = octets_back (b.front ++ b.octet ∷ []) b.rest (subst IsOctets (sym whole) are);
      reading = record { value = r.value; octets = r.octets; rest = r.rest; parts = whole ∙ r.parts; read = r.read };
    })

by_answer : {V W : Type 0} (short : W) (f : Field V W) (input : List ℕ) → IsOctets input → (o : Outcome V W) → IsAnswer short f 0 input o → HasReading f input ⊎ ¬ HasReading f input
by_answer short f input are (found value after rest) h = inl (record { value = value; octets = h.octets; rest = rest; parts = h.parts; read = h.read })
by_answer short f input are (refused place why) h = inr (λ r. ⊎_elim {C = ⊥} (λ s. s.none r) (λ b. fault_unread f 0 input place why are b r) h)

pub decided : {V W : Type 0} (short : W) (f : Field V W) → IsLawful short f → IsDecided f
decided short f lawful input are = by_answer short f input are (f.read 0 input) (lawful.answers 0 input are)

pub unread : {V W : Type 0} (f : Field V W) (short : W) → IsUnread f short
unread f short input place why are h = λ r.
    let named : why ≡ short → ⊥ = λ is. (h.0 is).none r in
    fault_unread f 0 input place why are (h.1 named) r
