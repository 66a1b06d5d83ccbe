-- A reader may pass this by: lemmas, for the proofs of this crate and of those above it.
--
-- A field whose values are made of those of a lawful one is lawful.
use Rattle.std.proofs.Common.{ℕ, List, ◌∷◌, [], ◌++◌, refl, ap, ◌∙◌, inl, inr}
use Rattle.sms_field.specs.Field.{Outcome, found, refused, Field, HasReading, CanContinue, IsAnswer, IsLawful}
use Rattle.sms_field.specs.Field.Mapped.{mapped_outcome, mapped}

module _ {V X W : Type 0} (short : W) (make : V → X) (f : Field V W) (law : IsLawful short f) where
  mapped_reading : (input : List ℕ) → HasReading f input → HasReading (mapped make f) input
  mapped_reading input r = record { value = make r.value; octets = r.octets; rest = r.rest; parts = r.parts; read = (r.value, r.read, refl) }

  reading_mapped : (input : List ℕ) → HasReading (mapped make f) input → HasReading f input
  reading_mapped input r = record { value = r.read.0; octets = r.octets; rest = r.rest; parts = r.parts; read = r.read.1 }

  mapped_goes_on : (front : List ℕ) → CanContinue f front → CanContinue (mapped make f) front
  mapped_goes_on front c = record { more = c.more; are_octets = c.are_octets; reading = mapped_reading (front ++ c.more) c.reading }

  goes_on_mapped : (front : List ℕ) → CanContinue (mapped make f) front → CanContinue f front
  goes_on_mapped front c = record { more = c.more; are_octets = c.are_octets; reading = reading_mapped (front ++ c.more) c.reading }

  mapped_answers : (at : ℕ) (input : List ℕ) (o : Outcome V W) → IsAnswer short f at input o → IsAnswer short (mapped make f) at input (mapped_outcome make o)
  mapped_answers at input (found value after rest) h = record {
    octets = h.octets;
    parts = h.parts;
    after_is = h.after_is;
    read = (value, h.read, refl);
    only = λ other others left e p. let one = h.only p.0 others left e p.1 in (p.2 ∙ ap make one.0, one.1);
  }
  mapped_answers at input (refused place why) (inl h) = inl (record {
    why_is = h.why_is;
    place_is = h.place_is;
    none = λ r. h.none (reading_mapped input r);
    some = mapped_goes_on input h.some;
  })
  mapped_answers at input (refused place why) (inr h) = inr (record {
    front = h.front;
    octet = h.octet;
    rest = h.rest;
    parts = h.parts;
    place_is = h.place_is;
    before = mapped_goes_on h.front h.before;
    none_after = λ c. h.none_after (goes_on_mapped (h.front ++ (h.octet ∷ [])) c);
    reason = h.reason;
  })

  pub mapped_lawful : IsLawful short (mapped make f)
  mapped_lawful = record {
    starts = mapped_goes_on [] law.starts;
    answers = λ at input fits. mapped_answers at input (f.read at input) (law.answers at input fits);
    never_short = law.never_short;
  }
