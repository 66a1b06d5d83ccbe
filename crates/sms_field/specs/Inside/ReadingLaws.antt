-- A reader may pass this by: lemmas, for the proofs of this crate and of those above it.
--
-- What a lawful field promises of a reader that answers as its plain reader does.
use Rattle.std.proofs.Common.{◌≡◌, ℕ, ◌<◌, List, length, Ok, Err, refl, sym, ap, subst, ◌∙◌, arith, inl, inr, get_or}
use Rattle.sms_field.specs.declared.refusal.Refusal.{Refusal}
use Rattle.sms_field.specs.declared.refusal.Refusal.TheVariants.{Memory, At}
use Rattle.sms_text.specs.Octets.{IsOctets}
use Rattle.sms_field.specs.Field.{found, refused, Field, IsAnswer, IsLawful}
use Rattle.sms_field.specs.Reading.{Reads, IsRefused}
use Rattle.sms_field.specs.Reading.Answer.{Refuses, Takes}
use Rattle.sms_field.specs.Reading.Spot.{Spot}
use Rattle.sms_field.specs.Inside.OctetLists.{octets_are}
use Rattle.sms_field.specs.Inside.ChainLaws.{agree}
use Rattle.sms_field.specs.Inside.ReadableLaws.{reading_of, unread}

module _ {V W : Type 0} (f : Field V W) where
  pub one_reading : (short : W) → IsLawful short f → (v w : V) (input : List ℕ) (m n : ℕ) → IsOctets input → Reads f v input m → Reads f w input n → (w ≡ v) × (n ≡ m)
  one_reading short law v w input m n fits p q =
      let h = agree short f law v w p.octets q.octets p.rest q.rest (subst IsOctets p.parts fits) p.read q.read (sym p.parts ∙ q.parts) in
      (h.0, q.used_is ∙ ap length h.1 ∙ sym p.used_is)

  pub found_is_read : (short : W) (input : List ℕ) (v : V) (after : ℕ) (rest : List ℕ) → IsAnswer short f 0 input (found v after rest) → Reads f v input after
  found_is_read short input v after rest h = record { octets = h.octets; rest = rest; parts = h.parts; used_is = omega (arith, h.after_is); read = h.read }

  pub refused_is : (short : W) → ((front : List ℕ) (octet : ℕ) → f.reason front octet short → ⊥) → (input : List ℕ) (place : ℕ) (why : W) → IsAnswer short f 0 input (refused place why) → IsRefused f short input (At place why)
  refused_is short never input place why (inl h) = ((λ same. h), (λ other. absurd (other h.why_is)))
  refused_is short never input place why (inr h) = ((λ same. absurd (never h.front h.octet (subst (λ (w : W). f.reason h.front h.octet w) same h.reason))), (λ other. h))

  -- what reading from the start of the input gave
  pub promise_found : (short : W) (law : IsLawful short f) (input : List ℕ) (fits : (i : ℕ) → get_or input i 0 < 256) (at : ℕ) (start : List ℕ) → at ≡ 0 → start ≡ input → (v : V) (after : ℕ) (rest : List ℕ) → f.read at start ≡ found v after rest → Reads f v input after
  promise_found short law input fits at start at_is start_is v after rest e =
      let whole : f.read 0 input ≡ found v after rest = ap (f.read 0) (sym start_is) ∙ ap (λ (k : ℕ). f.read k start) (sym at_is) ∙ e in
      found_is_read short input v after rest (subst (IsAnswer short f 0 input) whole (law.answers 0 input (octets_are input fits)))

  pub promise_refused : (short : W) (law : IsLawful short f) (input : List ℕ) (fits : (i : ℕ) → get_or input i 0 < 256) (at : ℕ) (start : List ℕ) → at ≡ 0 → start ≡ input → (e : Refusal W) → Refuses e (f.read at start) → IsRefused f short input e
  promise_refused short law input fits at start at_is start_is Memory h = tt
  promise_refused short law input fits at start at_is start_is (At place why) h =
      let whole : f.read 0 input ≡ refused place why = ap (f.read 0) (sym start_is) ∙ ap (λ (k : ℕ). f.read k start) (sym at_is) ∙ h in
      refused_is short law.never_short input place why (subst (IsAnswer short f 0 input) whole (law.answers 0 input (octets_are input fits)))

-- What a reader from the start of an input answered, against what is read.
module _ {V W : Type 0} (f : Field V W) (short : W) (law : IsLawful short f) (input : List ℕ) (fits : (i : ℕ) → get_or input i 0 < 256) (start next : Spot) (at : start.place ≡ 0) (whole : start.rest ≡ input) where
  pub read_found : (v : V) (used : ℕ) → used ≡ next.place → Takes f start (Ok v) next → Reads f v input used
  read_found v used is e = subst (Reads f v input) (sym is) (promise_found f short law input fits start.place start.rest at whole v next.place next.rest e)

  pub read_refused : (e : Refusal W) → Takes f start (Err e) next → IsRefused f short input e
  read_refused e r = promise_refused f short law input fits start.place start.rest at whole e r

  -- what has a reading is refused only for want of memory
  pub read_exact : (v w : V) (n used : ℕ) → Reads f v input n → used ≡ next.place → Takes f start (Ok w) next → (w ≡ v) × (used ≡ n)
  read_exact v w n used r is e = one_reading f short law v w input n used (octets_are input fits) r (read_found w used is e)

  pub refused_without : (v : V) (n : ℕ) → Reads f v input n → (e : Refusal W) → Takes f start (Err e) next → e ≡ Memory
  refused_without v n r Memory e = refl
  refused_without v n r (At place why) e = absurd (unread f short input place why (octets_are input fits) (read_refused (At place why) e) (reading_of f input v n r))
