-- A reader may pass this by: lemmas, for the proofs of this crate and of those above it.
--
-- What has a reading is refused only for want of memory.
use Rattle.std.proofs.Common.{◌≡◌, ℕ, List, refl, sym, subst}
use Rattle.sms_field.specs.declared.refusal.Refusal.{Refusal}
use Rattle.sms_field.specs.declared.refusal.Refusal.TheVariants.{Memory, At}
use Rattle.sms_text.specs.Octets.{IsOctets}
use Rattle.sms_field.specs.Field.{Field}
use Rattle.sms_field.specs.Reading.{Reads, IsRefused}
use Rattle.sms_field.specs.Inside.ReadableLaws.{reading_of, unread}

pub only_memory : {V W : Type 0} (f : Field V W) (short : W) (octets input : List ℕ) (v : V) (used : ℕ) → IsOctets octets → input ≡ octets → Reads f v octets used → (e : Refusal W) → IsRefused f short input e → e ≡ Memory
only_memory f short octets input v used fits same read Memory h = refl
only_memory f short octets input v used fits same read (At place why) h =
    absurd (unread f short input place why (subst IsOctets (sym same) fits) h (reading_of f input v used (subst (λ (l : List ℕ). Reads f v l used) (sym same) read)))
