-- The submission of a segment of a typed text (3GPP TS 23.040, 9.2.2.2).
use Rattle.std.specs.Prelude.{ℕ, ◌+◌, ◌-◌, ◌%◌, Bool, false, [], length, get_or}
use Rattle.sms_field.specs.declared.validity.Validity.TheVariants.{Absent}
use Rattle.sms_tpdu.specs.Submit.{Submission}
use Rattle.sms_join.specs.declared.units.Units.{Units}
use Rattle.sms_join.specs.declared.units.Units.TheVariants.{Gsm}
use Rattle.sms_join.specs.Segments.User.{dcs_of, user_of}
use Rattle.sms_party.specs.Sender.Texts.{Text}

-- the units of the segment; segments count from 1
abbrev pub piece_of : Text → ℕ → Units
piece_of t s = get_or t.pieces (s - 1) (Gsm [])

-- Neither validity period, report nor reply path; message references of a text's segments follow
-- one another.
unfoldable pub submission_of : Text → ℕ → Bool → Submission
submission_of t s reject =
    record {
      reject = reject;
      validity = Absent;
      report = false;
      reply = false;
      reference = (t.first_reference + (s - 1)) % 256;
      target = t.target;
      pid = 0;
      dcs = dcs_of (piece_of t s);
      user =
          user_of t.width t.set_reference
          (record { units = piece_of t s; maximum = length t.pieces; sequence = s });
    }
