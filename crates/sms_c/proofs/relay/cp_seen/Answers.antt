use Rattle.std.proofs.Common.{◌≡◌, ℕ, List, Option, refl, sym, ap, subst, ◌∙◌}
use Rattle.sms_field.specs.Reading.{Reads}
use Rattle.sms_relay.specs.Cp.{cp_message}
use Rattle.sms_relay.specs.Cp.Seen.{seen_cp_body}
use Rattle.sms_relay.specs.Cp.Value.{CpValue}
use Rattle.sms_c.specs.SeenRelay.{LieLast, span_before, cp_user, ShowsCp}
use Rattle.sms_c.specs.declared.parts.Span.{Span}
use Rattle.sms_c.specs.declared.relay.CpSeen.{CpSeen}
use Rattle.sms_c.proofs.RelaySpans.{cp_user_lies}
use Rattle.sms_c.proofs.relay.cp_seen.Goals as goal

of_same : (value other : CpValue) (octets : List ℕ) (seen : CpSeen) → value ≡ other → ShowsCp value octets seen → ShowsCp other octets seen
of_same value other octets seen same shows = subst (λ (x : CpValue). ShowsCp x octets seen) same shows

pub returns-clause-shows : goal.returns-clause-shows
returns-clause-shows c octets r =
    let reads = subst (λ (x : CpValue). Reads cp_message x octets c.args.used) (sym c.view.view_is) r in
    let span = c.span_before.ensures ∙ ap (λ (n : Option ℕ). span_before c.args.used n) c.cp_user_length-length.ensures in
    of_same _ _ _ _ c.view.view_is (record {
      flag = c.bit.ensures;
      transaction = refl;
      kind = c.cp_kind_and_cause-kind.ensures.kind;
      cause = c.cp_kind_and_cause-kind.ensures.cause;
      user = subst (λ (s : Span). LieLast (cp_user (seen_cp_body c.view.inside.body)) octets c.args.used s) (sym span) (cp_user_lies _ octets c.args.used reads);
    })
