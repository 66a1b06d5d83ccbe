use Rattle.std.proofs.Common.{◌≡◌, ℕ, List, length, Option, Some, None, is_some, option_map, refl, sym, ap, subst, ◌∙◌}
use Rattle.std.specs.Prelude.{unwrap_or}
use Rattle.sms_field.specs.Reading.{Reads}
use Rattle.sms_relay.specs.Rp.{rp_message}
use Rattle.sms_relay.specs.Rp.Seen.{seen_rp_body}
use Rattle.sms_relay.specs.Rp.Value.{RpValue}
use Rattle.sms_c.specs.Parts.{bit}
use Rattle.sms_c.specs.SeenRelay.{LieLast, span_before, rp_user, ShowsRp}
use Rattle.sms_c.specs.declared.parts.Span.{Span}
use Rattle.sms_c.specs.declared.relay.RpSeen.{RpSeen}
use Rattle.sms_c.proofs.RelaySpans.{rp_user_lies, rp_address_lies}
use Rattle.sms_c.proofs.relay.rp_seen.Goals as goal

of_same : (value other : RpValue) (octets : List ℕ) (seen : RpSeen) → value ≡ other → ShowsRp value octets seen → ShowsRp other octets seen
of_same value other octets seen same shows = subst (λ (x : RpValue). ShowsRp x octets seen) same shows

has_length : (user : Option (List ℕ)) (size : Option ℕ) → size ≡ option_map (λ (l : List ℕ). length l) user → bit (is_some size) ≡ bit (is_some user)
has_length None size is = ap (λ (n : Option ℕ). bit (is_some n)) is
has_length (Some user) size is = ap (λ (n : Option ℕ). bit (is_some n)) is

pub returns-clause-shows : goal.returns-clause-shows
returns-clause-shows c =
    let reads = subst (λ (x : RpValue). Reads rp_message x c.args.octets.now c.args.used) (sym c.view.view_is) c.requires in
    let there = c.has_address-addressed.ensures in
    let span = c.span_before.ensures ∙ ap (λ (n : Option ℕ). span_before c.args.used n) c.rp_user_length-length.ensures in
    of_same _ _ _ _ c.view.view_is (record {
      side = c.side_number.ensures;
      reference = refl;
      kind = c.rp_kind_and_cause-kind.ensures.kind;
      cause = c.rp_kind_and_cause-kind.ensures.cause;
      has_diagnostic = c.octet_seen-has_diagnostic.ensures.there ∙ ap (λ (d : Option ℕ). bit (is_some d)) c.rp_kind_and_cause-kind.ensures.diagnostic;
      diagnostic = c.octet_seen-has_diagnostic.ensures.value ∙ ap (λ (d : Option ℕ). unwrap_or d 0) c.rp_kind_and_cause-kind.ensures.diagnostic;
      has_address = c.bit.ensures ∙ ap bit there;
      address = rp_address_lies _ c.args.octets.now c.args.used c.address_span.result reads (λ e. c.address_span.ensures.none (there ∙ e)) (λ e. c.address_span.ensures.begins (there ∙ e)) (λ e. c.address_span.ensures.takes (there ∙ e));
      has_user = c.bit-2.ensures ∙ ap bit c.is_some.ensures ∙ has_length (rp_user (seen_rp_body c.view.inside.body)) _ c.rp_user_length-length.ensures;
      user = subst (λ (s : Span). LieLast (rp_user (seen_rp_body c.view.inside.body)) c.args.octets.now c.args.used s) (sym span) (rp_user_lies _ c.args.octets.now c.args.used reads);
    })
