use Rattle.std.proofs.Common.{arith, ◌∙◌, sym, ap}
use Rattle.sms_field.specs.Inside.OctetLists.{octets_are}
use Rattle.sms_field.specs.Inside.ReadableLaws.{unread}
use Rattle.sms_relay.specs.Cp.{cp_message}
use Rattle.sms_relay.specs.Cp.Seen.{seen_cp_body}
use Rattle.sms_relay.specs.Carried.InnerSeen.{seen_inner}
use Rattle.sms_relay.specs.declared.fault.RelayFault.TheVariants.{Short}
use Rattle.sms_message.proofs.Glances.{none_seen, seen_by, note_by, tiny_by, data_by, glance_by, glance_by_octets}
use Rattle.sms_message.proofs.Looks.{note_found, tiny_found, data_found}
use Rattle.sms_message.proofs.look.look_at.Goals as goal

pub invariant_of-result : goal.invariant_of-result
invariant_of-result c =
    let are = octets_are c.args.octets.now (λ i. omega (arith, c.type_inv.octets i)) in
    let none = unread cp_message Short c.args.octets.now c.in_default.field-0.place c.in_default.field-0.why are c.in_default.ensures.refused in
    record { octets = are; seen = λ m read. none_seen c.args.octets.now m none read; tagged = tt; found = none }

pub invariant_of-result-in_default-body : goal.invariant_of-result-in_default-body
invariant_of-result-in_default-body c =
    record {
      octets = octets_are c.args.octets.now (λ i. omega (arith, c.type_inv.octets i));
      seen = λ m read.
          seen_by c.args.octets.now c.in-Ok.connection c.connection.inside.flag c.connection.inside.value (seen_cp_body c.connection.inside.body) (seen_inner c.in-Ok.inner) m (octets_are c.args.octets.now (λ i. omega (arith, c.type_inv.octets i)))
          c.connection.view_is c.in-Ok.ensures.outer c.in-Ok.ensures.inner read
          ∙ note_by c.connection.inside.flag c.connection.inside.value c.connection.inside.body (seen_inner c.in-Ok.inner) c.in_default-body.not-Transfer;
      tagged = c.connection.invariant.value;
      found = note_found c.args.octets.now c.in-Ok.connection c.connection.inside.flag c.connection.inside.value c.connection.inside.body c.connection.view_is c.in_default-body.not-Transfer c.in-Ok.ensures.outer;
    }

pub invariant_of-result-in_default-as_slice : goal.invariant_of-result-in_default-as_slice
invariant_of-result-in_default-as_slice c =
    record {
      octets = octets_are c.args.octets.now (λ i. omega (arith, c.type_inv.octets i));
      seen = λ m read.
          seen_by c.args.octets.now c.in-Ok.connection c.connection.inside.flag c.connection.inside.value (seen_cp_body c.connection.inside.body) (seen_inner c.in-Ok.inner) m (octets_are c.args.octets.now (λ i. omega (arith, c.type_inv.octets i)))
          c.connection.view_is c.in-Ok.ensures.outer c.in-Ok.ensures.inner read
          ∙ (ap (λ b. glance_by c.connection.inside.flag c.connection.inside.value (seen_cp_body b) (seen_inner c.in-Ok.inner)) c.in-Transfer.is
          ∙ (ap (λ l. glance_by_octets c.connection.inside.flag c.connection.inside.value l (seen_inner c.in-Ok.inner)) (sym (c.as_slice.ensures.same ∙ c.in-Transfer.user-is))
          ∙ tiny_by c.connection.inside.flag c.connection.inside.value c.as_slice.result.now (seen_inner c.in-Ok.inner) c.in_default-as_slice.len_below));
      tagged = c.connection.invariant.value;
      found = tiny_found c.args.octets.now c.in-Ok.connection c.connection.inside.flag c.connection.inside.value (seen_cp_body c.connection.inside.body) c.in-Transfer.user c.as_slice.result.now
          c.connection.view_is (ap seen_cp_body c.in-Transfer.is) (c.as_slice.ensures.same ∙ c.in-Transfer.user-is) c.in_default-as_slice.len_below c.connection.invariant.body c.in-Ok.ensures.outer;
    }

pub invariant_of-result-2 : goal.invariant_of-result-2
invariant_of-result-2 c =
    record {
      octets = octets_are c.args.octets.now (λ i. omega (arith, c.type_inv.octets i));
      seen = λ m read.
          seen_by c.args.octets.now c.in-Ok.connection c.connection.inside.flag c.connection.inside.value (seen_cp_body c.connection.inside.body) (seen_inner c.in-Ok.inner) m (octets_are c.args.octets.now (λ i. omega (arith, c.type_inv.octets i)))
          c.connection.view_is c.in-Ok.ensures.outer c.in-Ok.ensures.inner read
          ∙ (ap (λ b. glance_by c.connection.inside.flag c.connection.inside.value (seen_cp_body b) (seen_inner c.in-Ok.inner)) c.in-Transfer.is
          ∙ (ap (λ l. glance_by_octets c.connection.inside.flag c.connection.inside.value l (seen_inner c.in-Ok.inner)) (sym (c.as_slice.ensures.same ∙ c.in-Transfer.user-is))
          ∙ data_by c.connection.inside.flag c.connection.inside.value c.as_slice.result.now (seen_inner c.in-Ok.inner) c.relay_at-relay.result c.in-len2-up.len_at_least c.relay_at-relay.ensures));
      tagged = c.connection.invariant.value;
      found = data_found c.args.octets.now c.in-Ok.connection (seen_inner c.in-Ok.inner) c.connection.inside.flag c.connection.inside.value (seen_cp_body c.connection.inside.body) c.in-Transfer.user c.as_slice.result.now
          c.connection.view_is (ap seen_cp_body c.in-Transfer.is) (c.as_slice.ensures.same ∙ c.in-Transfer.user-is) c.in-len2-up.len_at_least c.connection.invariant.body c.in-Ok.ensures.outer c.in-Ok.ensures.inner;
    }
