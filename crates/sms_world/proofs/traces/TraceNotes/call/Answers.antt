use Rattle.std.proofs.Common.{◌≡◌, ◌≢◌, ℕ, ◌+◌, ◌-◌, ◌<◌, ◌≤◌, ◌^◌, Bool, List, [], ◌∷◌, ◌++◌, length, Option, Some, None, Ok, refl, sym, ap, ◌∙◌, subst, arith}
use Rattle.std.specs.List.{slice_get}
use Rattle.std.proofs.Math.ListN.{set}
use Rattle.std.proofs.lemmas.Option.{slice_get_read}
use Rattle.sms_message.specs.Changed.{changed}
use Rattle.sms_world.specs.declared.notes.sender.SenderNotes.{SenderNotes}
use Rattle.sms_world.specs.Machine.Next.{entered}
use Rattle.sms_world.specs.Ledger.{Mark, SenderNote, called, called_marks}
use Rattle.sms_world.specs.Inside.NotesValue.{sender_note, sender_at}
use Rattle.sms_world.specs.Inside.TraceValue.{called_with}
use Rattle.sms_world.specs.TraceTables.{out_at}
use Rattle.sms_world.specs.Traced.{called_traces, called_outs}
use Rattle.sms_world.proofs.Fronts.{set_here, accepted_alike}
use Rattle.sms_world.proofs.MayCall.{may_call}
use Rattle.sms_world.proofs.Replaced.{everywhere, changed_here, changed_elsewhere, set_elsewhere}
use Rattle.sms_world.proofs.traces.TraceNotes.call.Goals as goal

-- one sender in place of another
sender_in_place : (xs : List SenderNotes) (phone : ℕ) (y : SenderNotes) (note : SenderNote) → phone < length xs → sender_note y ≡ note
    → (q : ℕ) → sender_at (slice_get (set xs phone y) q) ≡ changed (λ p. sender_at (slice_get xs p)) phone note q
sender_in_place xs phone y note l e q =
    everywhere (λ i. sender_at (slice_get (set xs phone y) i) ≡ changed (λ p. sender_at (slice_get xs p)) phone note i) phone q
    (ap sender_at (set_here xs phone y l) ∙ (e ∙ sym (changed_here (λ p. sender_at (slice_get xs p)) phone note)))
    (λ ne. ap sender_at (set_elsewhere xs phone q y ne) ∙ sym (changed_elsewhere (λ p. sender_at (slice_get xs p)) phone q note ne))

-- one count in place of another
out_in_place : (xs : List ℕ) (phone y n : ℕ) → phone < length xs → y ≡ n → (q : ℕ) → out_at (slice_get (set xs phone y) q) ≡ changed (λ p. out_at (slice_get xs p)) phone n q
out_in_place xs phone y n l e q =
    everywhere (λ i. out_at (slice_get (set xs phone y) i) ≡ changed (λ p. out_at (slice_get xs p)) phone n i) phone q
    (ap out_at (set_here xs phone y l) ∙ (e ∙ sym (changed_here (λ p. out_at (slice_get xs p)) phone n)))
    (λ ne. ap out_at (set_elsewhere xs phone q y ne) ∙ sym (changed_elsewhere (λ p. out_at (slice_get xs p)) phone q n ne))

pub returns-clause-noted : goal.returns-clause-noted
returns-clause-noted c counted =
    let s = c.index_mut-sender.result.now in
    let there : slice_get c.args.self.now.senders.items c.args.phone ≡ Some s
    = slice_get_read c.args.self.now.senders.items (length c.args.self.now.senders.items) c.args.phone s refl c.requires.room.sender_is c.index_mut-sender.ensures.value in
    let n = c.index_mut-outs.result.now in
    let out : slice_get c.args.self.now.outs.items c.args.phone ≡ Some n
    = slice_get_read c.args.self.now.outs.items (length c.args.self.now.outs.items) c.args.phone n refl c.requires.outs c.index_mut-outs.ensures.value in
    let m = may_call c.args.self.now.senders.items (length c.args.self.now.numbers.items) c.args.phone c.args.told counted.0 s there in
    let size = c.len-count.ensures in
    let count : c.len-count.result ≡ length c.args.self.now.numbers.items = omega (arith, size) in
    let note : sender_note c.call.new.self ≡ called (length c.args.self.now.numbers.items) (sender_at (slice_get c.args.self.now.senders.items c.args.phone)) (Ok c.args.told)
    = c.call.ensures m.0 ∙ (ap (λ k. called k (sender_note s) (Ok c.args.told)) count
    ∙ sym (ap (λ (o : Option SenderNotes). called (length c.args.self.now.numbers.items) (sender_at o) (Ok c.args.told)) there)) in
    let few : c.call.new.self.accepted < 2 ^ 64 - 1
    = subst (λ k. k < 2 ^ 64 - 1) (sym (ap (λ (x : SenderNote). x.accepted) (c.call.ensures m.0) ∙ accepted_alike c.len-count.result (sender_note s) c.args.told)) m.1 in
    let marks : called_with c.put_out-neither.result.0 c.put_out-neither.result.1
    ≡ called_marks (called (length c.args.self.now.numbers.items) (sender_at (slice_get c.args.self.now.senders.items c.args.phone)) (Ok c.args.told)) c.args.reject (Ok c.args.told)
    = c.put_out-neither.ensures few ∙ ap (λ (x : SenderNote). called_marks x c.args.reject (Ok c.args.told)) note in
    let outs_is : n ≡ out_at (slice_get c.args.self.now.outs.items c.args.phone) = sym (ap out_at out) in
    let after : called_outs n (called_with c.put_out-neither.result.0 c.put_out-neither.result.1)
    ≡ called_outs (out_at (slice_get c.args.self.now.outs.items c.args.phone))
    (called_marks (called (length c.args.self.now.numbers.items) (sender_at (slice_get c.args.self.now.senders.items c.args.phone)) (Ok c.args.told)) c.args.reject (Ok c.args.told))
    = ap (λ k. called_outs k (called_with c.put_out-neither.result.0 c.put_out-neither.result.1)) outs_is
    ∙ ap (called_outs (out_at (slice_get c.args.self.now.outs.items c.args.phone))) marks in
    let fits = subst (λ k. k ≤ 2 ^ 64 - 1) (changed_here (λ p. out_at (slice_get c.args.self.now.outs.items p)) c.args.phone _ ∙ sym after) counted.1 in
    record {
      sent = c.put_called.ensures.sent
          ∙ (ap (λ k. entered (called_traces k (called_with c.put_out-neither.result.0 c.put_out-neither.result.1)) c.args.self.now.sent.items) outs_is
          ∙ ap (λ l. entered (called_traces (out_at (slice_get c.args.self.now.outs.items c.args.phone)) l) c.args.self.now.sent.items) marks);
      numbers = c.put_number.ensures;
      sender = sender_in_place c.args.self.now.senders.items c.args.phone c.call.new.self
          (called (length c.args.self.now.numbers.items) (sender_at (slice_get c.args.self.now.senders.items c.args.phone)) (Ok c.args.told)) c.requires.room.sender_is note;
      outs = out_in_place c.args.self.now.outs.items c.args.phone c.put_called.new.outs
          (called_outs (out_at (slice_get c.args.self.now.outs.items c.args.phone))
          (called_marks (called (length c.args.self.now.numbers.items) (sender_at (slice_get c.args.self.now.senders.items c.args.phone)) (Ok c.args.told)) c.args.reject (Ok c.args.told)))
          c.requires.outs (c.put_called.ensures.outs fits ∙ after);
      held = λ p r q. refl;
    }
