use Rattle.std.proofs.Common.{◌≡◌, ◌∙◌, ◌+◌, subst, length, drop, List, ℕ}
use Rattle.std.proofs.lemmas.Result.{err_from_is_err_and}
use Rattle.sms_script.proofs.PacketLemmas.{packets_after}
use Rattle.sms_script.proofs.PutLemmas.{Appends-none, at_once}
use Rattle.sms_script.specs.Inside.Events.{event_text}
use Rattle.sms_script.specs.Play.Puts.{PutsAtOnce}
use Rattle.sms_script.proofs.playing.event.take_event.Goals as goal

pub returns-in_err-step-clause-takes : goal.returns-in_err-step-clause-takes
returns-in_err-step-clause-takes g c =
    let p = err_from_is_err_and c.from_residual.result c.from_residual.ensures.1 in
    let s = c.in_err-step.ensures.steps in
    let q = c.in_err-step.ensures.packets in
    (s.0, q.0, s.1, q.1, rw (p.1, p.2) (Appends-none (g.K.Sink.contents c.args.sink.now)))

pub returns-in_err-write_event-clause-takes : goal.returns-in_err-write_event-clause-takes
returns-in_err-write_event-clause-takes g c =
    let p = err_from_is_err_and c.from_residual-in_err-write_event.result c.from_residual-in_err-write_event.ensures.1 in
    let s = c.in_ok-step.ensures.steps in
    let q = c.in_ok-step.ensures.packets in
    (s.0, q.0, s.1, q.1, rw (p.1, p.2) (Appends-none (g.K.Sink.contents c.args.sink.now)))

pub returns-clause-takes : goal.returns-clause-takes
returns-clause-takes g c =
    let s = c.in_ok-step.ensures.steps in
    let q = c.in_ok-step.ensures.packets in
    let first = c.packet_count-first.ensures in
    let rest : drop c.packet_count-first.result (g.N.Network.conduct.put_out c.step.new.self) ≡ q.0 = packets_after (g.N.Network.conduct.put_out c.args.network.now) q.0 _ _ q.1 first in
    let text : c.deref-2.result.now ≡ event_text c.args.script.now c.args.number s.0 (length (g.N.Network.conduct.put_out c.args.network.now) + 1) q.0 =
    c.deref-2.ensures.value ∙ rw (rest, first, c.deref.ensures.value, s.2) at c.in_ok-write_event.ensures in
    (s.0, q.0, s.1, q.1, subst (λ (t : List ℕ). PutsAtOnce (g.K.Sink.contents c.args.sink.now) (g.K.Sink.contents c.put.new.sink) t c.put.result) text (at_once _ _ _ c.put.result c.put.ensures.puts c.put.ensures.fault))
