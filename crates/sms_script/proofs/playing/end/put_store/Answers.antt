use Rattle.std.proofs.Common.{◌∙◌, subst, List, ℕ}
use Rattle.std.proofs.lemmas.Result.{err_from_is_err_and}
use Rattle.sms_script.proofs.PutLemmas.{puts_none}
use Rattle.sms_script.specs.Play.Puts.{Puts}
use Rattle.sms_script.specs.Transcript.Lines.{store_line}
use Rattle.sms_script.proofs.playing.end.put_store.Goals as goal

pub returns-in_err-push_store_line-clause-puts : goal.returns-in_err-push_store_line-clause-puts
returns-in_err-push_store_line-clause-puts g c =
    let p = err_from_is_err_and c.from_residual.result c.from_residual.ensures.1 in
    rw (p.1, p.2) (puts_none (g.K.Sink.contents c.args.sink.now) (store_line c.args.name.now c.args.count))

pub returns-clause-puts : goal.returns-clause-puts
returns-clause-puts g c =
    subst (λ (t : List ℕ). Puts (g.K.Sink.contents c.args.sink.now) (g.K.Sink.contents c.put.new.sink) t c.put.result) (c.deref.ensures.value ∙ rw c.clear.ensures.items at c.in_ok-push_store_line.ensures) c.put.ensures.puts
