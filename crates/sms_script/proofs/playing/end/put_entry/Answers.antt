use Rattle.std.proofs.Common.{◌∙◌, subst, List, ℕ}
use Rattle.std.proofs.lemmas.Result.{err_from_is_err_and}
use Rattle.sms_script.proofs.PutLemmas.{puts_none}
use Rattle.sms_script.specs.Play.Puts.{Puts}
use Rattle.sms_script.specs.Transcript.Lines.{entry_line}
use Rattle.sms_script.specs.Transcript.Shown.{stored}
use Rattle.sms_script.proofs.playing.end.put_entry.Goals as goal

pub returns-in_err-push_entry_line-clause-puts : goal.returns-in_err-push_entry_line-clause-puts
returns-in_err-push_entry_line-clause-puts g c =
    let p = err_from_is_err_and c.from_residual.result c.from_residual.ensures.1 in
    rw (p.1, p.2) (puts_none (g.K.Sink.contents c.args.sink.now) (entry_line (stored c.args.entry)))

pub returns-clause-puts : goal.returns-clause-puts
returns-clause-puts g c =
    subst (λ (t : List ℕ). Puts (g.K.Sink.contents c.args.sink.now) (g.K.Sink.contents c.put.new.sink) t c.put.result) (c.deref.ensures.value ∙ rw c.clear.ensures.items at c.in_ok-push_entry_line.ensures) c.put.ensures.puts
